pub mod Lines
pub mod LiveLines
pub mod PieceLines
pub mod SingleLines
pub mod SymbolParts
