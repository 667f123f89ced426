pub mod LiveLines
pub mod MergedLines
pub mod Report
pub mod ReportPieces
pub mod Summary
pub mod SymbolParts
