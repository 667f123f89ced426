pub mod Elements
mod EndsLemmas
pub mod Events
pub mod ExpressionLemmas
pub mod GoodExpressions
pub mod GoodFiles
pub mod GoodInputs
pub mod GoodLinks
pub mod GoodPartFields
pub mod GoodSymbols
pub mod InputLemmas
mod NameLemmas
mod NumberedLemmas
pub mod NumberedSymbolLemmas
pub mod Numbers
mod OutputSections
pub mod PartNumbers
pub mod Places
pub mod Powers
pub mod Rounding
mod SectionGroupLemmas
pub mod Starts
pub mod SymbolLemmas
