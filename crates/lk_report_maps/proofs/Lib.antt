mod GoodMaps
mod GoodReports
mod LayoutFacts
mod LinkFacts
mod ListFacts
mod MergeFacts
mod PlaceFacts
pub mod Read
mod ShortLines
pub mod Told
mod ToldAttributes
mod TypeFacts
pub mod Whole
