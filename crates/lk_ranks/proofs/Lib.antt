pub mod NameNumbers
pub mod NameOrder
pub mod RankSteps
pub mod Rising
pub mod Tallies
pub mod Turns
