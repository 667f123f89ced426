mod NothingAsked
mod NothingMerged
pub mod CommonsFound
pub mod EntriesTaken
pub mod GroupJoining
pub mod Imaging
pub mod PartCounts
pub mod Placing
pub mod Pushing
