pub mod Candidates
pub mod Deletions
pub mod DeltaMaps
pub mod DeltaWords
pub mod Laws
pub mod LinkDeletions
pub mod Shards
