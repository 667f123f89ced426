mod Apart
pub mod CandidateLemmas
mod DeltaLemmas
mod MapLemmas
mod Offsets
mod Rising
mod Together
mod SideBySide
mod ShardLemmas
mod PastLimits
