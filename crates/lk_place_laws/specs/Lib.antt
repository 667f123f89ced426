pub mod Base
pub mod Distance
pub mod Laws
pub mod MemoryRanges
pub mod PlacementLaws
pub mod Plans
pub mod SectionRanges
pub mod SegmentHulls
