pub mod GroupRanges
pub mod OwnerLaws
pub mod Tiles
