pub mod AlignmentLaws
pub mod ApartLaws
mod AtHand
mod Beginnings
pub mod Checked
mod Computing
mod EventSteps
mod GivenLists
mod HullLaws
pub mod Insides
mod Knowing
mod LastOnes
pub mod Loading
pub mod MassLaws
pub mod Moves
pub mod Multiples
pub mod OpenSegments
pub mod PartEvents
pub mod Passing
pub mod PlacedParts
pub mod PlacedSections
mod PlacedTables
mod PlainScanLaws
pub mod Ranges
mod RegionLaws
mod RegionNames
mod SecondaryLaws
pub mod SectionEnds
mod SectionParts
mod SectionRegions
mod SegmentAlignments
mod SegmentFiles
mod ShallowLinks
pub mod Steps
mod Tables
mod WalkLaws
pub mod WalkRecords
pub mod WalkSteps
pub mod WalkedAlignments
mod WithoutPositions
