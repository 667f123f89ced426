pub mod Commands
pub mod Completeness
pub mod Refusals
mod MappedRuns
pub mod RunLaws
pub mod SoundRuns
pub mod Ways
