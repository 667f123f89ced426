pub mod FileTexts
pub mod Files
pub mod Groups
pub mod Queries
pub mod QueryLaws
pub mod QueryWords
pub mod SectionResolutions
pub mod SectionSlots
