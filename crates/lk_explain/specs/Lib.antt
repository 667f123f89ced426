pub mod Explaining
pub mod Faults
pub mod KeepPath
pub mod Laws
pub mod Searching
pub mod Sharing
