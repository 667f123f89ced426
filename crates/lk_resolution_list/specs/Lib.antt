pub mod Kept
pub mod Lists
pub mod StoreLaws
pub mod Stores
