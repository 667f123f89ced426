pub mod Around
pub mod Joining
pub mod Lists
pub mod Pieces
pub mod Reading
pub mod Tokens
pub mod Workers
