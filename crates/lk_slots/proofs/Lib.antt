mod Lists
mod Holding
mod Tasks
mod Sound
mod Kept
mod Moving
mod Working
mod Handing
mod Setting
mod Complete
pub mod Behind
