mod Filling
mod Good
mod Taking
pub mod Steps
