pub mod Behind
pub mod Fitting
pub mod Reaching
mod Resolving
