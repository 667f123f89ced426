mod FilesOfSymbols
mod GroupEnds
pub mod RedirectLaws
mod Redirecting
