pub mod MergingWords
pub mod RedirectWords
