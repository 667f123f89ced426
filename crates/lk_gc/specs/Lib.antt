pub mod StateTexts
pub mod States
