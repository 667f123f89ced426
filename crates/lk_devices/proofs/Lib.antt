pub mod Past
pub mod Written
