pub mod Machine
pub mod Reach
pub mod States
pub mod Laws
