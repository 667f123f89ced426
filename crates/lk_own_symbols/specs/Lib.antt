pub mod AtHand
pub mod EdgeLaws
pub mod Edges
pub mod Redirects
pub mod Stores
