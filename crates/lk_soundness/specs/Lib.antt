pub mod FileBytes
pub mod GroupPlaces
pub mod Laws
pub mod Sound
pub mod ToldMemory
