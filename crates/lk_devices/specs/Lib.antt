pub mod Device
pub mod Memory
pub mod ReadAll
pub mod Standard
