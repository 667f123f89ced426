pub mod GroupsFollow
pub mod OwnerPlaces
pub mod OwnersLive
pub mod OwnersOnce
pub mod TableParts
pub mod Tiling
pub mod ToldByTable
