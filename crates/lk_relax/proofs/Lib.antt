pub mod InputsThere
pub mod Positioned
pub mod PositionRooms
pub mod NoStarts
pub mod Scanning
mod Staging
mod ReadBack
mod Shrinking
mod FirstScan
mod Emptied
mod Keeping
mod StillParts
mod PastSites
mod FirstPlaced
pub mod Deleting
pub mod Finding
pub mod Falling
pub mod Passing
pub mod Anew
pub mod Turning
pub mod Ending
pub mod Beginning
pub mod Fitted
pub mod FirstLooks
