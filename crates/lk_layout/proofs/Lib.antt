pub mod Answering
pub mod CanMoves
mod DynsymStart
pub mod HeldParts
pub mod LaidOut
mod LateMarks
mod MovedEnds
pub mod Moving
pub mod OneAnswer
pub mod PlacedSites
pub mod Refusals
pub mod SameMemory
pub mod Settings
mod UsersFound
