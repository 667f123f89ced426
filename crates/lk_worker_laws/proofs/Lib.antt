mod ClosedGroups
mod FileUnits
mod MetAsks
