pub mod BranchLaws
pub mod Branches
pub mod BranchWords
pub mod Orders
pub mod Planning
pub mod Texts
pub mod ThunkPlans
