pub mod Laws
pub mod LinkGraphs
pub mod LinkLists
