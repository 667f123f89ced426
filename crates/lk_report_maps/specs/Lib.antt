pub mod GoodReports
pub mod Laws
pub mod MappedReports
pub mod ToldLines
