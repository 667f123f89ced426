pub mod GroupStarts
