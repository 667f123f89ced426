mod Ending
mod FileSections
mod Querying
