mod DrawLemmas
mod FileLists
mod GoodFiles
mod WellFormed
