mod Keeping
mod ValuesSet
