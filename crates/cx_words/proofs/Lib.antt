mod Counts
mod Digits
mod QueryCounts
mod Spelled
