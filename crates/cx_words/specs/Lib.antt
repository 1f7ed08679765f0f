pub mod Arguments
pub mod Number
pub mod Parse
pub mod Queries
