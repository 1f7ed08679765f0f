pub mod Slicing
pub mod Stands
