pub mod Calling
pub mod Gathers
pub mod Begun
pub mod Slicing
pub mod Stands
