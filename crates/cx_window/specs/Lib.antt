pub mod Marks
pub mod Slicing
pub mod Slice
pub mod Cut
