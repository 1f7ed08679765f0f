pub mod Memories
pub mod Frames
pub mod Counts
pub mod Tables
