pub mod Faults
pub mod Ahead
pub mod Steps
pub mod Settling
pub mod Replaying
