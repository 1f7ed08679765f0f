pub mod Roots
pub mod Lines
