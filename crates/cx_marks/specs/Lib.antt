pub mod Stamps
pub mod Marked
