pub mod Whole
pub mod Cuts
pub mod Marks
pub mod Sound
pub mod Accepted
pub mod Kept
