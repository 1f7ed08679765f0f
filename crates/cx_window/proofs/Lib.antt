pub mod Marking
pub mod RunSlices
pub mod Running
pub mod WindowOf
pub mod Kept
pub mod Again
