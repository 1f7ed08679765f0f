pub mod Replayed
pub mod StepCounts
