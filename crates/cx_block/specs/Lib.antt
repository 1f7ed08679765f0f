pub mod Block
pub mod Sound
