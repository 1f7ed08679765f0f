pub mod Interval
pub mod Dues
pub mod Checkpoints
pub mod Thinned
pub mod Keeping
pub mod Seeking
pub mod Opening
