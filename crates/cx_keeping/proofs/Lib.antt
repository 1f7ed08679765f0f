pub mod Marked
pub mod Going
