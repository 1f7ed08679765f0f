pub mod Items
pub mod Runs
pub mod Steps
pub mod Handed
pub mod Entries
pub mod Inputs
pub mod Reading
pub mod Answering
