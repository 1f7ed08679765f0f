pub mod Cause
pub mod Input
pub mod MemorySink
pub mod MemorySource
pub mod Plan
pub mod ScriptWorld
pub mod SeedWorld
pub mod Turns
