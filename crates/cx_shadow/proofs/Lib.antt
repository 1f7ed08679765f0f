pub mod Marked
pub mod Tables
pub mod Several
pub mod Runs
