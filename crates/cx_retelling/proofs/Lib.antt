pub mod ProcessReplays
pub mod CallReplays
pub mod Retold
pub mod SameDoings
