pub mod Causes
pub mod Pending
pub mod Enter
pub mod Return
