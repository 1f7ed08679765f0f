pub mod Fault
pub mod Putting
pub mod Promise
