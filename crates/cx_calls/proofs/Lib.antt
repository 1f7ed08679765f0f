pub mod Taking
pub mod Ascending
pub mod Placed
pub mod Growing
pub mod Fed
pub mod Accessed
