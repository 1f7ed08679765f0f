pub mod Composed
pub mod Filling
pub mod Consuming
pub mod Ordered
pub mod Streamed
