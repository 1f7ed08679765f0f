pub mod Map
pub mod Bytes
