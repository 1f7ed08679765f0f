pub mod Agreement
pub mod Bytes
pub mod Devices
pub mod Entry
pub mod Kinds
pub mod Mode
pub mod Quick
pub mod Walks
