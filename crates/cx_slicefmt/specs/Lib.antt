pub mod Rules
pub mod Text
pub mod Reading
pub mod Scan
pub mod Fault
pub mod Engine
pub mod Writing
