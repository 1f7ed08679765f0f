pub mod Rules
pub mod Keeps
pub mod Words
pub mod Table
pub mod Bits
pub mod Values
pub mod Access
