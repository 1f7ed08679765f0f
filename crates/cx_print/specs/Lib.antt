pub mod Hex
pub mod Words
pub mod Lines
pub mod Names
pub mod Operands
pub mod Disassembly
pub mod Room
