pub mod Decoding
pub mod Encoding
pub mod Groups
pub mod KeptWords
pub mod Operands
pub mod Table
pub mod WellFormed
