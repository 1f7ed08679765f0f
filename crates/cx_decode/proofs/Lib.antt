pub mod Decoding
pub mod Masks
pub mod Spelling
pub mod Table
