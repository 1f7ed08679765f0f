pub mod Arithmetic
pub mod Asking
pub mod Control
pub mod Effect
pub mod Loads
pub mod User
pub mod Values
