pub mod Places
pub mod Knowing
