pub mod Machine
pub mod Transfers
pub mod Due
pub mod Step
