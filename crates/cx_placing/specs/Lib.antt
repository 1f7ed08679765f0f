pub mod Touched
pub mod Placing
pub mod Called
pub mod CallsAlone
pub mod Alike
pub mod Records
pub mod Gathering
