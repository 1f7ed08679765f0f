pub mod First
pub mod Numbers
pub mod Rising
pub mod Shown
pub mod Pages
pub mod Fetched
pub mod Rows
pub mod Held
