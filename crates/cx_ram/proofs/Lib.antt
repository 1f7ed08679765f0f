pub mod Loads
pub mod LoadsAndWrites
pub mod Pages
pub mod Writes
pub mod SameWrites
pub mod JoinedPages
pub mod SavedMemories
pub mod Places
