pub mod Counting
pub mod RootLines
