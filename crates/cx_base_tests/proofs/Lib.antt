pub mod RamWords
