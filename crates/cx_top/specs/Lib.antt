pub mod SeedTold
