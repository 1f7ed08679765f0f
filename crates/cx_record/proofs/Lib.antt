pub mod Fronts
pub mod PutRecords
pub mod Recording
pub mod Played
