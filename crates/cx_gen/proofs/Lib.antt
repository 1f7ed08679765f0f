pub mod Drawn
pub mod Making
pub mod Paging
pub mod ReadBack
