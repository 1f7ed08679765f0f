pub mod Through
pub mod ProcessBegun
pub mod CallsBegun
