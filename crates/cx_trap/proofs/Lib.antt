pub mod KeptRules
pub mod PendingCauses
