pub mod WordLists
pub mod RuleTests
pub mod SameWords
pub mod Masks
pub mod KeptRules
pub mod LegalReads
pub mod StateAgain
