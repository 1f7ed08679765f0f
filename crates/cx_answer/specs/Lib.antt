pub mod Latest
pub mod AnswerOf
pub mod Lines
