pub mod AnswerLines
pub mod QueriesRead
pub mod QueriesCounted
