pub mod Fronts
pub mod ScriptedAnswers
pub mod SeededAnswers
