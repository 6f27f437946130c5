pub mod RunAnswers
pub mod Stands
pub mod BySteps
pub mod Replies
