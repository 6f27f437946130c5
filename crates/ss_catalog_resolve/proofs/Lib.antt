pub mod Places
pub mod InOrder
pub mod TextAnswers
pub mod Narrow
pub mod Indexed
