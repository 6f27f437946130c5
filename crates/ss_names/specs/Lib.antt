pub mod Names
pub mod Hashed
