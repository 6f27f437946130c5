pub mod Tables
pub mod Steps
pub mod Procedures
pub mod Outlines
pub mod Names
pub mod Limits
pub mod Twice
pub mod Unknown
