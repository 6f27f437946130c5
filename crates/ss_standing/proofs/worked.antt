pub mod Premises
pub mod Needed
pub mod Checkpoint
