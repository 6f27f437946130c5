pub mod Commits
pub mod Executed
pub mod Stepping
pub mod Runs
