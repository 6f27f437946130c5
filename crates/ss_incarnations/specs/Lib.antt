pub mod Incarnations
pub mod Openings
pub mod Reopening
pub mod Runs
pub mod Pushes
