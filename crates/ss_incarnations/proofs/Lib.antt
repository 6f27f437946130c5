pub mod Few
pub mod Fronts
pub mod Openings
pub mod Incarnations
pub mod Runs
pub mod Pushes
pub mod Reported
pub mod worked
