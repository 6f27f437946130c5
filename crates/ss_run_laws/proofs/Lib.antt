pub mod Done
pub mod InOrder
pub mod OneRun
pub mod Resting
pub mod Taken
pub mod worked
