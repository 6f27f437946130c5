pub mod Once
pub mod OneClient
pub mod WholeRun
