pub mod Restart
pub mod Pushes
