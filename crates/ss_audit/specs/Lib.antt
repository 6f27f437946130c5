pub mod Breaks
pub mod Lent
pub mod Saying
pub mod Clients
pub mod Positions
pub mod Asked
pub mod Running
