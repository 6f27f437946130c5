pub mod Joining
pub mod Sorting
