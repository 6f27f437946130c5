pub mod Follows
pub mod Advances
