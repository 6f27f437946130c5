pub mod Pushes
pub mod Stops
pub mod WeakLists
