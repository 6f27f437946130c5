pub mod CallerLemmas
pub mod Asked
pub mod Pushes
pub mod WeakLists
pub mod Recovered
pub mod Stops
pub mod worked
