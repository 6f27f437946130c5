pub mod Names
pub mod Ties
pub mod CallerLemmas
pub mod Crossing
