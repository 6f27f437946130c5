pub mod CallerLemmas
pub mod Starts
