pub mod CallerLemmas
pub mod Positions
pub mod Sets
