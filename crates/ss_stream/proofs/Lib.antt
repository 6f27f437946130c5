pub mod CallerLemmas
pub mod Least
pub mod OneStream
pub mod Opening
pub mod Premises
pub mod Resumed
pub mod Crossing
