pub mod Advancing
pub mod CallerLemmas
pub mod Emitting
pub mod Following
pub mod Kept
pub mod Passing
pub mod Premises
