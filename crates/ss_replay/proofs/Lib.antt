pub mod CallerLemmas
pub mod Premises
pub mod Replaying
pub mod Valued
