pub mod CallerLemmas
pub mod Moments
pub mod Recorded
pub mod Loose
pub mod Staying
