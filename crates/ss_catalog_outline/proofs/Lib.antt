pub mod CallerLemmas
pub mod FirstUnknown
