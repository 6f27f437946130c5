pub mod Alone
pub mod CallerLemmas
pub mod Gathering
mod Lists
mod Moves
