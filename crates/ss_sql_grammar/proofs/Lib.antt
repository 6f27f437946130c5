pub mod Agree
pub mod CallerLemmas
pub mod Parts
pub mod Rules
pub mod Turns
