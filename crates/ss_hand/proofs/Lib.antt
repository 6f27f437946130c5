mod Alone
pub mod CallerLemmas
pub mod Carrying
pub mod GoingOn
mod InOrder
mod Tokens
mod Turned
mod Uniting
mod Partitions
pub mod Crossing
