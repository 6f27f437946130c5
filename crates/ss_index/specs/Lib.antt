pub mod Pairs
pub mod Entries
pub mod Parts
pub mod Merges
pub mod Indexes
