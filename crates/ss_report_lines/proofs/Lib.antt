pub mod CallerLemmas
pub mod Lengths
pub mod Floats
pub mod EachItem
pub mod Depths
