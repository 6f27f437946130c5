pub mod CallerLemmas
pub mod Json
pub mod Splits
pub mod SoFar
