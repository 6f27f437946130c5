pub mod PartSets
pub mod Homes
