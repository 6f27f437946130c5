pub mod PartSets
