pub mod Locality
pub mod ListLocality
pub mod HeldParts
pub mod SplitParts
