-- Facts of this crate at a concrete catalogue.
pub mod Settling
