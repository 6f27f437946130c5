-- Facts of this crate at a concrete table.
pub mod Amending
