-- What crates above may rely on: the lemmas of this crate that they cite.

-- The first name of nothing.
pub use Rattle.ss_catalog_outline.proofs.FirstUnknown.{first_unknown_append, used_itself, used_mapped, used_same, uses_same}
