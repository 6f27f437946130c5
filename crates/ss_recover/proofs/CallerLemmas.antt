-- What crates above may rely on: the lemmas of this crate that they cite.

-- A catalogue that was read may be given.
pub use Rattle.ss_recover.proofs.Own.{read_is_own}
