-- What crates above may rely on: the lemmas of this crate that they cite.

-- What a choice with nothing else gives comes of its test.
pub use Rattle.ss_audit_laws.proofs.Forms.{chosen}
-- What lines give comes of the test of a choice.
pub use Rattle.ss_audit_laws.proofs.Texts.{chosen_ok}
-- What two steps give comes of the first; and entries stand in front of what is behind them.
pub use Rattle.ss_audit_laws.proofs.Splits.{both_steps, entries_first}
