-- What crates above may rely on: the lemmas of this crate that they cite.

-- No line of the report has a float, so each line has one text.
pub use Rattle.ss_report.proofs.Floats.{entry_no_float, row_no_float}
-- The tables of a map by name, in the order of their names.
pub use Rattle.ss_report.proofs.Naming.{values_named}
