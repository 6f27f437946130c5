-- What crates above may rely on: the lemmas of this crate that they cite.

-- A value with the form of a line of a report has no float.
pub use Rattle.ss_report_lines.proofs.Floats.{has_kind-whole}
