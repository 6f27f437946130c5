-- What crates above may rely on: the lemmas of this crate that they cite.

-- Values and rows that compare as equal are the same.
pub use Rattle.ss_value.proofs.Ties.{alike, rows_compare, same_row, same_rows, same_value}
