-- What crates above may rely on: the lemmas of this crate that they cite.

-- Walks over a source, from each position to the one behind it.
pub use Rattle.ss_rows.proofs.Walking.{Walked, position_stands, rows_left, walked_falls, walked_on, walked_row}
