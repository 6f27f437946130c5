-- What crates above may rely on: the lemmas of this crate that they cite.

-- How often a pair stands in a list of pairs.
pub use Rattle.ss_index.proofs.Counting.{counted_in, none_of, occurs, occurs_append, one, same_pairs, some_added, stands_nowhere, stands_where}
-- A pair that is added and dropped.
pub use Rattle.ss_index.proofs.Taking.{itself, taken_back, tied}
-- The pairs of two indexes together, and those of one part.
pub use Rattle.ss_index.proofs.Uniting.{both_times, came_apart, counted_both, kept_pairs, pairs_append}
