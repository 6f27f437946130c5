-- What crates above may rely on: the lemmas of this crate that they cite.

-- An entry whose value is known behind a list is right for marks that all know that list; whose token has a role.
pub use Rattle.ss_commitlog.proofs.OneList.{right_at_one_list, token_of}
-- Behind a list that goes on from what a token knew: the database, and the part of the token's partition.
pub use Rattle.ss_commitlog.proofs.Replaying.{after_rest, own_part, untouched}
-- The entries of a list of items: of two lists, how many there are, and the database after both.
pub use Rattle.ss_commitlog.proofs.Replaying.{after-append, length-listed_of, listed_of-append}
-- Entries that don't touch the home of a border stream's procedure add no batch to that stream.
pub use Rattle.ss_commitlog.proofs.BorderStreams.{border_streams_stay}
-- Members of two lists.
pub use Rattle.ss_commitlog.proofs.Lists.{in_either, in_left, in_right}
-- Tokens that go on.
pub use Rattle.ss_commitlog.proofs.Growing.{follows_on, on_and_on, on_itself, on_longer}
