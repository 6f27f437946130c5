-- What crates above may rely on: the lemmas of this crate that they cite.

-- Reports of one list, from databases of which the same is kept, have the same last lines.
pub use Rattle.ss_headline.proofs.EachDatabase.{same_end}
-- From databases of which the same is kept, a list has the same fronts, replies and tables, and leaves as much pending.
pub use Rattle.ss_headline.proofs.EachDatabase.{drained_carried, front_carried, replies_carried}
-- What stands for the empty database stands for whatever an empty disk does.
pub use Rattle.ss_headline.proofs.Untouched.{stands_as_empty}
-- What a weak run began at, its files stand for.
pub use Rattle.ss_headline.proofs.Recovered.{weakly_began}
-- What stands for the database before a list is a prefix of it, and a prefix of no list is that.
pub use Rattle.ss_headline.proofs.Untouched.{no_list_stands, none_stands}
-- An opening, and an engine behind it: what a crash leaves, and what stays.
pub use Rattle.ss_headline.proofs.Untouched.{crashes_join, receipts_join}
-- What is told of a run's stop since its opening is told since before it.
pub use Rattle.ss_headline.proofs.Runs.{answered_since, failed_since}
-- The store with a batch has logged each list that stands behind others of its entries, with checkpoints where they are far enough apart.
pub use Rattle.ss_headline.proofs.worked.Premises.{logged_to as batch_logged}
-- A disk on which a store is made, on which a batch is run, and which is opened again and closed without a further one.
pub use Rattle.ss_headline.proofs.worked.Premises.{kind as batch_disk, seen as batch_seen, start as batch_start, behind as behind_batch, opened as batch_opened, closed as batch_closed, receipted as batch_receipted, opened_again, closed_again, found_again, new_stands as new_store_stands, nothing as batch_not_run}
-- What the batch's client asked for and was told.
pub use Rattle.ss_headline.proofs.worked.Premises.{request as batch_request, told as batch_told, answered as batch_answered}
