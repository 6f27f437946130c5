-- What crates above may rely on: the lemmas of this crate that they cite.

-- What the streams and the commit need of an entry that has run.
pub use Rattle.ss_proc.proofs.Advancing.{advances_on, countable_on}
-- What looks at the counts and streams of a database finds there.
pub use Rattle.ss_proc.proofs.Advancing.{Sees, sees_of}
