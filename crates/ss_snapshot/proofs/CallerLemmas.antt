-- What crates above may rely on: the lemmas of this crate that they cite.

-- A text is one catalogue's, bodies to be installed aside.
pub use Rattle.ss_snapshot.proofs.OneAnswer.{of_one_text}
-- A catalogue that is read has no bodies to be installed; with the body of a text added it is still what its own text is read as.
pub use Rattle.ss_snapshot.proofs.BothSpares.{no_spares}
pub use Rattle.ss_snapshot.proofs.BodiesRead.{own_added}
-- The same is kept of a database with whatever bodies to be installed.
pub use Rattle.ss_snapshot.proofs.BothSpares.{kept_with}
-- What is held of a whole database tells what is kept of it, and stands for each other of which the same is kept.
pub use Rattle.ss_snapshot.proofs.Held.{held_tells_kept, stands_alike}
