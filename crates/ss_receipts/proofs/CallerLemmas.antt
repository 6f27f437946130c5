-- What crates above may rely on: the lemmas of this crate that they cite.

-- A log that was just opened holds the empty list, where the past is that of its disk.
pub use Rattle.ss_receipts.proofs.Opening.{holds_at_opening}
-- What a crash leaves since an opening, where the past is that of a disk.
pub use Rattle.ss_receipts.proofs.Since.{disk_since, since_disk}
-- Threads may share the lock, where the disk may be handed on.
pub use Rattle.ss_receipts.proofs.Crossing.{receipts_sync}
