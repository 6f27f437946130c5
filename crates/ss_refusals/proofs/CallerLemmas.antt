-- What crates above may rely on: the lemmas of this crate that they cite.

-- A refusal of an input has one of three statuses; at two of them it has one text, and one of these comes only where a fault was counted.
pub use Rattle.ss_refusals.proofs.RefusalStatuses.{OfRefusal, refusals_have, never, memory_text_is, read_fault_text_is, fault_rose}
-- That a source failed is told by the refusal of its input.
pub use Rattle.ss_refusals.proofs.SourceTold.{source_told, source_held, refusal_told, ends_refused}
-- How the program ends where reading its input was refused.
pub use Rattle.ss_refusals.proofs.RefusedEnds.{at_end, leaves_so, refused_ends_refused, refused_ends_started, silent_ends}
-- A line that says what it should isn't refused, and says one thing.
pub use Rattle.ss_refusals.proofs.OneInput.{InputLaws, RequestLaws, first_is_fine, has_value, later_is_fine, one_said, silent}
-- A catalogue goes on with the bodies that requests install, one after another.
pub use Rattle.ss_refusals.proofs.Growing.{SoFar, bodies_for, none_read, own_read, grown_none, more_so_far, none_so_far, on_none, own_so_far, refused_value, same_so_far}
-- Requests one after another, as their lines are read.
pub use Rattle.ss_refusals.proofs.InputRequests.{each_fits, parts_at}
-- How deep the value of a line nests.
pub use Rattle.ss_refusals.proofs.InputDepth.{value_depth}
