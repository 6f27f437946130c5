-- What crates above may rely on: the lemmas of this crate that they cite.

-- Readings that have one answer at most, a value or a fault.
pub use Rattle.ss_catalog.proofs.OneAnswer.{err_same, ok_or_err, ok_same}
-- Bodies may be read for a catalogue that was read.
pub use Rattle.ss_catalog.proofs.OneBody.{read_from}
-- Bodies may be added one after another.
pub use Rattle.ss_catalog.proofs.WithSpare.{any_spares, goes_on_again, goes_on_same, goes_on_stand}
-- Of two readings one after the other, both read something where they do together.
pub use Rattle.ss_catalog.proofs.InPlace.{bind_ok}
-- A catalogue that was read has no inner streams, and no bodies to be installed.
pub use Rattle.ss_catalog.proofs.ReadPlain.{reads_plain}
pub use Rattle.ss_catalog.proofs.Refused.{resolved_of}
-- A value that is read as an outline has no float, if its keys are in order, as those of a text are.
pub use Rattle.ss_catalog.proofs.InOrder.{IsInOrder, read_in_order}
pub use Rattle.ss_catalog.proofs.NoFloats.{HasNoFloat, HasNoneAt, ReadsNoFloat, array_none, key_or_none, name_none, then_key, then_object, word_none}
pub use Rattle.ss_catalog.proofs.OutlineNoFloats.{outline_has_no_float}
