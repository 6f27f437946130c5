-- Streams of an image, as the program has them.
use Rattle.std.specs.Prelude.{ℕ, List}
use Rattle.ss_value.specs.Rows.{Rows}
use Rattle.ss_snapshot.specs.declared.reading.streams.KeptStream.{KeptStream}

-- how many batches it has had, which of them is the first kept one, and those from that one on
abbrev pub as_kept : KeptStream → ℕ × (ℕ × List Rows)
as_kept s = (s.had, (s.first, s.batches))
