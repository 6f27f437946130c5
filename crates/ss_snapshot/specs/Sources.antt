-- Sources of an image, as loops read them.
use Rattle.std.specs.Prelude.{ℕ, List, Some, None}
use Rattle.ss_standing.specs.ImageForm.{source_above}
use Rattle.ss_standing.specs.Readers.{Reader, many}

-- so many sources, each with its name behind the one before it
abbrev pub sources_above : ℕ → Reader (List (List ℕ × ℕ))
sources_above n = many (λ last source. Some source.0) source_above n None
