-- The lines that a splitter gives.
use Rattle.std.specs.Prelude.{◌≡◌, ℕ, List, ◌++◌}
use Rattle.ss_lines.specs.declared.line.Line.{Line}
use Rattle.ss_lines.specs.declared.split.Splitter.{Splitter}
use Rattle.ss_lines.specs.Lines.{split_lines, numbered_lines}

-- the lines that the splitter gives where these bytes are the rest of the input
abbrev pub lines_with : Splitter → List ℕ → List Line
lines_with s rest = s.lines ++ numbered_lines s.number (split_lines (s.current.items ++ rest))

-- the new splitter has taken these bytes, whatever comes behind them
abbrev pub Takes : Splitter → Splitter → List ℕ → Type 0
Takes old new bytes = (rest : List ℕ) → lines_with new rest ≡ lines_with old (bytes ++ rest)
