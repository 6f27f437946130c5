-- The lines of an input.
use Rattle.std.specs.Prelude.{◌≡◌, ℕ, ◌+◌, ◌==◌, List, [], ◌∷◌, ◌++◌, Bool, ◌||◌, IsTrue, not, if◌then◌else◌}
use Rattle.std.specs.List.{list_all}
use Rattle.ss_lines.specs.declared.line.Line.{Line}

-- the longest input, in bytes
abbrev pub max_input : ℕ
max_input = 67108864

-- the longest line, in bytes, without its line feed
abbrev pub max_line : ℕ
max_line = 1048576

-- the lines with c in front of the first of them
abbrev pub onto_first : ℕ → List (List ℕ) → List (List ℕ)
onto_first c [] = (c ∷ []) ∷ []
onto_first c (l ∷ ls) = (c ∷ l) ∷ ls

-- the lines, each ended by a line feed, which is not part of it, or by the end of the input
abbrev pub split_lines : List ℕ → List (List ℕ)
split_lines [] = []
split_lines (c ∷ cs) = if c == 10 then [] ∷ split_lines cs else onto_first c (split_lines cs)

-- a space, a tab or a carriage return
abbrev pub is_blank_byte : ℕ → Bool
is_blank_byte c = (c == 32) || (c == 9) || (c == 13)

-- whether a line has no bytes but blank ones
abbrev pub is_blank : List ℕ → Bool
is_blank = list_all is_blank_byte

-- a list of the line with its number, and the empty list where the line is blank
abbrev pub line_at : ℕ → List ℕ → List Line
line_at n l = if is_blank l then [] else record { number = n; bytes = l } ∷ []

-- the lines that aren't blank, where the first line has this number; blank ones count too
abbrev pub numbered_lines : ℕ → List (List ℕ) → List Line
numbered_lines n [] = []
numbered_lines n (l ∷ ls) = line_at n l ++ numbered_lines (n + 1) ls

-- the lines of an input that aren't blank, numbered from 1
abbrev pub lines_of : List ℕ → List Line
lines_of input = numbered_lines 1 (split_lines input)

-- whether these bytes have no line feed
abbrev pub is_one_line : List ℕ → Bool
is_one_line = list_all (λ c. not (c == 10))

-- the bytes are this line, its line feed, and what stands behind it
pub record IsFirstLine (bytes line behind : List ℕ) : Type 0 where
  pub one_line : IsTrue (is_one_line line)
  pub parts : bytes ≡ line ++ 10 ∷ behind
