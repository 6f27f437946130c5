-- Lines that begin with one line, or are one line.
use Rattle.std.proofs.Common.{◌≡◌, ℕ, ◌+◌, ◌==◌, List, [], ◌∷◌, ◌++◌, Bool, true, false, not, ◌&&◌, if◌then◌else◌, refl, sym, ap, append_assoc, append-nil}
use Rattle.ss_lines.specs.declared.line.Line.{Line}
use Rattle.ss_lines.specs.Lines.{split_lines, onto_first, numbered_lines, line_at, is_blank, is_one_line}

fed_step : (c : ℕ) (b : Bool) (cs rest : List ℕ) → (not b && is_one_line cs) ≡ true → (is_one_line cs ≡ true → split_lines (cs ++ 10 ∷ rest) ≡ cs ∷ split_lines rest)
    → (if b then [] ∷ split_lines (cs ++ 10 ∷ rest) else onto_first c (split_lines (cs ++ 10 ∷ rest))) ≡ (c ∷ cs) ∷ split_lines rest
fed_step c true cs rest h e = cc
fed_step c false cs rest h e = ap (onto_first c) (e h)

-- a line that has its line feed is the first one
pub split_fed : (line rest : List ℕ) → is_one_line line ≡ true → split_lines (line ++ 10 ∷ rest) ≡ line ∷ split_lines rest
split_fed [] rest h = refl
split_fed (c ∷ cs) rest h = fed_step c (c == 10) cs rest h (split_fed cs rest)

alone : (c : ℕ) (b : Bool) → (not b && true) ≡ true → (if b then [] ∷ [] else onto_first c []) ≡ (c ∷ []) ∷ []
alone c true h = cc
alone c false h = refl

before : (c : ℕ) (b : Bool) (cs : List ℕ) → (not b && is_one_line cs) ≡ true → (is_one_line cs ≡ true → split_lines cs ≡ cs ∷ [])
    → (if b then [] ∷ split_lines cs else onto_first c (split_lines cs)) ≡ (c ∷ cs) ∷ []
before c true cs h e = cc
before c false cs h e = ap (onto_first c) (e h)

-- bytes with no line feed are one line, where there are any
split_one : (c : ℕ) (cs : List ℕ) → is_one_line (c ∷ cs) ≡ true → split_lines (c ∷ cs) ≡ (c ∷ cs) ∷ []
split_one c [] h = alone c (c == 10) h
split_one c (d ∷ ds) h = before c (c == 10) (d ∷ ds) h (split_one d ds)

-- the last line, which no line feed ends
pub numbered_one : (n : ℕ) (line : List ℕ) → is_one_line line ≡ true → numbered_lines n (split_lines line) ≡ line_at n line
numbered_one n [] h = refl
numbered_one n (c ∷ cs) h = rw (split_one c cs h) (append-nil (line_at n (c ∷ cs)))

-- the lines so far and the one that has begun, where the input ends
pub given_at_end : (lines : List Line) (n : ℕ) (line : List ℕ) → is_one_line line ≡ true → lines ++ numbered_lines n (split_lines (line ++ [])) ≡ lines ++ line_at n line
given_at_end lines n line h = rw (append-nil line, numbered_one n line h) refl

-- a line feed ends the line that has begun
pub given_behind_feed : (lines new : List Line) (n m : ℕ) (line now rest : List ℕ) → is_one_line line ≡ true → new ≡ lines ++ numbered_lines n (split_lines (line ++ [])) → now ≡ [] → m ≡ n
    → new ++ numbered_lines (m + 1) (split_lines (now ++ rest)) ≡ lines ++ numbered_lines n (split_lines (line ++ 10 ∷ rest))
given_behind_feed lines new n m line now rest h en enow em =
    rw (en, enow, em, given_at_end lines n line h, split_fed line rest h, append_assoc lines (line_at n line) (numbered_lines (n + 1) (split_lines rest))) refl

-- a blank line that ends leaves the lines as they are
pub given_blank : (lines : List Line) (n : ℕ) (line : List ℕ) → is_one_line line ≡ true → is_blank line ≡ true → lines ≡ lines ++ numbered_lines n (split_lines (line ++ []))
given_blank lines n line h blank = rw (given_at_end lines n line h, blank) (sym (append-nil lines))

-- another line that ends is one more
pub given_line : (lines new : List Line) (n : ℕ) (line : List ℕ) → is_one_line line ≡ true → is_blank line ≡ false → new ≡ lines ++ record { number = n; bytes = line } ∷ []
    → new ≡ lines ++ numbered_lines n (split_lines (line ++ []))
given_line lines new n line h blank e = rw (given_at_end lines n line h, blank) e
