-- Classes of bytes.
use Rattle.std.specs.Prelude.{ℕ, Bool, false, List, [], ◌∷◌, ◌&&◌, ◌||◌, ◌==◌, nat_le}
use Rattle.ss_value.specs.Words.{is_word_byte}

-- whether a byte is one of those from low to high
abbrev pub is_between : ℕ → ℕ → ℕ → Bool
is_between low high b = nat_le low b && nat_le b high

-- space, tab, line feed and carriage return
abbrev pub is_blank : ℕ → Bool
is_blank b = (b == 32) || ((b == 9) || ((b == 10) || (b == 13)))

-- A to Z
abbrev pub is_upper : ℕ → Bool
is_upper b = is_between 65 90 b

-- 0 to 9
abbrev pub is_digit : ℕ → Bool
is_digit b = is_between 48 57 b

-- what may not follow a number at once: a letter or _ (and no further digit, since a number takes all)
abbrev pub is_joined : ℕ → Bool
is_joined b = is_upper b || is_word_byte b

-- whether there is a next byte, and it passes a test
abbrev pub next_is : (ℕ → Bool) → List ℕ → Bool
next_is p [] = false
next_is p (b ∷ bs) = p b
