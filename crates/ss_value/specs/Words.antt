-- Which bytes are a text, and which are a name.
use Rattle.std.specs.Prelude.{ℕ, ◌≤◌, List, [], ◌∷◌, Bool, false, ◌&&◌, ◌||◌, nat_le, nat_lt, ◌==◌, length}
use Rattle.std.specs.List.{list_all}
use Rattle.std.specs.Str.{IsUtf8}

-- at most 255 bytes of UTF-8
abbrev pub IsText : List ℕ → Type 0
IsText bytes = (length bytes ≤ 255) × IsUtf8 bytes

-- a to z
abbrev pub is_letter : ℕ → Bool
is_letter c = nat_le 97 c && nat_le c 122

abbrev pub is_word_byte : ℕ → Bool
is_word_byte c = is_letter c || (nat_le 48 c && nat_le c 57) || (c == 95)

-- whether bytes are a name: 1 to 32 characters of a to z, 0 to 9 and _, the first a letter
abbrev pub is_name : List ℕ → Bool
is_name [] = false
is_name (c ∷ cs) = is_letter c && nat_lt (length cs) 32 && list_all is_word_byte cs
