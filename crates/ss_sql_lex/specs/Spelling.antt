-- How a token is spelled, and what may stand behind it.
use Rattle.std.specs.Prelude.{ℕ, ◌≡◌, ◌+◌, ◌*◌, ◌-◌, ◌≤◌, List, [], ◌∷◌, ◌++◌, length, Bool, true, false, not, ◌&&◌, ◌==◌, nat_lt, if◌then◌else◌}
use Rattle.std.specs.List.{list_all, list_any}
use Rattle.ss_value.specs.Words.{is_word_byte, is_name}
use Rattle.ss_sql_lex.specs.declared.token.TokenKind.{TokenKind}
use Rattle.ss_sql_lex.specs.declared.token.TokenKind.TheVariants as k
use Rattle.ss_sql_lex.specs.Bytes.{is_upper, is_digit, is_joined, next_is}

-- whether these are one byte or more, each of a class
abbrev pub is_run : (ℕ → Bool) → List ℕ → Bool
is_run p [] = false
is_run p (b ∷ bs) = p b && list_all p bs

-- the number whose digits are those of n and then these
abbrev pub value_from : ℕ → List ℕ → ℕ
value_from n [] = n
value_from n (d ∷ ds) = value_from (10 * n + (d - 48)) ds

-- whether bytes are a number: digits, up to 9223372036854775807
abbrev pub is_number : List ℕ → Bool
is_number own = is_run is_digit own && nat_lt (value_from 0 own) 9223372036854775808

-- a value as it stands behind an opening quote: each quote of it twice, and the closing quote
abbrev pub in_quotes : List ℕ → List ℕ
in_quotes [] = 39 ∷ []
in_quotes (b ∷ bs) = if b == 39 then 39 ∷ 39 ∷ in_quotes bs else b ∷ in_quotes bs

-- a value of at most 255 bytes in quotes
pub record IsQuoted (own : List ℕ) : Type 0 where
  pub value : List ℕ
  pub spelled : own ≡ 39 ∷ in_quotes value
  pub short : length value ≤ 255

-- whether bytes are a parameter: a colon and a name
abbrev pub is_param : List ℕ → Bool
is_param [] = false
is_param (b ∷ bs) = (b == 58) && is_name bs

-- whether a byte is one of these
abbrev pub has : List ℕ → ℕ → Bool
has xs b = list_any (λ x. x == b) xs

-- ( ) , . * = < > + - / %
abbrev pub singles : List ℕ
singles = 40 ∷ 41 ∷ 44 ∷ 46 ∷ 42 ∷ 61 ∷ 60 ∷ 62 ∷ 43 ∷ 45 ∷ 47 ∷ 37 ∷ []

-- the bytes that make a symbol of two behind this one: <> <= >= ||
abbrev pub seconds : ℕ → List ℕ
seconds b = if b == 60 then 62 ∷ 61 ∷ [] else if b == 62 then 61 ∷ [] else if b == 124 then 124 ∷ [] else []

-- whether bytes are one of the sixteen symbols
abbrev pub is_symbol : List ℕ → Bool
is_symbol [] = false
is_symbol (b ∷ []) = has singles b
is_symbol (b ∷ c ∷ []) = has (seconds b) c
is_symbol (b ∷ c ∷ d ∷ bs) = false

-- the bytes of a token of that kind
abbrev pub IsSpelling : TokenKind → List ℕ → Type 0
IsSpelling k.Word own = is_run is_upper own ≡ true
IsSpelling k.Name own = is_name own ≡ true
IsSpelling k.Number own = is_number own ≡ true
IsSpelling k.Text own = IsQuoted own
IsSpelling k.Param own = is_param own ≡ true
IsSpelling k.Symbol own = is_symbol own ≡ true

-- whether a token may end before this rest: it goes on as far as it can, and nothing is joined to a number
abbrev pub may_stop : TokenKind → List ℕ → List ℕ → Bool
may_stop k.Word own rest = not (next_is is_upper rest)
may_stop k.Name own rest = not (next_is is_word_byte rest)
may_stop k.Number own rest = not (next_is is_joined rest)
may_stop k.Text own rest = not (next_is (λ b. b == 39) rest)
may_stop k.Param own rest = not (next_is is_word_byte rest)
may_stop k.Symbol own rest = not (next_is (λ b. is_symbol (own ++ b ∷ [])) rest)
