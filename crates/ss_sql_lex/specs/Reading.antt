-- How a token is found at the front of a text: what the code of `scan` computes.
use Rattle.std.specs.Prelude.{ℕ, ◌≡◌, ◌++◌, true, suc, ◌+◌, ◌-◌, List, [], ◌∷◌, length, take, drop, Bool, not, Option, Some, None, option_map, if◌then◌else◌, ◌&&◌, ◌==◌, nat_lt}
use Rattle.ss_value.specs.Words.{is_letter, is_word_byte}
use Rattle.ss_sql_lex.specs.declared.token.TokenKind.{TokenKind}
use Rattle.ss_sql_lex.specs.declared.token.TokenKind.TheVariants as k
use Rattle.ss_sql_lex.specs.declared.scan.Class.{Class}
use Rattle.ss_sql_lex.specs.declared.scan.Class.TheVariants as c
use Rattle.ss_sql_lex.specs.Bytes.{is_upper, is_digit, is_joined, next_is}
use Rattle.ss_sql_lex.specs.declared.token.Token.{Token}
use Rattle.ss_sql_lex.specs.declared.token.LexError.{LexError}
use Rattle.ss_sql_lex.specs.Spelling.{value_from, has, singles, seconds, IsSpelling, may_stop}
use Rattle.ss_sql_lex.specs.Faults.{NoToken, fault_at}

-- whether a byte is of a class
abbrev pub test_of : Class → ℕ → Bool
test_of c.Upper b = is_upper b
test_of c.Digit b = is_digit b
test_of c.Name b = is_word_byte b

-- how many bytes at the front pass a test
abbrev pub run : (ℕ → Bool) → List ℕ → ℕ
run p [] = 0
run p (b ∷ bs) = if p b then suc (run p bs) else 0

-- the value of a text behind its opening quote, and what stands behind its closing one
abbrev pub close : List ℕ → Option (List ℕ × List ℕ)
close [] = None
close (b ∷ []) = if b == 39 then Some ([], []) else None
close (b ∷ c ∷ bs) = if b == 39 then (if c == 39 then option_map (λ x. (39 ∷ x.0, x.1)) (close bs) else Some ([], c ∷ bs)) else option_map (λ x. (b ∷ x.0, x.1)) (close (c ∷ bs))

-- how long a text's value is with `count` bytes before it, and how long what stands behind the text is
abbrev pub lengths : ℕ → List ℕ × List ℕ → ℕ × ℕ
lengths count x = (count + length x.0, length x.1)

-- the token of a number with n digits, unless it is too great or joined to a letter
abbrev pub number_scan : ℕ → List ℕ → Option (TokenKind × ℕ)
number_scan n bs = if nat_lt (value_from 0 (take n bs)) 9223372036854775808 && not (next_is is_joined (drop n bs)) then Some (k.Number, n) else None

-- the token of a name with n characters and `more` bytes before it, unless it is too long
abbrev pub name_scan : TokenKind → ℕ → ℕ → Option (TokenKind × ℕ)
name_scan kind n more = if nat_lt n 33 then Some (kind, n + more) else None

-- the token of a text, where n bytes begin with its opening quote, unless it is not closed or too long
abbrev pub text_scan : ℕ → Option (List ℕ × List ℕ) → Option (TokenKind × ℕ)
text_scan n None = None
text_scan n (Some x) = if nat_lt (length x.0) 256 then Some (k.Text, n - length x.1) else None

-- the token of the longest symbol at the front
abbrev pub symbol_scan : List ℕ → Option (TokenKind × ℕ)
symbol_scan [] = None
symbol_scan (b ∷ []) = if has singles b then Some (k.Symbol, 1) else None
symbol_scan (b ∷ c ∷ bs) = if has (seconds b) c then Some (k.Symbol, 2) else if has singles b then Some (k.Symbol, 1) else None

-- the kind of the token at the front, and its length
abbrev pub scan : List ℕ → Option (TokenKind × ℕ)
scan [] = None
scan (b ∷ bs) = if is_upper b then Some (k.Word, run is_upper (b ∷ bs))
    else if is_letter b then name_scan k.Name (run is_word_byte (b ∷ bs)) 0
    else if is_digit b then number_scan (run is_digit (b ∷ bs)) (b ∷ bs)
    else if b == 39 then text_scan (length (b ∷ bs)) (close bs)
    else if b == 58 then (if next_is is_letter bs then name_scan k.Param (run is_word_byte bs) 1 else None)
    else symbol_scan (b ∷ bs)

-- a token stands at the front of bytes that begin at the offset `at`
pub record StandsAt (at : ℕ) (bs : List ℕ) (t : Token) : Type 0 where
  pub own : List ℕ
  pub rest : List ℕ
  pub parts : bs ≡ own ++ rest
  pub starts : t.from ≡ at
  pub ends : t.to ≡ at + length own
  pub is : IsSpelling t.kind own
  pub longest : may_stop t.kind own rest ≡ true

-- no token stands at the front of bytes that begin at the offset `at`, and this is the fault
abbrev pub IsFaultAt : ℕ → List ℕ → LexError → Type 0
IsFaultAt at bs fault = NoToken bs × (fault ≡ fault_at at bs)
