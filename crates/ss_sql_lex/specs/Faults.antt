-- The first fault of a text.
use Rattle.std.specs.Prelude.{ℕ, ◌≡◌, ◌+◌, ◌<◌, List, [], ◌∷◌, ◌++◌, length, true, false, ◌&&◌, ◌==◌, if◌then◌else◌}
use Rattle.std.specs.List.{list_all}
use Rattle.ss_value.specs.Words.{is_letter}
use Rattle.ss_sql_lex.specs.declared.token.Token.{Token}
use Rattle.ss_sql_lex.specs.declared.token.TokenKind.{TokenKind}
use Rattle.ss_sql_lex.specs.declared.token.LexError.{LexError}
use Rattle.ss_sql_lex.specs.declared.token.LexError.TheVariants as e
use Rattle.ss_sql_lex.specs.Bytes.{is_blank, is_digit, next_is}
use Rattle.ss_sql_lex.specs.Spelling.{IsSpelling, may_stop}
use Rattle.ss_sql_lex.specs.Lexing.{Begins}

-- no token stands at the front
abbrev pub NoToken : List ℕ → Type 0
NoToken bs = (kind : TokenKind) (own rest : List ℕ) → bs ≡ own ++ rest → IsSpelling kind own → may_stop kind own rest ≡ true → ⊥

-- the fault where no token stands at the front, by the first byte: a name or a parameter's name can only be too long, by its
-- 33rd character; a number too great, or joined to a letter; a text too long or not closed; else the fault is the byte itself
abbrev pub fault_at : ℕ → List ℕ → LexError
fault_at at [] = e.BadCharacter at
fault_at at (b ∷ bs) = if is_letter b then e.BadCharacter (at + 32)
    else if is_digit b then e.BadNumber at
    else if b == 39 then e.OpenText at
    else if (b == 58) && next_is is_letter bs then e.BadCharacter (at + 33)
    else e.BadCharacter at

-- a text that begins at the offset `at` has tokens, then blanks, and then a byte that is no blank and begins no token:
-- the fault is the one at that byte's offset
pub record FailsFrom (at : ℕ) (text : List ℕ) (fault : LexError) : Type 0 where
  pub tokens : List Token
  pub left : List ℕ
  pub are : Begins at text tokens left
  pub gap : List ℕ
  pub rest : List ℕ
  pub parts : left ≡ gap ++ rest
  pub blank : list_all is_blank gap ≡ true
  pub some : 0 < length rest
  pub solid : next_is is_blank rest ≡ false
  pub none : NoToken rest
  pub offset : ℕ
  pub counts : offset + length rest ≡ at + length text
  pub which : fault ≡ fault_at offset rest

-- why a text is refused: its first fault, or out of memory, which says nothing of the text
abbrev pub IsRefused : List ℕ → LexError → Type 0
IsRefused text e.NoMemory = Unit {0}
IsRefused text (e.BadCharacter at) = FailsFrom 0 text (e.BadCharacter at)
IsRefused text (e.BadNumber at) = FailsFrom 0 text (e.BadNumber at)
IsRefused text (e.OpenText at) = FailsFrom 0 text (e.OpenText at)
