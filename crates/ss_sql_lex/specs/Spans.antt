-- Where the tokens of a text stand.
use Rattle.std.specs.Prelude.{ℕ, ◌≤◌, ◌<◌, List, [], ◌∷◌, length}
use Rattle.std.specs.List.{slice_range}
use Rattle.ss_sql_lex.specs.declared.token.Token.{Token}
use Rattle.ss_sql_lex.specs.Spelling.{IsSpelling}

-- a token of the text: the bytes of its span spell it
pub record IsTokenOf (text : List ℕ) (t : Token) : Type 0 where
  pub some : t.from < t.to
  pub within : t.to ≤ length text
  pub is : IsSpelling t.kind (slice_range text t.from t.to)

-- each token begins at the end of the one before it or later, the first at the offset `at` or later
abbrev pub Rise : ℕ → List Token → Type 0
Rise at [] = Unit {0}
Rise at (t ∷ ts) = (at ≤ t.from) × Rise t.to ts
