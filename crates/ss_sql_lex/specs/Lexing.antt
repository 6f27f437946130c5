-- The tokens of a text.
use Rattle.std.specs.Prelude.{ℕ, ◌≡◌, ◌+◌, List, [], ◌∷◌, ◌++◌, length, true}
use Rattle.std.specs.List.{list_all}
use Rattle.ss_sql_lex.specs.declared.token.Token.{Token}
use Rattle.ss_sql_lex.specs.Bytes.{is_blank}
use Rattle.ss_sql_lex.specs.Spelling.{IsSpelling, may_stop}

-- a text that begins at the offset `at` has blanks and a token at its front, and what stands behind these is as Follows says
pub record Next (at : ℕ) (text : List ℕ) (t : Token) (Follows : List ℕ → Type 0) : Type 0 where
  pub gap : List ℕ
  pub own : List ℕ
  pub rest : List ℕ
  pub parts : text ≡ gap ++ (own ++ rest)
  pub blank : list_all is_blank gap ≡ true
  pub starts : t.from ≡ at + length gap
  pub ends : t.to ≡ t.from + length own
  pub is : IsSpelling t.kind own
  pub longest : may_stop t.kind own rest ≡ true
  pub follows : Follows rest

-- a text that begins at the offset `at` has these tokens at its front, with blanks before each, and `left` behind them
abbrev pub Begins : ℕ → List ℕ → List Token → List ℕ → Type 0
Begins at text [] left = text ≡ left
Begins at text (t ∷ ts) left = Next at text t (λ rest. Begins t.to rest ts left)

-- a text that begins at the offset `at` is these tokens, with blanks before each, and blanks behind them
pub record SpellsFrom (at : ℕ) (text : List ℕ) (ts : List Token) : Type 0 where
  pub left : List ℕ
  pub tokens : Begins at text ts left
  pub blank : list_all is_blank left ≡ true

-- the text spells the tokens
abbrev pub Spells : List ℕ → List Token → Type 0
Spells text ts = SpellsFrom 0 text ts
