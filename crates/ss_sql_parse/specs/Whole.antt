-- A whole list of tokens against the grammar.
use Rattle.std.specs.Prelude.{ℕ, ◌≡◌, ◌<◌, ◌≤◌, List, [], ◌∷◌, ◌++◌, length, Result, Ok, Err}
use Rattle.std.proofs.Common.{◌⊎◌}
use Rattle.ss_sql_grammar.specs.Grammar.{Spells, Reader, read, ◌>>=◌}
use Rattle.ss_sql_parse.specs.declared.lexeme.Lexeme.{Lexeme}
use Rattle.ss_sql_parse.specs.Terminals.{kind}
use Rattle.ss_sql_parse.specs.Sql.{Sql, sql, inner, Deep}

-- the tokens spell the tree by the rule, nested to some depth
pub record Spelled {A : Type 0} (g : Sql A) (ts : List Lexeme) (tree : A) : Type 0 where
  pub depth : ℕ
  pub is : Spells kind (Deep depth) g ts tree

-- the tree, and no other
pub record IsTree {A : Type 0} (g : Sql A) (ts : List Lexeme) (tree : A) : Type 0 where
  pub is : Spelled g ts tree
  pub only : (other : A) → Spelled g ts other → other ≡ tree

-- some text of the rule begins with these tokens
pub record Begins {A : Type 0} (g : Sql A) (front : List Lexeme) : Type 0 where
  pub more : List Lexeme
  pub tree : A
  pub is : Spelled g (front ++ more) tree

-- front is no text of the rule; or where a token follows, none begins with front and that token
abbrev pub BeginsNone : {A : Type 0} → Sql A → List Lexeme → List Lexeme → Type 0
BeginsNone {A = A} g front [] = (tree : A) → Spelled g front tree → ⊥
BeginsNone {A = A} g front (t ∷ rest) = (more : List Lexeme) (tree : A) → Spelled g (front ++ t ∷ more) tree → ⊥

-- the first of the last n tokens is the first with which no text of the rule begins; where n is 0, all of them begin a text and are none
pub record IsUnexpected {A : Type 0} (g : Sql A) (ts : List Lexeme) (n : ℕ) : Type 0 where
  pub front : List Lexeme
  pub rest : List Lexeme
  pub parts : ts ≡ front ++ rest
  pub left : n ≡ length rest
  pub begun : Begins g front
  pub dead : BeginsNone g front rest

-- a tree is one of the whole only if no token is left
abbrev pub nothing_left : {A : Type 0} → A × List Lexeme → Result A ℕ
nothing_left (tree, []) = Ok tree
nothing_left (tree, t ∷ rest) = Err (length (t ∷ rest))

-- reading all tokens by a reader
abbrev pub whole_by : {A : Type 0} → Reader Lexeme A → List Lexeme → Result A ℕ
whole_by p ts = p ts >>= nothing_left

-- reading all tokens by a rule
abbrev pub whole : {A : Type 0} → Sql A → List Lexeme → Result A ℕ
whole g ts = read sql inner g ts >>= nothing_left

-- what reading all tokens says of them
abbrev pub Judges : {A : Type 0} → Sql A → List Lexeme → Result A ℕ → Type 0
Judges g ts (Ok tree) = IsTree g ts tree
Judges g ts (Err n) = IsUnexpected g ts n

-- the offset of the next token, and `end` where there is none
abbrev pub offset_at : ℕ → List Lexeme → ℕ
offset_at end [] = end
offset_at end (t ∷ rest) = t.from

-- how many tokens are read at most
abbrev pub max_tokens : ℕ
max_tokens = 512

-- an unexpected token at an offset: the tokens before it, at most 512, begin a text; with it none begins, or it is the first token too many
pub record IsUnexpectedAt {A : Type 0} (g : Sql A) (ts : List Lexeme) (end at : ℕ) : Type 0 where
  pub front : List Lexeme
  pub rest : List Lexeme
  pub parts : ts ≡ front ++ rest
  pub offset : at ≡ offset_at end rest
  pub begun : Begins g front
  pub why : ((length front ≤ max_tokens) × BeginsNone g front rest) ⊎ ((length front ≡ max_tokens) × (0 < length rest))
