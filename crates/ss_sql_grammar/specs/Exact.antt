-- A reader that is exact for what is spelled: the law of each rule.
use Rattle.std.specs.Prelude.{ℕ, ◌≡◌, ◌≤◌, List, [], ◌∷◌, ◌++◌, length, true, false, Result, Ok, Err}
use Rattle.ss_sql_grammar.specs.Grammar.{Reader, begins}

-- a tree was read from the front
pub record Front {T A : Type 0} (S : List T → A → Type 0) (ts : List T) (tree : A) (rest : List T) : Type 0 where
  pub front : List T
  pub parts : ts ≡ front ++ rest
  pub is : S front tree

-- reading is stuck with n tokens left: those before them are the beginning of a text
pub record Stuck {T A : Type 0} (S : List T → A → Type 0) (ts : List T) (n : ℕ) : Type 0 where
  pub front : List T
  pub rest : List T
  pub parts : ts ≡ front ++ rest
  pub left : n ≡ length rest
  pub more : List T
  pub tree : A
  pub is : S (front ++ more) tree

-- there is a text
pub record Sample {T A : Type 0} (S : List T → A → Type 0) : Type 0 where
  pub text : List T
  pub tree : A
  pub is : S text tree

-- no more than n tokens are left, also where reading is stuck
abbrev pub Passed : {T A : Type 0} → ℕ → Result (A × List T) ℕ → Type 0
Passed n (Ok x) = length x.1 ≤ n
Passed n (Err e) = e ≤ n

-- a reader is exact for what is spelled, which may be empty; first: the kinds it begins with; last: the kinds that may go on behind it
pub record Part {T A : Type 0} (kind : T → ℕ) (S : List T → A → Type 0) (p : Reader T A) (first last : List ℕ) : Type 0 where
  pub starts : (t : T) (ts : List T) (a : A) → S (t ∷ ts) a → begins kind first (t ∷ ts) ≡ true
  pub sound : (ts : List T) (x : A × List T) → p ts ≡ Ok x → Front S ts x.0 x.1
  pub complete : (front rest : List T) (a : A) → S front a → begins kind last rest ≡ false → p (front ++ rest) ≡ Ok (a, rest)
  pub stuck : (ts : List T) (n : ℕ) → p ts ≡ Err n → Stuck S ts n
  -- a token with which a text goes on is read
  pub passes : (front more rest : List T) (t : T) (a : A) → S (front ++ t ∷ more) a → Passed (length rest) (p (front ++ t ∷ rest))
  pub sample : Sample S

-- a reader is exact for what is spelled, which is never empty
pub record Exact {T A : Type 0} (kind : T → ℕ) (S : List T → A → Type 0) (p : Reader T A) (first last : List ℕ) : Type 0 where
  pub part : Part kind S p first last
  pub solid : (a : A) → S [] a → ⊥
