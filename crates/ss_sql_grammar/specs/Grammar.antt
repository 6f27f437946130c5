-- Rules of a grammar as data, what they spell, and how they are read from the left.
use Rattle.std.specs.Prelude.{ℕ, zero, suc, ◌≡◌, List, [], ◌∷◌, ◌++◌, length, Bool, true, false, not, Option, Some, None, Result, Ok, Err, if◌then◌else◌, ◌&&◌, ◌||◌, ◌==◌}
use Rattle.std.proofs.Common.{◌⊎◌}

-- a rule whose trees are of type A; T: tokens, N: the rules that contain themselves, X: their trees.
-- a kind of token is a number
pub data Rule (N T X : Type 0) : Type 0 → Type 1 where
  one : ℕ → Rule N T X T
  nested : N → Rule N T X X
  act : {A B : Type 0} → (A → B) → Rule N T X A → Rule N T X B
  both : {A B : Type 0} → Rule N T X A → Rule N T X B → Rule N T X (A × B)
  or : {A : Type 0} → Rule N T X A → Rule N T X A → Rule N T X A
  maybe : {A B : Type 0} → Rule N T X A → Rule N T X B → Rule N T X (A × Option B)
  some : {A B : Type 0} → Rule N T X A → Rule N T X B → Rule N T X (A × List B)

-- the kind of a token; the kinds that what is nested begins with, and those that may go on behind it; some token of each kind
pub record Kinds (N T : Type 0) : Type 0 where
  pub kind : T → ℕ
  pub first : N → List ℕ
  pub last : N → List ℕ
  pub spare : ℕ → T

-- ---- what is spelled

-- a list of tokens that falls into two parts
pub record Splits {T : Type 0} (P Q : List T → Type 0) (ts : List T) : Type 0 where
  pub front : List T
  pub back : List T
  pub parts : ts ≡ front ++ back
  pub first : P front
  pub second : Q back

-- the parts of the list, one behind the other, each have their property
abbrev pub Each : {T B : Type 0} → (List T → B → Type 0) → List T → List B → Type 0
Each P ts [] = ts ≡ []
Each P ts (b ∷ bs) = Splits (λ front. P front b) (λ back. Each P back bs) ts

-- nothing, or what has the property
abbrev pub Perhaps : {T B : Type 0} → (List T → B → Type 0) → List T → Option B → Type 0
Perhaps P ts None = ts ≡ []
Perhaps P ts (Some b) = P ts b

-- one token of that kind
pub record IsOne {T : Type 0} (kind : T → ℕ) (k : ℕ) (ts : List T) (t : T) : Type 0 where
  pub alone : ts ≡ t ∷ []
  pub fits : (kind t == k) ≡ true

-- a tree made by a function of one that has the property
pub record Made {A B : Type 0} (P : A → Type 0) (f : A → B) (b : B) : Type 0 where
  pub from : A
  pub is : P from
  pub made : b ≡ f from

-- the tokens spell the tree
abbrev pub Spells : {N T X A : Type 0} → (T → ℕ) → (N → List T → X → Type 0) → Rule N T X A → List T → A → Type 0
Spells kind S (one k) ts a = IsOne kind k ts a
Spells kind S (nested n) ts a = S n ts a
Spells kind S (act f g) ts b = Made (Spells kind S g ts) f b
Spells kind S (both g h) ts x = Splits (λ front. Spells kind S g front x.0) (λ back. Spells kind S h back x.1) ts
Spells kind S (or g h) ts a = Spells kind S g ts a ⊎ Spells kind S h ts a
Spells kind S (maybe g h) ts x = Splits (λ front. Spells kind S g front x.0) (λ back. Perhaps (Spells kind S h) back x.1) ts
Spells kind S (some g h) ts x = Splits (λ front. Spells kind S g front x.0) (λ back. Each (Spells kind S h) back x.1) ts

-- ---- the first kinds, the kinds that may go on behind a whole text, and what a choice by one token needs

-- whether k is one of the kinds
abbrev pub has : List ℕ → ℕ → Bool
has [] k = false
has (x ∷ xs) k = (k == x) || has xs k

-- whether no kind is in both lists
abbrev pub apart : List ℕ → List ℕ → Bool
apart [] ys = true
apart (x ∷ xs) ys = not (has ys x) && apart xs ys

-- whether the first token is of one of the kinds
abbrev pub begins : {T : Type 0} → (T → ℕ) → List ℕ → List T → Bool
begins kind ks [] = false
begins kind ks (t ∷ ts) = has ks (kind t)

-- the kinds that a text of the rule begins with
abbrev pub starts : {N T X A : Type 0} → Kinds N T → Rule N T X A → List ℕ
starts k (one c) = c ∷ []
starts k (nested n) = k.first n
starts k (act f g) = starts k g
starts k (both g h) = starts k g
starts k (or g h) = starts k g ++ starts k h
starts k (maybe g h) = starts k g
starts k (some g h) = starts k g

-- the kinds that may go on behind a whole text of the rule
abbrev pub goes_on : {N T X A : Type 0} → Kinds N T → Rule N T X A → List ℕ
goes_on k (one c) = []
goes_on k (nested n) = k.last n
goes_on k (act f g) = goes_on k g
goes_on k (both g h) = goes_on k h
goes_on k (or g h) = goes_on k g ++ goes_on k h
goes_on k (maybe g h) = starts k h ++ (goes_on k h ++ goes_on k g)
goes_on k (some g h) = starts k h ++ (goes_on k h ++ goes_on k g)

-- whether one token decides at each choice
abbrev pub decides : {N T X A : Type 0} → Kinds N T → Rule N T X A → Bool
decides k (one c) = k.kind (k.spare c) == c
decides k (nested n) = true
decides k (act f g) = decides k g
decides k (both g h) = decides k g && (decides k h && apart (starts k h) (goes_on k g))
decides k (or g h) = decides k g && (decides k h && apart (starts k g) (starts k h))
decides k (maybe g h) = decides k g && (decides k h && apart (starts k h) (goes_on k g))
decides k (some g h) = decides k g && (decides k h && (apart (starts k h) (goes_on k g) && apart (starts k h) (goes_on k h)))

-- whether a token stands before whatever is nested
abbrev pub guarded : {N T X A : Type 0} → Rule N T X A → Bool
guarded (one c) = true
guarded (nested n) = false
guarded (act f g) = guarded g
guarded (both g h) = guarded g
guarded (or g h) = guarded g && guarded h
guarded (maybe g h) = guarded g
guarded (some g h) = guarded g

-- whether each kind of the first list is in the second
abbrev pub within : List ℕ → List ℕ → Bool
within [] ys = true
within (x ∷ xs) ys = has ys x && within xs ys

-- ---- reading: the tree and the rest, or how many tokens are left where it is stuck

infixl 10 ◌>>=◌
-- what was read is passed on, and what is stuck stays stuck
abbrev pub ◌>>=◌ : {A B : Type 0} → Result A ℕ → (A → Result B ℕ) → Result B ℕ
(Ok x) >>= f = f x
(Err e) >>= f = Err e

-- a reader: from tokens to a tree and the rest, or to how many tokens are left where it is stuck
abbrev pub Reader : Type 0 → Type 0 → Type 0
Reader T A = List T → Result (A × List T) ℕ

-- one reader and then another
abbrev pub pair : {T A B : Type 0} → Reader T A → Reader T B → Reader T (A × B)
pair p q ts = p ts >>= λ x. q x.1 >>= λ y. Ok ((x.0, y.0), y.1)

-- a reader where the next token begins what it reads, else nothing
abbrev pub perhaps : {T B : Type 0} → (List T → Bool) → Reader T B → Reader T (Option B)
perhaps begun q ts = if begun ts then (q ts >>= λ y. Ok (Some y.0, y.1)) else Ok (None, ts)

-- a reader as long as the next token begins what it reads, n times at most
abbrev pub many : {T B : Type 0} → ℕ → (List T → Bool) → Reader T B → Reader T (List B)
many zero begun q ts = Ok ([], ts)
many (suc n) begun q ts = if begun ts then (q ts >>= λ y. many n begun q y.1 >>= λ z. Ok (y.0 ∷ z.0, z.1)) else Ok ([], ts)

-- one token of a kind
abbrev pub token : {T : Type 0} → (T → ℕ) → ℕ → Reader T T
token kind k [] = Err 0
token kind k (t ∷ ts) = if kind t == k then Ok (t, ts) else Err (length (t ∷ ts))

-- reading by a rule: one token decides at each choice
abbrev pub read : {N T X A : Type 0} → Kinds N T → (N → Reader T X) → Rule N T X A → Reader T A
read k p (one c) ts = token k.kind c ts
read k p (nested n) ts = p n ts
read k p (act f g) ts = read k p g ts >>= λ x. Ok (f x.0, x.1)
read k p (both g h) ts = pair (read k p g) (read k p h) ts
read k p (or g h) ts = if begins k.kind (starts k g) ts then read k p g ts else read k p h ts
read k p (maybe g h) ts = pair (read k p g) (perhaps (begins k.kind (starts k h)) (read k p h)) ts
read k p (some g h) ts = pair (read k p g) (λ us. many (length us) (begins k.kind (starts k h)) (read k p h) us) ts
