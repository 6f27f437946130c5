-- Maps that are united of several, of which none has a key of another.
use Rattle.std.specs.Prelude.{◌≡◌, ℕ, ◌+◌, ◌==◌, List, [], ◌∷◌, false, cond, Option, Some, None, zero, suc}
use Rattle.std.specs.List.{flat_map}
use Rattle.std.specs.Ordering.{is_lt}
use Rattle.std.specs.declared.cmp.Ordering.{Ordering}
use Rattle.std.specs.FinMap as finite

-- what any of these has; at a key of several, what the first has
abbrev pub united : {K X : Type 0} {R : K → K → Ordering} → List (finite.FinMap R X) → finite.FinMap R X
united ms = finite.from_entries (flat_map (λ m. finite.entries m) ms)

-- each map has only keys of its own number, which rises from i on
abbrev pub AtHome : {K X : Type 0} {R : K → K → Ordering} → (K → ℕ) → ℕ → List (finite.FinMap R X) → Type 0
AtHome home i [] = Unit {0}
AtHome {K = K} home i (m ∷ ms) = ((q : K) → (home q == i) ≡ false → finite.get m q ≡ None) × AtHome home (suc i) ms

-- the first of a list, if there is one
abbrev pub head : {A : Type 0} → List A → Option A
head [] = None
head (x ∷ xs) = Some x

-- of two entries that may be missing, the one with the lesser key
abbrev pub lesser : {K X : Type 0} → (K → K → Ordering) → Option (K × X) → Option (K × X) → Option (K × X)
lesser R None b = b
lesser R (Some a) None = Some a
lesser R (Some a) (Some b) = cond (is_lt (R b.0 a.0)) (Some b) (Some a)

-- the parts of a map from one number on, so many
abbrev pub cuts : {K X : Type 0} {R : K → K → Ordering} → (K → ℕ) → finite.FinMap R X → ℕ → ℕ → List (finite.FinMap R X)
cuts home m i zero = []
cuts home m i (suc k) = finite.retain_keys m (λ q. home q == i) ∷ cuts home m (suc i) k

-- how many entries these maps have
abbrev pub sizes : {K X : Type 0} {R : K → K → Ordering} → List (finite.FinMap R X) → ℕ
sizes [] = 0
sizes (m ∷ ms) = finite.len m + sizes ms
