-- Checks one after another: each reports one thing at most, and nothing where it passes; and so do all together.
use Rattle.std.proofs.Common.{◌≡◌, ◌<◌, ◌⊎◌, ℕ, Option, Some, None, sym, ap, subst, ◌∙◌, inl, inr}
use Rattle.std.proofs.lemmas.Bool.{cases_order}
use Rattle.ss_model.specs.declared.catalog.Catalog.{Catalog}
use Rattle.ss_catalog_outline.specs.declared.types.Outline.{Outline}
use Rattle.ss_catalog_checks.specs.Firsts.{IsFirst, IsFirstWith}
use Rattle.ss_catalog.specs.declared.error.CatalogError.{CatalogError}
use Rattle.ss_catalog.proofs.Kept.{IsSameCatalog}
use Rattle.ss_catalog.proofs.Texts.{some_same}

-- ---- one at most

-- this holds of one thing at most
abbrev pub IsOnce : {A : Type 0} → (A → Type 0) → Type 0
IsOnce {A = A} Found = (a b : A) → Found a → Found b → a ≡ b

-- ---- a check, and others behind it

-- an error that reports what is found
abbrev pub Reported : {A : Type 0} → (A → CatalogError) → (A → Type 0) → CatalogError → Type 0
Reported {A = A} tell Found e = (a : A) × (e ≡ tell a) × Found a

-- checks that come so far, that report one error at most, and none where they pass
pub record InTurn (Before After : Type 0) (Tells : CatalogError → Type 0) : Type 0 where
  pub reached : (e : CatalogError) → Tells e → Before
  pub earlier : After → Before
  pub once : IsOnce Tells
  pub either : (e : CatalogError) → Tells e → After → ⊥

module _ {A Before After : Type 0} (tell : A → CatalogError) (Found : A → Type 0)
    (reached : (a : A) → Found a → Before) (earlier : After → Before) (once : IsOnce Found) (either : (a : A) → Found a → After → ⊥) where
  pub one_check : InTurn Before After (Reported tell Found)
  one_check = record {
    reached = λ e h. reached h.0 h.2;
    earlier = earlier;
    once = λ e f h k. h.1 ∙ ap tell (once h.0 k.0 h.2 k.2) ∙ sym k.1;
    either = λ e h. either h.0 h.2;
  }

module _ {Before Middle After : Type 0} {First Rest : CatalogError → Type 0} (first : InTurn Before Middle First) (rest : InTurn Middle After Rest) where
  either_reached : (e : CatalogError) → First e ⊎ Rest e → Before
  either_reached e (inl h) = first.reached e h
  either_reached e (inr h) = first.earlier (rest.reached e h)

  either_once : (e f : CatalogError) → First e ⊎ Rest e → First f ⊎ Rest f → e ≡ f
  either_once e f (inl h) (inl k) = first.once e f h k
  either_once e f (inl h) (inr k) = absurd (first.either e h (rest.reached f k))
  either_once e f (inr h) (inl k) = absurd (first.either f k (rest.reached e h))
  either_once e f (inr h) (inr k) = rest.once e f h k

  neither_passed : (e : CatalogError) → First e ⊎ Rest e → After → ⊥
  neither_passed e (inl h) passed = first.either e h (rest.earlier passed)
  neither_passed e (inr h) passed = rest.either e h passed

  -- one check and then others
  pub and_then : InTurn Before After (λ (e : CatalogError). First e ⊎ Rest e)
  and_then = record { reached = either_reached; earlier = λ passed. first.earlier (rest.earlier passed); once = either_once; either = neither_passed }

-- ---- none, and one

pub none_or_some : {A : Type 0} (o : Option A) (a : A) → o ≡ None → o ≡ Some a → ⊥
none_or_some o a h k = cc

pub none_with : (f : ℕ → Option ℕ) (x : ℕ × ℕ) → IsFirstWith f None → IsFirstWith f (Some x) → ⊥
none_with f x h k = none_or_some (f x.0) x.1 (h x.0) k.0

-- neither is below the other
neither_below : (m n : ℕ) → (m < n → ⊥) → (n < m → ⊥) → m ≡ n
neither_below m n h k = elim (cases_order m n) [ inl same ↦ same | inr other ↦ absurd (elim other [ inl below ↦ h below | inr above ↦ k above ]) ]

pub first_once : (P : ℕ → Type 0) → IsOnce (λ (n : ℕ). IsFirst P (Some n))
first_once P m n h k = neither_below m n (λ below. k.1 m below h.0) (λ below. h.1 n below k.0)

pub first_with_once : (f : ℕ → Option ℕ) → IsOnce (λ (x : ℕ × ℕ). IsFirstWith f (Some x))
first_with_once f x y h k =
    let placement : x.0 ≡ y.0 = neither_below x.0 y.0 (λ below. none_or_some (f x.0) x.1 (k.1 x.0 below) h.0) (λ below. none_or_some (f y.0) y.1 (h.1 y.0 below) k.0) in
    let found : x.1 ≡ y.1 = some_same (f y.0) x.1 y.1 (subst (λ (n : ℕ). f n ≡ Some x.1) placement h.0) k.0 in
    λ i. (placement i, found i)

-- the first of what holds of the same numbers
pub first_kept : (P Q : ℕ → Type 0) → ((n : ℕ) → P n → Q n) → ((n : ℕ) → Q n → P n) → (x : Option ℕ) → IsFirst P x → IsFirst Q x
first_kept P Q there back None h = λ k q. h k (back k q)
first_kept P Q there back (Some n) h = (there n h.0, λ k below q. h.1 k below (back k q))

-- ---- checks of a catalogue

-- a check finds one thing at most or none, and the same whatever the texts are
pub record OfCatalog {X : Type 0} (Finds : Catalog → Option X → Type 0) : Type 0 where
  pub kept : (a b : Catalog) (x : Option X) → IsSameCatalog a b → Finds a x → Finds b x
  pub once : (c : Catalog) → IsOnce (λ (x : X). Finds c (Some x))
  pub none : (c : Catalog) (x : X) → Finds c None → Finds c (Some x) → ⊥

-- a value comes so far with some catalogue
abbrev pub Comes : (Outline → Catalog → Type 0) → Type 0
Comes Stage = (o : Outline) × (c : Catalog) × Stage o c

-- with a catalogue that comes so far something is found, of which this is reported
abbrev pub Finding : {X A : Type 0} → (Outline → Catalog → Type 0) → (Catalog → Option X → Type 0) → (Catalog → X → A) → A → Type 0
Finding {X = X} Stage Finds name a = (o : Outline) × (c : Catalog) × (x : X) × Stage o c × Finds c (Some x) × (a ≡ name c x)

module _ {X A : Type 0} (Stage : Outline → Catalog → Type 0) (same : (o p : Outline) (a b : Catalog) → Stage o a → Stage p b → IsSameCatalog a b)
    (Finds : Catalog → Option X → Type 0) (finds : OfCatalog Finds)
    (name : Catalog → X → A) (name_kept : (a b : Catalog) (x : X) → IsSameCatalog a b → name a x ≡ name b x) (tell : A → CatalogError) where
  finding_once : IsOnce (Finding Stage Finds name)
  finding_once a b h k =
      let alike = same h.0 k.0 h.1 k.1 h.3 k.3 in
      let found = finds.once k.1 h.2 k.2 (finds.kept h.1 k.1 (Some h.2) alike h.4) k.4 in
      h.5 ∙ name_kept h.1 k.1 h.2 alike ∙ ap (name k.1) found ∙ sym k.5

  finding_or_none : (a : A) → Finding Stage Finds name a → Comes (λ (o : Outline) (c : Catalog). Stage o c × Finds c None) → ⊥
  finding_or_none a h k = finds.none k.1 h.2 k.2.1 (finds.kept h.1 k.1 (Some h.2) (same h.0 k.0 h.1 k.1 h.3 k.2.0) h.4)

  pub catalog_check : InTurn (Comes Stage) (Comes (λ (o : Outline) (c : Catalog). Stage o c × Finds c None)) (Reported tell (Finding Stage Finds name))
  catalog_check = one_check tell (Finding Stage Finds name) (λ a h. (h.0, h.1, h.3)) (λ k. (k.0, k.1, k.2.0)) finding_once finding_or_none
