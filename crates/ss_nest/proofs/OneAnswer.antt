-- A value has one answer as a catalogue with nests.
use Rattle.std.proofs.Common.{◌≡◌, ◌⊎◌, ◌++◌, ℕ, List, Option, Some, None, refl, sym, ap, subst, ◌∙◌, inl, inr}
use Rattle.std.specs.Prelude.{Result, Ok, Err, codes}
use Rattle.serde_json.specs.Data.{Data}
use Rattle.serde_json.specs.Written.{compact_text}
use Rattle.ss_lemmas.proofs.Bools.{some_same}
use Rattle.ss_model.specs.declared.catalog.Catalog.{Catalog}
use Rattle.ss_model.specs.declared.catalog.Nest.{Nest}
use Rattle.ss_model.specs.Nests.{nested_catalog}
use Rattle.ss_catalog.specs.Answers.{HasOneCatalog, IsReadOrRefused, HasOneRefusal}
use Rattle.ss_catalog.proofs.CallerLemmas.{err_same, ok_or_err, ok_same}
use Rattle.ss_nest.specs.declared.error.NestError.{NestError}
use Rattle.ss_nest.specs.declared.error.NestError.TheVariants.{NoMemory, Catalog as PlainError, Shape, Unknown, Twice, NotClosed, Touch, Window}
use Rattle.ss_nest.specs.declared.outline.NestOutline.{NestOutline}
use Rattle.ss_nest.specs.Outlines.{plain_value, read_nests}
use Rattle.ss_nest.specs.Members.{nests_of, twice_in}
use Rattle.ss_nest.specs.Joinable.{open_nest, nest_of_two_touches, nest_with_batches}
use Rattle.ss_nest.specs.Reads.{IsReadPlain, IsNestShaped, HasKnownMembers, HasDistinctMembers, HasClosedNests, HasTouchingNests, HasRightNests, RefusesPlain, IsMisnested, HasUnknownMember, HasMemberTwice, name_of, HasOpenNest, HasTwoTouches, HasBatchWindow, RefusesNested}
use Rattle.ss_nest.specs.Answers.{HasOneNested, IsNestedOrRefused, HasOneNestedRefusal}
use Rattle.ss_nest.proofs.InTurn.{IsOnce, Reported, InTurn, one_check, and_then}

-- ---- what is there

-- an option is one thing at most
pub option_same : {A : Type 0} (o : Option A) (a b : A) → o ≡ Some a → o ≡ Some b → a ≡ b
option_same o a b h k = some_same a b (sym h ∙ k)

pub none_or_some : {A : Type 0} (o : Option A) (a : A) → o ≡ None → o ≡ Some a → ⊥
none_or_some o a h k = cc

-- ---- the plain catalogue and the nests are one

pub plain_of : (d : Data) (c : Catalog) (ns : List Nest) → HasKnownMembers d c ns → IsReadPlain d c
plain_of d c ns h = h.1.0

pub known_of : (d : Data) (c : Catalog) (ns : List Nest) → HasRightNests d c ns → HasKnownMembers d c ns
known_of d c ns h = h.0.0.0.0

module _ (one : HasOneCatalog) (d : Data) where
  same_plain : (a b : Catalog) → IsReadPlain d a → IsReadPlain d b → a ≡ b
  same_plain a b h k = one (plain_value d) a b h k

  same_outlines : (a b : Catalog) (os ps : List NestOutline) → IsNestShaped d a os → IsNestShaped d b ps → (a ≡ b) × (os ≡ ps)
  same_outlines a b os ps h k = (same_plain a b h.0 k.0, ok_same (read_nests d) os ps h.1 k.1)

  -- what numbers of names come to, moved from one plain catalogue to the other
  moved : (r : Result (List Nest) (List ℕ)) (a b : Catalog) (os ps : List NestOutline) → IsNestShaped d a os → IsNestShaped d b ps → nests_of a os ≡ r → nests_of b ps ≡ r
  moved r a b os ps h k is =
      let same = same_outlines a b os ps h k in
      subst (λ (x : Result (List Nest) (List ℕ)). x ≡ r) (λ i. nests_of (same.0 i) (same.1 i)) is

  pub same_known : (a b : Catalog) (ms ns : List Nest) → HasKnownMembers d a ms → HasKnownMembers d b ns → (a ≡ b) × (ms ≡ ns)
  same_known a b ms ns h k = (same_plain a b h.1.0 k.1.0, ok_same (nests_of b k.0) ms ns (moved (Ok ms) a b h.0 k.0 h.1 k.1 h.2) k.2)

pub one_nested : HasOneCatalog → HasOneNested
one_nested one d a b h k =
    let same = same_known one d h.plain k.plain h.nests k.nests (known_of d h.plain h.nests h.passes) (known_of d k.plain k.nests k.passes) in
    h.joined ∙ (λ i. nested_catalog (same.0 i) (same.1 i) (compact_text d)) ∙ sym k.joined

-- ---- the checks, one after another

-- it comes so far with some plain catalogue and some nests
abbrev Come : (Catalog → List Nest → Type 0) → Type 0
Come Stage = (c : Catalog) × (ns : List Nest) × Stage c ns

-- with what comes so far this is found
abbrev Found : (Catalog → List Nest → Type 0) → (Catalog → List Nest → Option (List ℕ)) → List ℕ → Type 0
Found Stage find name = (c : Catalog) × (ns : List Nest) × Stage c ns × (find c ns ≡ Some name)

module _ (Stage After : Catalog → List Nest → Type 0) (same : (a b : Catalog) (ms ns : List Nest) → Stage a ms → Stage b ns → (a ≡ b) × (ms ≡ ns))
    (find : Catalog → List Nest → Option (List ℕ)) (none : (c : Catalog) (ns : List Nest) → After c ns → Stage c ns × (find c ns ≡ None)) (tell : List ℕ → NestError) where
  -- what is found with one is found with the other
  found_too : (name : List ℕ) (a b : Catalog) (ms ns : List Nest) → Stage a ms → Stage b ns → find a ms ≡ Some name → find b ns ≡ Some name
  found_too name a b ms ns h k is =
      let alike = same a b ms ns h k in
      subst (λ (o : Option (List ℕ)). o ≡ Some name) (λ i. find (alike.0 i) (alike.1 i)) is

  found_once : IsOnce (Found Stage find)
  found_once a b h k = option_same (find k.0 k.1) a b (found_too a h.0 k.0 h.1 k.1 h.2 k.2 h.3) k.3

  found_or_none : (a : List ℕ) → Found Stage find a → Come After → ⊥
  found_or_none a h k =
      let passed = none k.0 k.1 k.2 in
      none_or_some (find k.0 k.1) a passed.1 (found_too a h.0 k.0 h.1 k.1 h.2 passed.0 h.3)

  nests_check : InTurn (Come Stage) (Come After) (Reported tell (Found Stage find))
  nests_check = one_check tell (Found Stage find) (λ a h. (h.0, h.1, h.2)) (λ k. (k.0, k.1, (none k.0 k.1 k.2).0)) found_once found_or_none

module _ (d : Data) where
  abbrev Plain : Type 0
  Plain = (c : Catalog) × IsReadPlain d c

  abbrev Shaped : Type 0
  Shaped = (c : Catalog) × (os : List NestOutline) × IsNestShaped d c os

  abbrev NestsTold : NestError → Type 0
  NestsTold e =
      Reported Twice (HasMemberTwice d) e ⊎ (Reported NotClosed (HasOpenNest d) e ⊎ (Reported Touch (HasTwoTouches d) e ⊎ Reported Window (HasBatchWindow d) e))

  abbrev AnyTold : NestError → Type 0
  AnyTold e = Reported PlainError (RefusesPlain d) e ⊎ (Reported Shape (IsMisnested d) e ⊎ (Reported Unknown (HasUnknownMember d) e ⊎ NestsTold e))

  module _ (one : HasOneCatalog) (either : IsReadOrRefused) (once : HasOneRefusal) where
    plain_check : InTurn (Unit {0}) Plain (Reported PlainError (RefusesPlain d))
    plain_check = one_check PlainError (RefusesPlain d) (λ e h. tt) (λ k. tt)
        (λ e f h k. once (plain_value d) e f h.0 k.0 h.1 k.1) (λ e h k. h.1 (either (plain_value d) k.0 e k.1 h.0))

    shape_once : IsOnce (IsMisnested d)
    shape_once a b h k = h.4 ∙ ap (λ (way : List ℕ). codes "$" ++ way) (err_same (read_nests d) h.1 k.1 h.3 k.3) ∙ sym k.4

    shape_check : InTurn Plain Shaped (Reported Shape (IsMisnested d))
    shape_check = one_check Shape (IsMisnested d) (λ path h. (h.0, h.2)) (λ k. (k.0, k.2.0)) shape_once (λ path h k. ok_or_err (read_nests d) k.1 h.1 k.2.1 h.3)

    unknown_once : IsOnce (HasUnknownMember d)
    unknown_once a b h k = err_same (nests_of k.0 k.1) a b (moved one d (Err a) h.0 k.0 h.1 k.1 h.2 k.2 h.3) k.3

    unknown_or_known : (a : List ℕ) → HasUnknownMember d a → Come (HasKnownMembers d) → ⊥
    unknown_or_known a h k = ok_or_err (nests_of k.0 k.2.0) k.1 a k.2.2 (moved one d (Err a) h.0 k.0 h.1 k.2.0 h.2 k.2.1 h.3)

    known_check : InTurn Shaped (Come (HasKnownMembers d)) (Reported Unknown (HasUnknownMember d))
    known_check = one_check Unknown (HasUnknownMember d) (λ name h. (h.0, h.1, h.2)) (λ k. (k.0, k.2.0, k.2.1)) unknown_once unknown_or_known

    twice_check : InTurn (Come (HasKnownMembers d)) (Come (HasDistinctMembers d)) (Reported Twice (HasMemberTwice d))
    twice_check = nests_check (HasKnownMembers d) (HasDistinctMembers d) (same_known one d) twice_in (λ c ns h. h) Twice

    closed_check : InTurn (Come (HasDistinctMembers d)) (Come (HasClosedNests d)) (Reported NotClosed (HasOpenNest d))
    closed_check = nests_check (HasDistinctMembers d) (HasClosedNests d) (λ a b ms ns h k. same_known one d a b ms ns h.0 k.0)
        (λ c ns. name_of (open_nest c ns)) (λ c ns h. (h.0, ap name_of h.1)) NotClosed

    touch_check : InTurn (Come (HasClosedNests d)) (Come (HasTouchingNests d)) (Reported Touch (HasTwoTouches d))
    touch_check = nests_check (HasClosedNests d) (HasTouchingNests d) (λ a b ms ns h k. same_known one d a b ms ns h.0.0 k.0.0)
        (λ c ns. name_of (nest_of_two_touches c ns)) (λ c ns h. (h.0, ap name_of h.1)) Touch

    window_check : InTurn (Come (HasTouchingNests d)) (Come (HasRightNests d)) (Reported Window (HasBatchWindow d))
    window_check = nests_check (HasTouchingNests d) (HasRightNests d) (λ a b ms ns h k. same_known one d a b ms ns h.0.0.0 k.0.0.0)
        (λ c ns. name_of (nest_with_batches c ns)) (λ c ns h. (h.0, ap name_of h.1)) Window

    all_checks : InTurn (Unit {0}) (Come (HasRightNests d)) AnyTold
    all_checks = and_then plain_check (and_then shape_check (and_then known_check (and_then twice_check (and_then closed_check (and_then touch_check window_check)))))

  -- each refusal is reported by a check
  reported_of : (e : NestError) → RefusesNested d e → (e ≡ NoMemory) ⊎ AnyTold e
  reported_of NoMemory k = inl refl
  reported_of (PlainError e) k = inr (inl (e, refl, k))
  reported_of (Shape path) k = inr (inr (inl (path, refl, k)))
  reported_of (Unknown name) k = inr (inr (inr (inl (name, refl, k))))
  reported_of (Twice name) k = inr (inr (inr (inr (inl (name, refl, k)))))
  reported_of (NotClosed name) k = inr (inr (inr (inr (inr (inl (name, refl, k))))))
  reported_of (Touch name) k = inr (inr (inr (inr (inr (inr (inl (name, refl, k)))))))
  reported_of (Window name) k = inr (inr (inr (inr (inr (inr (inr (name, refl, k)))))))

module _ (one : HasOneCatalog) (either : IsReadOrRefused) (once : HasOneRefusal) where
  passed_or_told : (d : Data) (e : NestError) → Come (HasRightNests d) → (e ≡ NoMemory) ⊎ AnyTold d e → e ≡ NoMemory
  passed_or_told d e passed (inl is) = is
  passed_or_told d e passed (inr told) = absurd ((all_checks d one either once).either e told passed)

  pub nested_or_refused : IsNestedOrRefused
  nested_or_refused d c e h k = passed_or_told d e (h.plain, h.nests, h.passes) (reported_of d e k)

  one_told : (d : Data) (e f : NestError) → (e ≡ NoMemory → ⊥) → (f ≡ NoMemory → ⊥) → (e ≡ NoMemory) ⊎ AnyTold d e → (f ≡ NoMemory) ⊎ AnyTold d f → e ≡ f
  one_told d e f some other (inl is) k = absurd (some is)
  one_told d e f some other (inr told) (inl is) = absurd (other is)
  one_told d e f some other (inr told) (inr too) = (all_checks d one either once).once e f told too

  pub one_nested_refusal : HasOneNestedRefusal
  one_nested_refusal d e f h k some other = one_told d e f some other (reported_of d e h) (reported_of d f k)
