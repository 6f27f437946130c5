-- A body that a procedure may have in the catalogue without nests, it may have beside them.
use Rattle.std.proofs.Common.{◌≡◌, ◌∙◌, ◌==◌, ◌⊎◌, ◌≢◌, ◌+◌, ◌<◌, inl, inr, ℕ, zero, suc, Bool, true, false, cond, List, [], ◌∷◌, length, set, slice_get, Some, None, unwrap_or, refl, sym, ap, subst, arith}
use Rattle.std.specs.List.{AllByRecursion, find, range_with_len}
use Rattle.std.specs.Option.{option_map}
use Rattle.std.specs.Str.{bytes_eq}
use Rattle.std.proofs.lemmas.Bool.Decides.{eqb_tells}
use Rattle.std.proofs.lemmas.Option.{slice_get-map}
use Rattle.std.proofs.lemmas.Slice.Eq.{bytes_eq-Decides}
use Rattle.serde_json.specs.Written.{compact_text}
use Rattle.ss_lemmas.proofs.Bools.{some_same}
use Rattle.ss_lemmas.proofs.LoopItem.{some_at}
use Rattle.ss_model.specs.declared.catalog.Catalog.{Catalog}
use Rattle.ss_model.specs.declared.catalog.Nest.{Nest}
use Rattle.ss_model.specs.declared.catalog.Procedure.{Procedure}
use Rattle.ss_model.specs.declared.catalog.Step.{Step}
use Rattle.ss_model.specs.Accepted.{Accepted}
use Rattle.ss_model.specs.AcceptedBodies.{AcceptedInPlace, with_body_at}
use Rattle.ss_model.specs.Database.{with_body}
use Rattle.ss_model.specs.Settling.{procedure_numbers}
use Rattle.ss_model.specs.Spares.{AcceptedBody}
use Rattle.ss_model.specs.SparesAside.{with_spares}
use Rattle.ss_model.specs.Nests.{items_in_place, nest_procedure, nested_catalog, nested_procedures, AreNests, NestedIsAccepted}
use Rattle.ss_catalog.specs.Accepts.{Accepts}
use Rattle.ss_catalog.specs.Bodies.{BodiesMayStand}
use Rattle.ss_catalog.specs.Checks.{procedure_name}
use Rattle.ss_catalog.proofs.CallerLemmas.{any_spares}
use Rattle.ss_nest.specs.Moves.{has_member, nest_with}
use Rattle.ss_nest.specs.Outlines.{plain_value}
use Rattle.ss_nest.specs.Bodies.{number_named, NestedBodiesMayStand}
use Rattle.ss_nest.proofs.OneBody.{plain_reads}
use Rattle.ss_nest.proofs.Distinct.{nest_names, own_names}
use Rattle.ss_nest.proofs.KnownMembers.{find_passes}
use Rattle.ss_nest.proofs.AreNests.{are_nests, names_differ_in}
use Rattle.ss_nest.proofs.Changed.{nest_same, nests_still, other_at, here_at}
use Rattle.ss_nest.proofs.Standing.{alike, apart_lists, one_place, IsSame, all_alike, stands, From, alone, joined, from, outside}

-- ---- one body changed is one procedure changed

set_there : {A : Type 0} (xs : List A) (n : ℕ) (y x : A) → slice_get xs n ≡ Some x → slice_get (set xs n y) n ≡ Some y
set_there [] n y x is = absurd (cc)
set_there (z ∷ xs) zero y x is = refl
set_there (z ∷ xs) (suc n) y x is = set_there xs n y x is

set_apart : {A : Type 0} (xs : List A) (n k : ℕ) (y : A) → k ≢ n → slice_get (set xs n y) k ≡ slice_get xs k
set_apart [] n k y apart = refl
set_apart (z ∷ xs) zero zero y apart = absurd (apart refl)
set_apart (z ∷ xs) zero (suc k) y apart = refl
set_apart (z ∷ xs) (suc n) zero y apart = refl
set_apart (z ∷ xs) (suc n) (suc k) y apart = set_apart xs n k y (λ same. apart (ap suc same))

-- a catalogue with another body in a place has the changed procedure there, and else what it had
as_set : (c : Catalog) (n : ℕ) (x : Procedure) → slice_get c.procedures n ≡ Some x → (steps : List Step) → (with_body_at c n steps).procedures ≡ set c.procedures n (with_body steps x)
as_set c n x there steps = alike _ _ (λ k. by k (eqb_tells k n))
  where
    by : (k : ℕ) → ((k == n ≡ true) × (k ≡ n)) ⊎ ((k == n ≡ false) × (k ≢ n)) → slice_get (with_body_at c n steps).procedures k ≡ slice_get (set c.procedures n (with_body steps x)) k
    by k (inl t) =
        ap (slice_get (with_body_at c n steps).procedures) t.1 ∙ here_at c n x there steps
        ∙ sym (ap (slice_get (set c.procedures n (with_body steps x))) t.1 ∙ set_there c.procedures n (with_body steps x) x there)
    by k (inr t) = other_at c n x there steps k t.1 ∙ sym (set_apart c.procedures n k (with_body steps x) t.1)

-- ---- names

name_at : (c : Catalog) (q : ℕ) (p : Procedure) → slice_get c.procedures q ≡ Some p → slice_get (own_names c) q ≡ Some p.name
name_at c q p is = slice_get-map (λ (z : Procedure). z.name) c.procedures q ∙ ap (option_map (λ (z : Procedure). z.name)) is

named_at : (c : Catalog) (q : ℕ) (p : Procedure) → slice_get c.procedures q ≡ Some p → procedure_name c q ≡ p.name
named_at c q p is = ap (λ o. unwrap_or (option_map (λ (z : Procedure). z.name) o) []) is

-- ---- the procedure beside the nests

module _ (plain : Catalog) (accepted : Accepted plain) (nests : List Nest) (text : List ℕ) (are : AreNests plain nests) (law : NestedIsAccepted) (in_place : AcceptedInPlace) where
  abbrev nested : Catalog
  nested = nested_catalog plain nests text

  nested_accepted : Accepted nested
  nested_accepted = law plain accepted nests text are

  module _ (q : ℕ) (p : Procedure) (is : slice_get nested.procedures q ≡ Some p) (n : ℕ) (x : Procedure) (there : slice_get plain.procedures n ≡ Some x) (same_name : x.name ≡ p.name) where
    -- it is in no nest
    out : nest_with nests n ≡ None
    out = by (from nests (nest_procedure plain) 0 plain.procedures q p is)
      where
        by : From nests (nest_procedure plain) 0 plain.procedures p → nest_with nests n ≡ None
        by (alone m at none) =
            let number : 0 + m ≡ m = omega arith in
            let same : m ≡ n = one_place (own_names plain) (names_differ_in plain accepted) m n p.name x.name (name_at plain m p at) (name_at plain n x there) (sym same_name) in
            ap (nest_with nests) (sym same) ∙ ap (nest_with nests) (sym number) ∙ none
        by (joined i nest at z made) =
            absurd (apart_lists (nest_names nests) (own_names plain) are.named i n nest.name x.name
            (slice_get-map (λ (m : Nest). m.name) nests i ∙ ap (option_map (λ (m : Nest). m.name)) at) (name_at plain n x there)
            (sym (same_name ∙ ap (λ (d : Procedure). d.name) made)))

    module _ (steps : List Step) (may : AcceptedBody plain n x steps) where
      abbrev other : Catalog
      other = with_body_at plain n steps

      -- nests have what they had
      same_nests : (ns : List Nest) → ((i : ℕ) (nest : Nest) → slice_get ns i ≡ Some nest → has_member n nest ≡ false) → AllByRecursion (IsSame nests (nest_procedure other) (nest_procedure plain)) ns
      same_nests [] none = tt
      same_nests (nest ∷ ns) none = ((λ first. nest_same plain n x there steps may nest first (none 0 nest refl)), same_nests ns (λ i m at. none (suc i) m at))

      -- the catalogue with nests and the body is the one with the body in place
      placed_procedures : nested_procedures other nests 0 other.procedures ≡ (with_body_at nested q steps).procedures
      placed_procedures =
          let number : 0 + n ≡ n = omega arith in
          let at = stands nests (nest_procedure plain) 0 plain.procedures n x there (ap (nest_with nests) number ∙ out) in
          let place : at.place ≡ q = one_place (own_names nested) (names_differ_in nested nested_accepted) at.place q x.name p.name (name_at nested at.place x at.there) (name_at nested q p is) same_name in
          let same : x ≡ p = some_same x p (sym at.there ∙ ap (slice_get nested.procedures) place ∙ is) in
          all_alike nests (nest_procedure other) (nest_procedure plain) (same_nests nests (outside nests n out)) 0 other.procedures
          ∙ ap (items_in_place (nest_procedure plain) nests 0) (as_set plain n x there steps)
          ∙ at.other (with_body steps x)
          ∙ (λ i. set nested.procedures (place i) (with_body steps (same i)))
          ∙ sym (as_set nested q p is steps)

      pub may_beside : AcceptedBody nested q p steps
      may_beside =
          let other_accepted = (in_place plain accepted n x there steps).1 may in
          let whole = law other other_accepted nests text (nests_still plain n x there steps may nests are) in
          (in_place nested nested_accepted q p is steps).0
          (subst (λ (ps : List Procedure). Accepted (record nested { procedures = ps })) placed_procedures whole)

-- ---- what a value reads as

-- the name is found at a procedure that is there
pub found_name : (c : Catalog) (name : List ℕ) (n : ℕ) → number_named c name ≡ Some n → procedure_name c n ≡ name
found_name c name n e = (bytes_eq-Decides (procedure_name c n) name).0 (find_passes (λ q. bytes_eq (procedure_name c q) name) (procedure_numbers c) n e)

found_below : (p : ℕ → Bool) (a k n : ℕ) → find p (range_with_len a k) ≡ Some n → n < a + k
found_below p a zero n e = absurd (cc)
found_below p a (suc k) n e = by (p a) refl e (found_below p (a + 1) k n)
  where
    by : (t : Bool) → p a ≡ t → cond t (Some a) (find p (range_with_len (a + 1) k)) ≡ Some n → (find p (range_with_len (a + 1) k) ≡ Some n → n < (a + 1) + k) → n < a + suc k
    by true is e rest = let same : a ≡ n = some_same a n e in omega arith
    by false is e rest = let l = rest e in omega arith

pub named_within : (c : Catalog) (name : List ℕ) (n : ℕ) → number_named c name ≡ Some n → n < length c.procedures
named_within c name n e = let below : n < 0 + length c.procedures = found_below (λ q. bytes_eq (procedure_name c q) name) 0 (length c.procedures) n e in omega arith

-- and so it is there
pub named_there : (c : Catalog) (name : List ℕ) (n : ℕ) → number_named c name ≡ Some n → (x : Procedure) × (slice_get c.procedures n ≡ Some x)
named_there c name n e = some_at c.procedures n (named_within c name n e)

pub bodies_stand : Accepts → BodiesMayStand → NestedIsAccepted → AcceptedInPlace → NestedBodiesMayStand
bodies_stand accepts plain_law law in_place catalog q body b h p is =
    let from_value = h.is_from in
    let plain = from_value.plain in
    let reads = plain_reads catalog h.whole from_value in
    let accepted = accepts (plain_value h.whole) reads.outline plain reads.passes reads.limits in
    let are = are_nests h.whole plain from_value.nests accepted from_value.passes in
    let text = compact_text h.whole in
    let base : with_spares catalog [] ≡ nested_catalog plain from_value.nests text = from_value.joined in
    let stands = subst (λ (c : Catalog). slice_get c.procedures q ≡ Some p) base is in
    let there = named_there plain (procedure_name catalog q) h.number h.is_plain_one in
    let may = plain_law plain h.number body b h.reads there.0 there.1 in
    let name = sym (named_at plain h.number there.0 there.1) ∙ found_name plain (procedure_name catalog q) h.number h.is_plain_one ∙ named_at (with_spares catalog []) q p is in
    let beside = may_beside plain accepted from_value.nests text are law in_place q p stands h.number there.0 there.1 name b.steps may in
    any_spares catalog [] catalog.spares q p b.steps (subst (λ (c : Catalog). AcceptedBody c q p b.steps) (sym base) beside)
