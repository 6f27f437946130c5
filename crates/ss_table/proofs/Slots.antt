-- The rows of slots, in a part and in the table.
use Rattle.std.proofs.Common.{◌≡◌, ℕ, ◌==◌, suc, true, false, cond, T, List, [], ◌∷◌, map, refl, sym, ap, subst, ◌∙◌, Option, Some, None, option_map, slice_get}
use Rattle.std.specs.List.{find, AllByRecursion}
use Rattle.std.specs.Option.{option_or}
use Rattle.std.specs.Ordering.{eq_by_cmp}
use Rattle.std.specs.FinMap as finite
use Rattle.std.specs.FinMap.Entries as entries
use Rattle.ss_value.specs.Rows.{Row}
use Rattle.ss_value.specs.Order.{row_cmp}
use Rattle.ss_value.specs.ValueOrder.{row_cmp_total, row_cmp-IsAntisymmetric}
use Rattle.ss_table.specs.TableValue.{LiveRows, row_at}
use Rattle.ss_table.specs.Keyed.{SlotsDiffer}
use Rattle.ss_table.specs.declared.part.Part.{Part}
use Rattle.ss_table.specs.Unions.{united}
use Rattle.ss_table.specs.Parts.{wide_live}
use Rattle.ss_lemmas.proofs.Bools.{and_left, and_right, some_same}
use Rattle.ss_lemmas.proofs.Orderings.{equal_test}
use Rattle.ss_fragment.proofs.CallerLemmas.{none_below}
use Rattle.ss_table.proofs.Unions.{get_first, same_numbers}
use Rattle.ss_table.proofs.Joining.{same_itself}
use Rattle.ss_table.proofs.Least.{first_has}

-- a list that rises has at its first's key what its first is
pub key_known : (k : Row) (e : Row × (ℕ × Row)) (es : List (Row × (ℕ × Row))) (v : ℕ × Row) → T (entries.is_sorted row_cmp (e ∷ es)) → entries.find row_cmp k es ≡ Some v → entries.find row_cmp k (e ∷ es) ≡ Some v
key_known k e es v h is = elim (eq_by_cmp row_cmp k e.0) as (λ b. eq_by_cmp row_cmp k e.0 ≡ b → cond b (Some e.1) (entries.find row_cmp k es) ≡ Some v) [
  | true ↦ λ t.
      let none : entries.find row_cmp k es ≡ None = ap (λ k. entries.find row_cmp k es) (row_cmp-IsAntisymmetric k e.0 (equal_test _ t)) ∙ none_below row_cmp e.0 es (and_left _ _ h) in
      let no : None ≡ Some v = sym none ∙ is in cc
  | false ↦ λ t. is
] refl

-- the row of a slot stands at a key
slot_known : (es : List (Row × (ℕ × Row))) (s : ℕ) (row : Row) → T (entries.is_sorted row_cmp es) → option_map (λ e. e.1.1) (find (λ e. e.1.0 == s) es) ≡ Some row → (k : Row) × (entries.find row_cmp k es ≡ Some (s, row))
slot_known [] s row h e = cc
slot_known (x ∷ es) s row h e =
    elim (x.1.0 == s) as (λ b. (x.1.0 == s) ≡ b → option_map (λ e. e.1.1) (cond b (Some x) (find (λ e. e.1.0 == s) es)) ≡ Some row → (k : Row) × (entries.find row_cmp k (x ∷ es) ≡ Some (s, row))) [
      | true ↦ λ t r. (x.0, first_has row_cmp_total x es ∙ (λ i. Some (same_numbers _ _ t i, some_same _ _ r i)))
      | false ↦ λ t r. let rest = slot_known es s row (and_right _ _ h) r in (rest.0, key_known rest.0 x es (s, row) h rest.1)
    ] refl e

-- a row at a key has its slot
key_has : (es : List (Row × (ℕ × Row))) (k : Row) (s : ℕ) (row : Row) → entries.find row_cmp k es ≡ Some (s, row) → (other : Row) × (option_map (λ e. e.1.1) (find (λ e. e.1.0 == s) es) ≡ Some other)
key_has [] k s row e = cc
key_has (x ∷ es) k s row e =
    elim (x.1.0 == s) as (λ b. (x.1.0 == s) ≡ b → (other : Row) × (option_map (λ e. e.1.1) (cond b (Some x) (find (λ e. e.1.0 == s) es)) ≡ Some other)) [
      | true ↦ λ t. (x.1.1, refl)
      | false ↦ λ t. elim (eq_by_cmp row_cmp k x.0) as (λ b. cond b (Some x.1) (entries.find row_cmp k es) ≡ Some (s, row) → (other : Row) × (option_map (λ e. e.1.1) (find (λ e. e.1.0 == s) es) ≡ Some other)) [
        | true ↦ λ r. let no : true ≡ false = sym (same_itself s) ∙ sym (ap (λ a. a == s) (ap (λ (p : ℕ × Row). p.0) (some_same _ _ r))) ∙ t in cc
        | false ↦ λ r. key_has es k s row r
      ] e
    ] refl

found_so : (P : Row × (ℕ × Row) → Type 0) (Q : ℕ × Row → Type 0) → ((e : Row × (ℕ × Row)) → P e → Q e.1) → (es : List (Row × (ℕ × Row))) (k : Row) (v : ℕ × Row) → AllByRecursion P es → entries.find row_cmp k es ≡ Some v → Q v
found_so P Q so [] k v h e = cc
found_so P Q so (x ∷ es) k v h e = elim (eq_by_cmp row_cmp k x.0) as (λ b. cond b (Some x.1) (entries.find row_cmp k es) ≡ Some v → Q v) [
  | true ↦ λ r. subst Q (some_same _ _ r) (so x h.0)
  | false ↦ λ r. found_so P Q so es k v h.1 r
] e

-- no two keys have one slot
slot_once : (es : List (Row × (ℕ × Row))) (k l : Row) (s : ℕ) (a b : Row) → SlotsDiffer es → entries.find row_cmp k es ≡ Some (s, a) → entries.find row_cmp l es ≡ Some (s, b) → k ≡ l
slot_once [] k l s a b d e f = cc
slot_once (x ∷ es) k l s a b d e f =
    elim (eq_by_cmp row_cmp k x.0) as (λ c. eq_by_cmp row_cmp k x.0 ≡ c → cond c (Some x.1) (entries.find row_cmp k es) ≡ Some (s, a) → k ≡ l) [
      | true ↦ λ t r. elim (eq_by_cmp row_cmp l x.0) as (λ c. eq_by_cmp row_cmp l x.0 ≡ c → cond c (Some x.1) (entries.find row_cmp l es) ≡ Some (s, b) → k ≡ l) [
        | true ↦ λ u q. row_cmp-IsAntisymmetric k x.0 (equal_test _ t) ∙ sym (row_cmp-IsAntisymmetric l x.0 (equal_test _ u))
        | false ↦ λ u q. absurd (found_so (λ d. d.1.0 ≡ x.1.0 → ⊥) (λ v. v.0 ≡ x.1.0 → ⊥) (λ e n. n) es l (s, b) d.0 q (sym (ap (λ (p : ℕ × Row). p.0) (some_same _ _ r))))
      ] refl f
      | false ↦ λ t r. elim (eq_by_cmp row_cmp l x.0) as (λ c. eq_by_cmp row_cmp l x.0 ≡ c → cond c (Some x.1) (entries.find row_cmp l es) ≡ Some (s, b) → k ≡ l) [
        | true ↦ λ u q. absurd (found_so (λ d. d.1.0 ≡ x.1.0 → ⊥) (λ v. v.0 ≡ x.1.0 → ⊥) (λ e n. n) es k (s, a) d.0 r (sym (ap (λ (p : ℕ × Row). p.0) (some_same _ _ q))))
        | false ↦ λ u q. slot_once es k l s a b d.1 r q
      ] refl f
    ] refl e

pub at_key : (m : LiveRows) (s : ℕ) (row : Row) → row_at m s ≡ Some row → (k : Row) × (finite.get m k ≡ Some (s, row))
at_key m s row e = let r = slot_known (finite.entries m) s row (finite.entries_sorted m) e in (r.0, finite.get-entries m r.0 ∙ r.1)

pub at_slot : (m : LiveRows) (k : Row) (s : ℕ) (row : Row) → finite.get m k ≡ Some (s, row) → (other : Row) × (row_at m s ≡ Some other)
at_slot m k s row e = key_has (finite.entries m) k s row (sym (finite.get-entries m k) ∙ e)

pub one_key : (m : LiveRows) (k l : Row) (s : ℕ) (a b : Row) → SlotsDiffer (finite.entries m) → finite.get m k ≡ Some (s, a) → finite.get m l ≡ Some (s, b) → k ≡ l
one_key m k l s a b d e f = slot_once (finite.entries m) k l s a b d (sym (finite.get-entries m k) ∙ e) (sym (finite.get-entries m l) ∙ f)

-- what a united map has, one of the parts has
pub from_part : (fs : List Part) (k : Row) (v : ℕ × Row) → finite.get (united (map wide_live fs)) k ≡ Some v → (j : ℕ) × (f : Part) × (slice_get fs j ≡ Some f) × (finite.get (wide_live f) k ≡ Some v)
from_part [] k v e = let no : None ≡ Some v = sym (finite.get-empty row_cmp k) ∙ e in cc
from_part (f ∷ fs) k v e =
    elim (finite.get (wide_live f) k) as (λ o. finite.get (wide_live f) k ≡ o → option_or o (finite.get (united (map wide_live fs)) k) ≡ Some v → (j : ℕ) × (g : Part) × (slice_get (f ∷ fs) j ≡ Some g) × (finite.get (wide_live g) k ≡ Some v)) [
      | None ↦ λ is r. let rest = from_part fs k v r in (suc rest.0, rest.1, rest.2, rest.3)
      | Some w ↦ λ is r. (0, f, refl, is ∙ r)
    ] refl (sym (get_first row_cmp_total (wide_live f) (map wide_live fs) k) ∙ e)
