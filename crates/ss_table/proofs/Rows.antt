-- The row of a slot of a united table.
use Rattle.std.proofs.Common.{◌≡◌, ℕ, ◌+◌, ◌*◌, ◌/◌, ◌%◌, ◌<◌, ◌==◌, suc, zero, true, false, List, [], ◌∷◌, map, refl, sym, ap, ◌∙◌, Option, Some, None, option_map, unwrap_or, slice_get, arith}
use Rattle.std.specs.FinMap as finite
use Rattle.std.proofs.lemmas.Option.{slice_get-map}
use Rattle.ss_value.specs.Rows.{Row}
use Rattle.ss_value.specs.ValueOrder.{row_cmp_total}
use Rattle.ss_table.specs.TableValue.{row_at}
use Rattle.ss_table.specs.Keyed.{SlotsDiffer}
use Rattle.ss_table.specs.declared.route.Route.{Route}
use Rattle.ss_table.specs.declared.part.Part.{Part}
use Rattle.ss_table.specs.Routes.{place_among, place_of}
use Rattle.ss_table.specs.Parts.{wide, to_wide, wide_live, live_of, parts_of, key_home, slot_home, AreApart, IsPart, IsUnited}
use Rattle.ss_lemmas.proofs.Bools.{some_same}
use Rattle.ss_table.proofs.Unions.{same_numbers, get_at, none_elsewhere}
use Rattle.ss_table.proofs.Wide.{get_with_values, each_at}
use Rattle.ss_table.proofs.Slots.{at_key, at_slot, one_key, from_part}

pub rest_is : (p s slot : ℕ) → p < 8 → s * 8 + p ≡ slot → slot % 8 ≡ p
rest_is p s slot l e = omega (arith, l, e)

pub front_is : (p s slot : ℕ) → p < 8 → s * 8 + p ≡ slot → slot / 8 ≡ s
front_is p s slot l e = omega (arith, l, e)

pub whole_is : (slot : ℕ) → slot / 8 * 8 + slot % 8 ≡ slot
whole_is slot = omega arith

-- a wide row is that of a slot of the part
pub narrow : (p : ℕ) (o : Option (ℕ × Row)) (slot : ℕ) (row : Row) → option_map (to_wide p) o ≡ Some (slot, row) → (s : ℕ) × (o ≡ Some (s, row)) × (wide p s ≡ slot)
narrow p None slot row e = cc
narrow p (Some v) slot row e = (v.0, ap (λ r. Some (v.0, r)) (ap (λ (x : ℕ × Row). x.1) (some_same _ _ e)), ap (λ (x : ℕ × Row). x.0) (some_same _ _ e))

not_none : {A : Type 0} (x : A) → None ≡ Some x → ⊥
not_none x e = cc

-- what a part has at a key is at home there
pub home_known : (by : Route) (key : List ℕ) (fs : List Part) → IsUnited by key fs → (j : ℕ) (f : Part) → slice_get fs j ≡ Some f → (k : Row) (v : ℕ × Row) → finite.get (wide_live f) k ≡ Some v → key_home by fs k ≡ j
home_known by key fs u j f there k v e = elim (key_home by fs k == 0 + j) as (λ b. (key_home by fs k == 0 + j) ≡ b → key_home by fs k ≡ j) [
  | true ↦ λ t. same_numbers _ _ t ∙ omega arith
  | false ↦ λ t. absurd (not_none v (sym (none_elsewhere row_cmp_total (key_home by fs) (map wide_live fs) 0 j (wide_live f) u.home (slice_get-map wide_live fs j ∙ ap (option_map wide_live) there) k t) ∙ e))
] refl

pub apart_at : (i : ℕ) (all : List ℕ) (fs : List Part) (j : ℕ) (f : Part) → AreApart i all (parts_of fs) → slice_get fs j ≡ Some f → place_among all f.number ≡ Some (i + j)
apart_at i all [] j f a e = cc
apart_at i all (g ∷ fs) zero f a e = ap (λ (x : Part). place_among all x.number) (sym (some_same g f e)) ∙ a.0 ∙ ap Some (omega arith)
apart_at i all (g ∷ fs) (suc j) f a e = apart_at (suc i) all fs j f a.1 e ∙ ap Some (omega arith)

module _ (by : Route) (key : List ℕ) (fs : List Part) (u : IsUnited by key fs) (slot : ℕ) (f : Part) (own : slice_get fs (slot_home fs slot) ≡ Some f) where
  -- a row of the table in a slot is one of the slot's own part
  pub own_row : (k row : Row) → finite.get (live_of fs) k ≡ Some (slot, row) → (f.number ≡ slot % 8) × (finite.get f.rows.live k ≡ Some (slot / 8, row))
  own_row k row e =
      let there = from_part fs k (slot, row) e in
      let h : Part = there.1 in
      let s = narrow h.number (finite.get h.rows.live k) slot row (sym (get_with_values (to_wide h.number) h.rows.live k) ∙ there.3) in
      let small : h.number < 8 = (each_at (IsPart key) fs there.0 h u.each there.2).below in
      let part : slot % 8 ≡ h.number = rest_is h.number s.0 slot small s.2 in
      let at : place_among (parts_of fs) h.number ≡ Some there.0 = apart_at 0 (parts_of fs) fs there.0 h u.apart there.2 ∙ ap Some (omega arith) in
      let same : f ≡ h = some_same f h (sym own ∙ ap (λ p. slice_get fs (place_of (parts_of fs) p)) part ∙ ap (λ o. slice_get fs (unwrap_or o 0)) at ∙ there.2) in (
        ap (λ (x : Part). x.number) same ∙ sym part,
        ap (λ (x : Part). finite.get x.rows.live k) same ∙ s.1 ∙ ap (λ n. Some (n, row)) (sym (front_is h.number s.0 slot small s.2)),
      )

  -- where the part found is of another part, the slot is not live
  pub row_none : (f.number ≡ slot % 8 → ⊥) → row_at (live_of fs) slot ≡ None
  row_none other = elim (row_at (live_of fs) slot) as (λ o. row_at (live_of fs) slot ≡ o → o ≡ None) [
    | None ↦ λ e. refl
    | Some r ↦ λ e. let k = at_key (live_of fs) slot r e in absurd (other (own_row k.0 r k.1).0)
  ] refl

  -- else it has the row that the part has
  pub row_is : f.number ≡ slot % 8 → SlotsDiffer (finite.entries f.rows.live) → row_at (live_of fs) slot ≡ row_at f.rows.live (slot / 8)
  row_is part differ = elim (row_at f.rows.live (slot / 8)) as (λ o. row_at f.rows.live (slot / 8) ≡ o → row_at (live_of fs) slot ≡ o) [
    | None ↦ λ none. elim (row_at (live_of fs) slot) as (λ o. row_at (live_of fs) slot ≡ o → o ≡ None) [
      | None ↦ λ e. refl
      | Some r ↦ λ e.
          let k = at_key (live_of fs) slot r e in
          let there = at_slot f.rows.live k.0 (slot / 8) r (own_row k.0 r k.1).1 in
          let no : None ≡ Some there.0 = sym none ∙ there.1 in cc
    ] refl
    | Some row ↦ λ is.
        let k = at_key f.rows.live (slot / 8) row is in
        let at : ℕ = slot_home fs slot in
        let here : slice_get (map wide_live fs) at ≡ Some (wide_live f) = slice_get-map wide_live fs at ∙ ap (option_map wide_live) own in
        let whole : wide f.number (slot / 8) ≡ slot = ap (λ p. slot / 8 * 8 + p) part ∙ whole_is slot in
        let wide_row : finite.get (wide_live f) k.0 ≡ Some (slot, row) = get_with_values (to_wide f.number) f.rows.live k.0 ∙ ap (option_map (to_wide f.number)) k.1 ∙ ap (λ n. Some (n, row)) whole in
        let home : key_home by fs k.0 ≡ at = home_known by key fs u at f own k.0 (slot, row) wide_row in
        let table_row : finite.get (live_of fs) k.0 ≡ Some (slot, row) = get_at row_cmp_total (key_home by fs) (map wide_live fs) 0 at (wide_live f) u.home here k.0 (home ∙ omega arith) ∙ wide_row in
        let found = at_slot (live_of fs) k.0 slot row table_row in
        let back = at_key (live_of fs) slot found.0 found.1 in
        let mine : finite.get f.rows.live back.0 ≡ Some (slot / 8, found.0) = (own_row back.0 found.0 back.1).1 in
        let same : back.0 ≡ k.0 = one_key f.rows.live back.0 k.0 (slot / 8) found.0 row differ mine k.1 in
        found.1 ∙ ap (option_map (λ (p : ℕ × Row). p.1)) (sym mine ∙ ap (λ q. finite.get f.rows.live q) same ∙ k.1)
  ] refl
