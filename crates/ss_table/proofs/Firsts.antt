-- The first of a table's rows, and the first behind a key, by its parts.
use Rattle.std.proofs.Common.{◌≡◌, ℕ, ◌<◌, true, false, cond, List, [], ◌∷◌, map, refl, sym, ap, subst, ◌∙◌, Option, Some, None, option_map, Bool, length, arith}
use Rattle.std.specs.List.{AllByRecursion}
use Rattle.std.specs.Option.{option_or}
use Rattle.std.specs.Ordering.{is_lt}
use Rattle.std.specs.FinMap as finite
use Rattle.ss_lemmas.proofs.Bools.{some_same}
use Rattle.ss_value.specs.Rows.{Row}
use Rattle.ss_value.specs.Order.{row_cmp}
use Rattle.ss_value.specs.ValueOrder.{row_cmp_total, row_cmp-IsAntisymmetric}
use Rattle.ss_fragment.specs.Keyed.{AreKeyed}
use Rattle.ss_table.specs.declared.part.Part.{Part}
use Rattle.ss_table.specs.TableValue.{LiveRows, key_of, HasKey, row_at, first_in}
use Rattle.ss_table.specs.Keyed.{StandsAtKey, SlotsDiffer}
use Rattle.ss_table.specs.Unions.{united, head, lesser}
use Rattle.ss_table.specs.Parts.{wide, to_wide, with_values, wide_live, is_beyond, rows_beyond, live_beyond, IsHead, IsPart}
use Rattle.ss_table.proofs.Unions.{get_first, or_none}
use Rattle.ss_table.proofs.Least.{least_united, least_of, IsLeast}
use Rattle.ss_table.proofs.Wide.{map_cond, entries_with_values, get_with_values}
use Rattle.ss_table.proofs.Slots.{at_key, at_slot, one_key}
use Rattle.ss_table.proofs.Own.{stands}

head-map : {A B : Type 0} (f : A → B) (xs : List A) → head (map f xs) ≡ option_map f (head xs)
head-map f [] = refl
head-map f (x ∷ xs) = refl

first_none : (es : List (Row × (ℕ × Row))) → first_in es ≡ None → head es ≡ None
first_none [] e = refl
first_none (x ∷ es) e = cc

first_some : (es : List (Row × (ℕ × Row))) (slot : ℕ) → first_in es ≡ Some slot → (e : Row × (ℕ × Row)) × (head es ≡ Some e) × (e.1.0 ≡ slot)
first_some [] slot e = cc
first_some (x ∷ es) slot e = (x, refl, some_same _ _ e)

pub first_is : (es : List (Row × (ℕ × Row))) → first_in es ≡ option_map (λ e. e.1.0) (head es)
first_is [] = refl
first_is (x ∷ es) = refl

pub first_known : (m : LiveRows) (e : Row × (ℕ × Row)) → head (finite.entries m) ≡ Some e → finite.get m e.0 ≡ Some e.1
first_known m e is = (subst (λ o. IsLeast row_cmp (finite.get m) o) is (least_of row_cmp_total row_cmp-IsAntisymmetric m)).0

-- ---- of one part

-- the cut of rows with other slots is the cut of the rows
cut_wide : (n : ℕ) (m : LiveRows) (p : Row → Bool) → finite.retain_keys (with_values (to_wide n) m) p ≡ with_values (to_wide n) (finite.retain_keys m p)
cut_wide n m p = finite.same_map row_cmp_total row_cmp-IsAntisymmetric _ _ (λ q.
    finite.get-retain_keys (with_values (to_wide n) m) p q (λ x t. ap p (sym (row_cmp-IsAntisymmetric q x t)))
    ∙ ap (λ x. cond (p q) x None) (get_with_values (to_wide n) m q)
    ∙ sym (map_cond (to_wide n) (p q) (finite.get m q) None)
    ∙ ap (option_map (to_wide n)) (sym (finite.get-retain_keys m p q (λ x t. ap p (sym (row_cmp-IsAntisymmetric q x t)))))
    ∙ sym (get_with_values (to_wide n) (finite.retain_keys m p) q))

head_wide : (n : ℕ) (m : LiveRows) → head (finite.entries (with_values (to_wide n) m)) ≡ option_map (λ (e : Row × (ℕ × Row)). (e.0, to_wide n e.1)) (head (finite.entries m))
head_wide n m = ap head (entries_with_values (to_wide n) m) ∙ head-map (λ (e : Row × (ℕ × Row)). (e.0, to_wide n e.1)) (finite.entries m)

kept_at : (m : LiveRows) (p : Row → Bool) (k : Row) (v : ℕ × Row) → finite.get (finite.retain_keys m p) k ≡ Some v → finite.get m k ≡ Some v
kept_at m p k v e = elim (p k) as (λ b. cond b (finite.get m k) None ≡ Some v → finite.get m k ≡ Some v) [
  | true ↦ λ e. e
  | false ↦ λ e. absurd (none_some e)
] (sym (finite.get-retain_keys m p k (λ x t. ap p (sym (row_cmp-IsAntisymmetric k x t)))) ∙ e)
  where
    none_some : None ≡ Some v → ⊥
    none_some e = cc

-- the row of a slot is the one at its key
pub row_known : (m : LiveRows) (k : Row) (slot : ℕ) (row : Row) → SlotsDiffer (finite.entries m) → finite.get m k ≡ Some (slot, row) → row_at m slot ≡ Some row
row_known m k slot row differ e =
    let other = at_slot m k slot row e in
    let l = at_key m slot other.0 other.1 in
    let one : l.0 ≡ k = one_key m l.0 k slot other.0 row differ l.1 e in
    other.1 ∙ ap (option_map (λ (p : ℕ × Row). p.1)) (sym l.1 ∙ ap (finite.get m) one ∙ e)

-- the first slot of a part behind a key, with its row
pub next_row : (f : Part) (bound : Option Row) (slot : ℕ) → AreKeyed f.rows → first_in (finite.entries (rows_beyond f.rows.key bound f.rows.live)) ≡ Some slot
    → (row : Row) × (row_at f.rows.live slot ≡ Some row) × IsHead f.rows.key (live_beyond f.rows.key bound f) (wide f.number slot) row
next_row f bound slot keyed e =
    let h = first_some (finite.entries (rows_beyond f.rows.key bound f.rows.live)) slot e in
    let row : Row = h.0.1.1 in
    let found : finite.get f.rows.live h.0.0 ≡ Some (slot, h.0.1.1) = kept_at f.rows.live (is_beyond f.rows.key bound) h.0.0 h.0.1 (first_known (rows_beyond f.rows.key bound f.rows.live) h.0 h.1) ∙ ap (λ n. Some (n, h.0.1.1)) h.2 in
    let at = stands f.rows.key f.rows.live h.0.0 (slot, h.0.1.1) keyed.keyed found in (
      h.0.1.1,
      row_known f.rows.live h.0.0 slot h.0.1.1 keyed.apart found,
      (
        ap (λ (m : LiveRows). head (finite.entries m)) (cut_wide f.number f.rows.live (is_beyond f.rows.key bound)) ∙ head_wide f.number (rows_beyond f.rows.key bound f.rows.live)
            ∙ ap (option_map (λ (e : Row × (ℕ × Row)). (e.0, to_wide f.number e.1))) h.1 ∙ (λ i. Some (at.0 i, (wide f.number (h.2 i), h.0.1.1))),
        at.1,
      ),
    )

pub none_next : (f : Part) (bound : Option Row) → first_in (finite.entries (rows_beyond f.rows.key bound f.rows.live)) ≡ None → head (finite.entries (live_beyond f.rows.key bound f)) ≡ None
none_next f bound e = ap (λ (m : LiveRows). head (finite.entries m)) (cut_wide f.number f.rows.live (is_beyond f.rows.key bound)) ∙ head_wide f.number (rows_beyond f.rows.key bound f.rows.live)
    ∙ ap (option_map (λ (e : Row × (ℕ × Row)). (e.0, to_wide f.number e.1))) (first_none (finite.entries (rows_beyond f.rows.key bound f.rows.live)) e)

-- with no key all rows are behind it
pub all_beyond : (key : List ℕ) (m : LiveRows) → rows_beyond key None m ≡ m
all_beyond key m = finite.same_map row_cmp_total row_cmp-IsAntisymmetric _ _ (λ q. finite.get-retain_keys m (is_beyond key None) q (λ x t. refl))

-- ---- of several

-- the least of a part and of those behind it
least_more : (key : List ℕ) (bound : Option Row) (f : Part) (fs : List Part)
    → head (finite.entries (united (map (live_beyond key bound) (f ∷ fs)))) ≡ lesser row_cmp (head (finite.entries (live_beyond key bound f))) (head (finite.entries (united (map (live_beyond key bound) fs))))
least_more key bound f fs = least_united row_cmp_total row_cmp-IsAntisymmetric (live_beyond key bound f) (map (live_beyond key bound) fs)

-- a part alone is its own rows
pub alone_live : (key : List ℕ) (bound : Option Row) (f : Part) (fs : List Part) → length fs ≡ 0 → live_beyond key bound f ≡ united (map (live_beyond key bound) (f ∷ fs))
alone_live key bound f [] e = finite.same_map row_cmp_total row_cmp-IsAntisymmetric _ _ (λ q. sym (get_first row_cmp_total (live_beyond key bound f) [] q
    ∙ ap (option_or (finite.get (live_beyond key bound f) q)) (finite.get-empty row_cmp q) ∙ or_none (finite.get (live_beyond key bound f) q)))
alone_live key bound f (g ∷ fs) e = absurd (omega (arith, e))

pub first_stays : (key : List ℕ) (bound : Option Row) (f : Part) (fs : List Part) (e : Row × (ℕ × Row)) → head (finite.entries (live_beyond key bound f)) ≡ Some e → head (finite.entries (united (map (live_beyond key bound) fs))) ≡ None
    → head (finite.entries (united (map (live_beyond key bound) (f ∷ fs)))) ≡ Some e
first_stays key bound f fs e a b = least_more key bound f fs ∙ (λ i. lesser row_cmp (a i) (b i))

pub first_of_two : (key : List ℕ) (bound : Option Row) (f : Part) (fs : List Part) (e d : Row × (ℕ × Row)) (t : Bool) → head (finite.entries (live_beyond key bound f)) ≡ Some e
    → head (finite.entries (united (map (live_beyond key bound) fs))) ≡ Some d → is_lt (row_cmp d.0 e.0) ≡ t → head (finite.entries (united (map (live_beyond key bound) (f ∷ fs)))) ≡ cond t (Some d) (Some e)
first_of_two key bound f fs e d t a b is = least_more key bound f fs ∙ (λ i. lesser row_cmp (a i) (b i)) ∙ ap (λ t. cond t (Some d) (Some e)) is

pub behind_is : (bound : Option Row) (f n : Part) (others rest : List Part) (slot : ℕ) (row : Row) → AllByRecursion (IsPart f.rows.key) (f ∷ others) → others ≡ n ∷ rest
    → IsHead n.rows.key (united (map (live_beyond n.rows.key bound) (n ∷ rest))) slot row → IsHead f.rows.key (united (map (live_beyond f.rows.key bound) others)) slot row
behind_is bound f n others rest slot row each is h =
    let key : n.rows.key ≡ f.rows.key = (subst (λ l. AllByRecursion (IsPart f.rows.key) l) is each.1).0.same_key in
    subst (λ l. IsHead f.rows.key (united (map (live_beyond f.rows.key bound) l)) slot row) (sym is) (subst (λ k. IsHead k (united (map (live_beyond k bound) (n ∷ rest))) slot row) key h)

pub behind_none : (bound : Option Row) (f n : Part) (others rest : List Part) → AllByRecursion (IsPart f.rows.key) (f ∷ others) → others ≡ n ∷ rest
    → head (finite.entries (united (map (live_beyond n.rows.key bound) (n ∷ rest)))) ≡ None → head (finite.entries (united (map (live_beyond f.rows.key bound) others))) ≡ None
behind_none bound f n others rest each is h =
    let key : n.rows.key ≡ f.rows.key = (subst (λ l. AllByRecursion (IsPart f.rows.key) l) is each.1).0.same_key in
    ap (λ l. head (finite.entries (united (map (live_beyond f.rows.key bound) l)))) is ∙ ap (λ k. head (finite.entries (united (map (live_beyond k bound) (n ∷ rest))))) (sym key) ∙ h
