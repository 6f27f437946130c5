-- What a fragment's lists are where one cell changes.
use Rattle.std.proofs.Common.{◌≡◌, ℕ, zero, suc, ◌≤◌, Bool, false, List, [], ◌∷◌, ◌++◌, length, map, refl, sym, ap, ◌∙◌, Option, Some, None, T, inl, inr, arith, slice_get, slice_set}
use Rattle.std.specs.List.{AllByRecursion, cons_option}
use Rattle.std.specs.Option.{option_map_or, option_and_then}
use Rattle.std.specs.Ordering.{nat_cmp, is_lt, ordering_then}
use Rattle.std.specs.declared.cmp.Ordering.{Ordering}
use Rattle.std.specs.declared.cmp.Ordering.TheVariants.{Less, Equal, Greater}
use Rattle.std.proofs.lemmas.Cmp.{tied_itself, nat_cmp_total}
use Rattle.std.specs.FinMap as finite
use Rattle.std.specs.FinMap.Entries as entries
use Rattle.ss_value.specs.Order.{row_cmp}
use Rattle.ss_fragment.specs.declared.cell.Cell.{Cell}
use Rattle.ss_fragment.specs.declared.cell.Cell.TheVariants.{Free, Live, Dead}
use Rattle.ss_fragment.specs.Cells.{row_of, row_in, live_row, dead_row}
use Rattle.ss_fragment.specs.Targets.{is_before_slot}
use Rattle.ss_value.specs.Rows.{Row}
use Rattle.ss_value.specs.ValueOrder.{row_cmp-IsAntisymmetric}
use Rattle.ss_fragment.specs.FragmentValue.{key_of, HasKey, sought_key}
use Rattle.ss_fragment.specs.Invariant.{order_cmp, order_key, live_entry, live_list, dead_list, Rises, Among, IsFragment}
use Rattle.ss_fragment.proofs.Rising.{every_so, every_map}
use Rattle.ss_fragment.proofs.Keys.{is_before-position}
use Rattle.ss_fragment.proofs.Maps.{and_both}

pub get_set_other : {A : Type 0} (xs : List A) (i j : ℕ) (v : A) → (j ≡ i → ⊥) → slice_get (slice_set xs i v) j ≡ slice_get xs j
get_set_other [] i j v n = refl
get_set_other (x ∷ xs) zero zero v n = absurd (n refl)
get_set_other (x ∷ xs) zero (suc j) v n = refl
get_set_other (x ∷ xs) (suc i) zero v n = refl
get_set_other (x ∷ xs) (suc i) (suc j) v n = get_set_other xs i j v (λ e. n (ap suc e))

pub get_set_same : {A : Type 0} (xs : List A) (i : ℕ) (v w : A) → slice_get xs i ≡ Some w → slice_get (slice_set xs i v) i ≡ Some v
get_set_same [] i v w e = cc
get_set_same (x ∷ xs) zero v w e = refl
get_set_same (x ∷ xs) (suc i) v w e = get_set_same xs i v w e

-- ---- one test of slots

pub same_tests : (key : List ℕ) (cells : List Cell) (slots : List ℕ) (is_key : Bool) (sought : Row) (from : ℕ) → IsFragment key cells slots → (is_key ≡ false → HasKey key sought)
    → AllByRecursion (λ s. is_before_slot cells key is_key sought from s ≡ is_lt (order_cmp (order_key cells key s) (sought_key is_key key sought, from))) slots
same_tests key cells slots is_key sought from t q =
    every_so (λ slot. (row : Row) × (row_of cells slot ≡ Some row)) (λ s. is_before_slot cells key is_key sought from s ≡ is_lt (order_cmp (order_key cells key s) (sought_key is_key key sought, from))) slots
    (λ s r. is_before-position cells key is_key sought from s r.0 r.1 (t.keyed s r.0 r.1) q) t.held

-- ---- the live rows rise

abbrev pub position_in : List ℕ → ℕ → Option Cell → Row × ℕ
position_in key slot o = (option_map_or (key_of key) (option_and_then row_in o) [], slot)

below_row : (r : Ordering) (s t : ℕ) → ordering_then r (nat_cmp s t) ≡ Less → (r ≡ Equal → s ≡ t) → T (is_lt r)
below_row Less s t e f = tt
below_row Equal s t e f = let same : s ≡ t = f refl in let no : Equal ≡ Less = sym (tied_itself nat_cmp_total s) ∙ ap (nat_cmp s) same ∙ e in cc
below_row Greater s t e f = cc

below_step : (key : List ℕ) (k : Row) (s t : ℕ) (es : List (Row × (ℕ × Row))) (o : Option Cell) → order_cmp (k, s) (position_in key t o) ≡ Less
    → ((b : Row) → o ≡ Some (Live b) → k ≡ key_of key b → s ≡ t) → T (entries.below_all row_cmp k es) → T (entries.below_all row_cmp k (cons_option (live_entry key t o) es))
below_step key k s t es None e f h = h
below_step key k s t es (Some (Free n)) e f h = h
below_step key k s t es (Some (Live b)) e f h = and_both _ _ (below_row (row_cmp k (key_of key b)) s t e (λ q. f b refl (row_cmp-IsAntisymmetric k (key_of key b) q))) h
below_step key k s t es (Some (Dead b)) e f h = h

module _ (key : List ℕ) (cells : List Cell) (single : (s t : ℕ) (a b : Row) → slice_get cells s ≡ Some (Live a) → slice_get cells t ≡ Some (Live b) → key_of key a ≡ key_of key b → s ≡ t) where
  below_live : (s : ℕ) (a : Row) → slice_get cells s ≡ Some (Live a) → (ts : List ℕ) → AllByRecursion (λ t. order_cmp (key_of key a, s) (order_key cells key t) ≡ Less) ts → T (entries.below_all row_cmp (key_of key a) (live_list cells key ts))
  below_live s a e [] h = tt
  below_live s a e (t ∷ ts) h = below_step key (key_of key a) s t (live_list cells key ts) (slice_get cells t) h.0 (λ b is same. single s t a b e is same) (below_live s a e ts h.1)

  sorted_step : (s : ℕ) (ts : List ℕ) (o : Option Cell) → slice_get cells s ≡ o → AllByRecursion (λ t. order_cmp (position_in key s o) (order_key cells key t) ≡ Less) ts → T (entries.is_sorted row_cmp (live_list cells key ts)) → T (entries.is_sorted row_cmp (cons_option (live_entry key s o) (live_list cells key ts)))
  sorted_step s ts None e h r = r
  sorted_step s ts (Some (Free n)) e h r = r
  sorted_step s ts (Some (Live a)) e h r = and_both _ _ (below_live s a e ts h) r
  sorted_step s ts (Some (Dead a)) e h r = r

  pub sorted_live : (slots : List ℕ) → Rises order_cmp (map (order_key cells key) slots) → T (entries.is_sorted row_cmp (live_list cells key slots))
  sorted_live [] r = tt
  sorted_live (s ∷ ss) r = sorted_step s ss (slice_get cells s) refl (every_map (λ q. order_cmp (order_key cells key s) q ≡ Less) (order_key cells key) ss r.0) (sorted_live ss r.1)

pub live_entries : (key : List ℕ) (cells : List Cell) (slots : List ℕ) → IsFragment key cells slots → finite.entries (finite.from_sorted {R = row_cmp} (live_list cells key slots)) ≡ live_list cells key slots
live_entries key cells slots t = finite.entries-from_sorted row_cmp (live_list cells key slots) (sorted_live key cells t.single slots t.rises)

pub live_get : (key : List ℕ) (cells : List Cell) (slots : List ℕ) → IsFragment key cells slots → (q : Row) → finite.get (finite.from_sorted {R = row_cmp} (live_list cells key slots)) q ≡ entries.find row_cmp q (live_list cells key slots)
live_get key cells slots t q = finite.get-from_sorted row_cmp (live_list cells key slots) q (sorted_live key cells t.single slots t.rises)

pub dead_get : (cells : List Cell) (slots : List ℕ) (q : ℕ) → finite.get (finite.from_entries {R = nat_cmp} (dead_list cells slots)) q ≡ entries.find nat_cmp q (dead_list cells slots)
dead_get cells slots q = finite.get-from_entries nat_cmp_total (dead_list cells slots) q

-- ---- where a slot stands

pub record Around (slots : List ℕ) (slot : ℕ) : Type 0 where
  pub front : List ℕ
  pub back : List ℕ
  pub is : slots ≡ front ++ slot ∷ back

pub around : (slots : List ℕ) (slot : ℕ) → Among slot slots → Around slots slot
around [] slot h = absurd h
around (s ∷ ss) slot (inl e) = record { front = []; back = ss; is = ap (λ x. x ∷ ss) e }
around (s ∷ ss) slot (inr h) = let r = around ss slot h in record { front = s ∷ r.front; back = r.back; is = ap (λ xs. s ∷ xs) r.is }

pub among_here : (front back : List ℕ) (slot : ℕ) → Among slot (front ++ slot ∷ back)
among_here [] back slot = inl refl
among_here (s ∷ ss) back slot = inr (among_here ss back slot)

pub among_more : (front back : List ℕ) (slot t : ℕ) → Among t (front ++ back) → Among t (front ++ slot ∷ back)
among_more [] back slot t h = inr h
among_more (s ∷ ss) back slot t (inl e) = inl e
among_more (s ∷ ss) back slot t (inr h) = inr (among_more ss back slot t h)

pub among_less : (front back : List ℕ) (slot t : ℕ) → (t ≡ slot → ⊥) → Among t (front ++ slot ∷ back) → Among t (front ++ back)
among_less [] back slot t n (inl e) = absurd (n (sym e))
among_less [] back slot t n (inr h) = h
among_less (s ∷ ss) back slot t n (inl e) = inl e
among_less (s ∷ ss) back slot t n (inr h) = inr (among_less ss back slot t n h)

pub live_empty : finite.from_sorted {K = Row} {X = ℕ × Row} {R = row_cmp} [] ≡ finite.empty
live_empty = finite.empty_of_len (finite.from_sorted {K = Row} {X = ℕ × Row} {R = row_cmp} []) (finite.len-entries (finite.from_sorted {K = Row} {X = ℕ × Row} {R = row_cmp} []) ∙ ap length (finite.entries-from_sorted row_cmp [] tt))

pub live_cell : (o : Option Cell) (row : Row) → live_row o ≡ Some row → o ≡ Some (Live row)
live_cell None row e = cc
live_cell (Some (Free n)) row e = cc
live_cell (Some (Live r)) row e = cc
live_cell (Some (Dead r)) row e = cc

pub dead_cell : (o : Option Cell) (row : Row) → dead_row o ≡ Some row → o ≡ Some (Dead row)
dead_cell None row e = cc
dead_cell (Some (Free n)) row e = cc
dead_cell (Some (Live r)) row e = cc
dead_cell (Some (Dead r)) row e = cc

pub live_fewer : (cells : List Cell) (key : List ℕ) (slots : List ℕ) → length (live_list cells key slots) ≤ length slots
live_fewer cells key [] = omega arith
live_fewer cells key (s ∷ ss) = one (live_entry key s (slice_get cells s)) (live_fewer cells key ss)
  where
    one : (o : Option (Row × (ℕ × Row))) → length (live_list cells key ss) ≤ length ss → length (cons_option o (live_list cells key ss)) ≤ suc (length ss)
    one None h = omega arith
    one (Some e) h = omega arith
