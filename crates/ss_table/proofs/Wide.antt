-- A part's maps with the table's slots.
use Rattle.std.proofs.Common.{◌≡◌, ℕ, ◌+◌, ◌==◌, nat_lt, unwrap_or, ◌<◌, Bool, true, false, cond, ◌&&◌, T, List, [], ◌∷◌, map, length, refl, sym, ap, subst, ◌∙◌, Option, Some, None, option_map, slice_get, suc, zero, not, arith}
use Rattle.std.specs.List.{position, position_or_len, AllByRecursion}
use Rattle.std.specs.Ordering.{is_lt, eq_by_cmp}
use Rattle.std.specs.declared.cmp.Ordering.{Ordering}
use Rattle.std.specs.FinMap as finite
use Rattle.std.specs.FinMap.Entries as entries
use Rattle.std.specs.Cmp.{nat_cmp_total}
use Rattle.std.proofs.lemmas.Option.{slice_get-map}
use Rattle.ss_value.specs.Rows.{Row}
use Rattle.ss_value.specs.ValueOrder.{row_cmp_total}
use Rattle.ss_table.specs.declared.route.Route.{Route}
use Rattle.ss_table.specs.declared.part.Part.{Part}
use Rattle.ss_table.specs.Parts.{with_values, parts_of, wide_live, wide_dead, live_of, dead_of, key_home, slot_home, IsUnited}
use Rattle.ss_lemmas.proofs.Bools.{some_same}
use Rattle.ss_table.proofs.Unions.{get_at}
use Rattle.ss_table.specs.Routes.{place_among, place_of}

pub map_cond : {A B : Type 0} (f : A → B) (b : Bool) (x y : Option A) → option_map f (cond b x y) ≡ cond b (option_map f x) (option_map f y)
map_cond f true x y = refl
map_cond f false x y = refl

module _ {K X Y : Type 0} (R : K → K → Ordering) (f : X → Y) where
  below_alike : (k : K) (es : List (K × X)) → entries.below_all R k (map (λ e. (e.0, f e.1)) es) ≡ entries.below_all R k es
  below_alike k [] = refl
  below_alike k (e ∷ es) = ap (λ b. is_lt (R k e.0) && b) (below_alike k es)

  sorted_alike : (es : List (K × X)) → entries.is_sorted R (map (λ e. (e.0, f e.1)) es) ≡ entries.is_sorted R es
  sorted_alike [] = refl
  sorted_alike (e ∷ es) = ap (λ b. b && entries.is_sorted R (map (λ e. (e.0, f e.1)) es)) (below_alike e.0 es) ∙ ap (λ b. entries.below_all R e.0 es && b) (sorted_alike es)

  find_alike : (q : K) (es : List (K × X)) → entries.find R q (map (λ e. (e.0, f e.1)) es) ≡ option_map f (entries.find R q es)
  find_alike q [] = refl
  find_alike q (e ∷ es) = ap (cond (eq_by_cmp R q e.0) (Some (f e.1))) (find_alike q es) ∙ sym (map_cond f (eq_by_cmp R q e.0) (Some e.1) (entries.find R q es))

module _ {K X Y : Type 0} {R : K → K → Ordering} (f : X → Y) where
  pub entries_with_values : (m : finite.FinMap R X) → finite.entries (with_values f m) ≡ map (λ e. (e.0, f e.1)) (finite.entries m)
  unfolding with_values
  entries_with_values m = finite.entries-from_sorted R _ (subst T (sym (sorted_alike R f (finite.entries m))) (finite.entries_sorted m))

  pub get_with_values : (m : finite.FinMap R X) (q : K) → finite.get (with_values f m) q ≡ option_map f (finite.get m q)
  get_with_values m q = finite.get-entries (with_values f m) q ∙ ap (entries.find R q) (entries_with_values m) ∙ find_alike R f q (finite.entries m) ∙ ap (option_map f) (sym (finite.get-entries m q))

-- a live row of which the slot is known
pub known_slot : (o : Option (ℕ × Row)) (slot : ℕ) → option_map (λ p. p.0) o ≡ Some slot → (row : Row) × (o ≡ Some (slot, row))
known_slot None slot e = cc
known_slot (Some p) slot e = (p.1, ap (λ s. Some (s, p.1)) (some_same p.0 slot e))

pub still_none : (f : ℕ × Row → ℕ × Row) (o : Option (ℕ × Row)) → option_map (λ p. p.0) o ≡ None → option_map (λ p. p.0) (option_map f o) ≡ None
still_none f None e = refl
still_none f (Some p) e = cc

-- what holds of all holds of the one in a place
pub each_at : {A : Type 0} (P : A → Type 0) (xs : List A) (i : ℕ) (x : A) → AllByRecursion P xs → slice_get xs i ≡ Some x → P x
each_at P [] i x h e = cc
each_at P (y ∷ ys) zero x h e = subst P (some_same y x e) h.0
each_at P (y ∷ ys) (suc i) x h e = each_at P ys i x h.1 e

step_lt : (a b : ℕ) → nat_lt (1 + a) (suc b) ≡ nat_lt a b
step_lt a b = grind arith

step_some : (b : Bool) (n : ℕ) → cond b (Some (1 + n)) None ≡ option_map suc (cond b (Some n) None)
step_some true n = ap Some (omega arith)
step_some false n = refl

-- a position counts from the front
position-cons : {X : Type 0} (p : X → Bool) (x : X) (xs : List X) → position p (x ∷ xs) ≡ cond (p x) (Some 0) (option_map suc (position p xs))
position-cons p x xs = elim (p x) as (λ b. cond (nat_lt (cond (not b) (1 + position_or_len p xs) 0) (suc (length xs))) (Some (cond (not b) (1 + position_or_len p xs) 0)) None ≡ cond b (Some 0) (option_map suc (position p xs))) [
  | true ↦ ap (λ b. cond b (Some 0) None) (zero_lt (length xs))
  | false ↦ ap (λ b. cond b (Some (1 + position_or_len p xs)) None) (step_lt (position_or_len p xs) (length xs)) ∙ step_some (nat_lt (position_or_len p xs) (length xs)) (position_or_len p xs)
]
  where
    zero_lt : (n : ℕ) → nat_lt 0 (suc n) ≡ true
    zero_lt n = grind arith

-- the place of a part, by the parts
pub place_is : (fs : List Part) (p : ℕ) → position (λ f. f.number == p) fs ≡ place_among (parts_of fs) p
place_is [] p = refl
place_is (f ∷ fs) p = position-cons (λ (f : Part). f.number == p) f fs ∙ ap (λ o. cond (f.number == p) (Some 0) (option_map suc o)) (place_is fs p)

-- the live rows of a key are those of its own part
pub own_live : (by : Route) (key : List ℕ) (fs : List Part) (f : Part) → IsUnited by key fs → (q : Row) → slice_get fs (key_home by fs q) ≡ Some f → finite.get (live_of fs) q ≡ finite.get (wide_live f) q
own_live by key fs f u q is =
    let at : ℕ = key_home by fs q in
    get_at row_cmp_total (key_home by fs) (map wide_live fs) 0 at (wide_live f) u.home (slice_get-map wide_live fs at ∙ ap (option_map wide_live) is) q (omega arith)

-- and the dead row of a slot is that of the slot's own part
pub own_dead : (by : Route) (key : List ℕ) (fs : List Part) (f : Part) → IsUnited by key fs → (slot : ℕ) → slice_get fs (slot_home fs slot) ≡ Some f → finite.get (dead_of fs) slot ≡ finite.get (wide_dead f) slot
own_dead by key fs f u slot is =
    let at : ℕ = slot_home fs slot in
    get_at nat_cmp_total (slot_home fs) (map wide_dead fs) 0 at (wide_dead f) u.slots (slice_get-map wide_dead fs at ∙ ap (option_map wide_dead) is) slot (omega arith)

-- in a table of one part each key and each slot is at home in it
pub home_of_one : (f : Part) (p : ℕ) → place_of (parts_of (f ∷ [])) p ≡ 0
home_of_one f p = always (f.number == p)
  where
    always : (b : Bool) → ◌≡◌ {A = ℕ} (unwrap_or (cond b (Some 0) None) 0) 0
    always true = refl
    always false = refl

-- the part of a number: the first, or one of the others
pub own_first : (f : Part) (fs : List Part) (p : ℕ) → (f.number == p) ≡ true → slice_get (f ∷ fs) (place_of (parts_of (f ∷ fs)) p) ≡ Some f
own_first f fs p e = ap (λ b. slice_get (f ∷ fs) (unwrap_or (cond b (Some 0) (option_map suc (place_among (parts_of fs) p))) 0)) e

pub own_other : (f g : Part) (fs : List Part) (p at : ℕ) → (f.number == p) ≡ false → position (λ f. f.number == p) fs ≡ Some at → slice_get fs at ≡ Some g → slice_get (f ∷ fs) (place_of (parts_of (f ∷ fs)) p) ≡ Some g
own_other f g fs p at e found is = ap (λ b. slice_get (f ∷ fs) (unwrap_or (cond b (Some 0) (option_map suc (place_among (parts_of fs) p))) 0)) e
    ∙ ap (λ o. slice_get (f ∷ fs) (unwrap_or (option_map suc o) 0)) (sym (place_is fs p) ∙ found) ∙ is

pub own_none : (f : Part) (fs : List Part) (p : ℕ) → (f.number == p) ≡ false → position (λ f. f.number == p) fs ≡ None → slice_get (f ∷ fs) (place_of (parts_of (f ∷ fs)) p) ≡ Some f
own_none f fs p e found = ap (λ b. slice_get (f ∷ fs) (unwrap_or (cond b (Some 0) (option_map suc (place_among (parts_of fs) p))) 0)) e
    ∙ ap (λ o. slice_get (f ∷ fs) (unwrap_or (option_map suc o) 0)) (sym (place_is fs p) ∙ found)

pub other_part : (a b : ℕ) → (a ≡ b → ⊥) → (a == b) ≡ false
other_part a b n = grind (arith, n)

-- a found place stands in the list
pub found_within : {X : Type 0} (p : X → Bool) (xs : List X) (at : ℕ) → position p xs ≡ Some at → at < length xs
found_within p xs at e = by (nat_lt (position_or_len p xs) (length xs)) refl e
  where
    lt_so : (a b : ℕ) → nat_lt a b ≡ true → a < b
    lt_so a b e = grind (arith, e)

    by : (b : Bool) → nat_lt (position_or_len p xs) (length xs) ≡ b → cond b (Some (position_or_len p xs)) None ≡ Some at → at < length xs
    by true l e = subst (λ n. n < length xs) (some_same _ at e) (lt_so _ _ l)
    by false l e = cc
