-- One part of a table changes: what contracts see of the table then.
use Rattle.std.proofs.Common.{◌≡◌, ℕ, ◌+◌, ◌*◌, ◌/◌, ◌%◌, ◌<◌, ◌==◌, suc, zero, Bool, true, false, cond, List, [], ◌∷◌, map, refl, sym, ap, subst, ◌∙◌, Option, Some, None, option_map, slice_get, slice_set, arith}
use Rattle.std.specs.List.{AllByRecursion}
use Rattle.std.specs.Ordering.{nat_cmp, is_eq, eq_by_cmp}
use Rattle.std.specs.Cmp.{nat_cmp_total}
use Rattle.std.specs.FinMap as finite
use Rattle.std.specs.FinMap.{nat_cmp-IsAntisymmetric}
use Rattle.std.specs.FinMap.Entries as entries
use Rattle.std.proofs.lemmas.Cmp.{tied_itself}
use Rattle.std.proofs.lemmas.Option.{slice_get-map}
use Rattle.ss_lemmas.proofs.Bools.{is_false}
use Rattle.ss_lemmas.proofs.Orderings.{equal_test}
use Rattle.ss_value.specs.Rows.{Row}
use Rattle.ss_value.specs.Order.{row_cmp}
use Rattle.ss_value.specs.ValueOrder.{row_cmp_total, row_cmp-IsAntisymmetric}
use Rattle.ss_table.specs.declared.route.Route.{Route}
use Rattle.ss_table.specs.declared.part.Part.{Part}
use Rattle.ss_table.specs.TableValue.{TableValue, LiveRows, DeadRows, key_of}
use Rattle.ss_table.specs.Unions.{united, AtHome}
use Rattle.ss_table.specs.Routes.{part_of, place_of}
use Rattle.ss_table.specs.Parts.{wide, to_wide, with_values, wide_live, wide_dead, live_of, dead_of, parts_of, table_of, filled, key_home, slot_home, AreApart, IsPart, IsUnited}
use Rattle.ss_table.proofs.Unions.{insert_at, remove_at, same_numbers}
use Rattle.ss_table.proofs.Joining.{same_itself}
use Rattle.ss_table.proofs.Wide.{map_cond, get_with_values, each_at}
use Rattle.ss_table.proofs.Rows.{rest_is, front_is, whole_is}

-- ---- the live rows of a part, where those of its fragment change at one key

module _ (f g : Part) (number : g.number ≡ f.number) where
  wide_put : (k : Row) (s : ℕ) (row : Row) → g.rows.live ≡ finite.insert f.rows.live k (s, row) → wide_live g ≡ finite.insert (wide_live f) k (wide f.number s, row)
  wide_put k s row is = finite.same_map row_cmp_total row_cmp-IsAntisymmetric _ _ (λ q.
      get_with_values (to_wide g.number) g.rows.live q
      ∙ (λ i. option_map (to_wide (number i)) (finite.get (is i) q))
      ∙ ap (option_map (to_wide f.number)) (finite.get-insert row_cmp_total f.rows.live k (s, row) q)
      ∙ map_cond (to_wide f.number) (eq_by_cmp row_cmp q k) (Some (s, row)) (finite.get f.rows.live q)
      ∙ ap (cond (eq_by_cmp row_cmp q k) (Some (wide f.number s, row))) (sym (get_with_values (to_wide f.number) f.rows.live q))
      ∙ sym (finite.get-insert row_cmp_total (wide_live f) k (wide f.number s, row) q))

  wide_taken : (k : Row) → g.rows.live ≡ finite.remove f.rows.live k → wide_live g ≡ finite.remove (wide_live f) k
  wide_taken k is = finite.same_map row_cmp_total row_cmp-IsAntisymmetric _ _ (λ q.
      get_with_values (to_wide g.number) g.rows.live q
      ∙ (λ i. option_map (to_wide (number i)) (finite.get (is i) q))
      ∙ ap (option_map (to_wide f.number)) (finite.get-remove row_cmp_total f.rows.live k q)
      ∙ map_cond (to_wide f.number) (eq_by_cmp row_cmp q k) None (finite.get f.rows.live q)
      ∙ ap (cond (eq_by_cmp row_cmp q k) None) (sym (get_with_values (to_wide f.number) f.rows.live q))
      ∙ sym (finite.get-remove row_cmp_total (wide_live f) k q))

  wide_kept : g.rows.live ≡ f.rows.live → wide_live g ≡ wide_live f
  wide_kept is = λ i. with_values (to_wide (number i)) (is i)

-- ---- its dead rows

nat_tied : (a b : ℕ) → a ≡ b → eq_by_cmp nat_cmp a b ≡ true
nat_tied a b e = ap (λ x. is_eq (nat_cmp a x)) (sym e) ∙ ap is_eq (tied_itself nat_cmp_total a)

nat_ties : (a b : ℕ) → eq_by_cmp nat_cmp a b ≡ true → a ≡ b
nat_ties a b e = nat_cmp-IsAntisymmetric a b (equal_test _ e)

true_apart : true ≡ false → ⊥
true_apart e = cc

tie_same : (a b c d : ℕ) → (a ≡ b → c ≡ d) → (c ≡ d → a ≡ b) → eq_by_cmp nat_cmp a b ≡ eq_by_cmp nat_cmp c d
tie_same a b c d f g = elim (eq_by_cmp nat_cmp a b) as (λ x. eq_by_cmp nat_cmp a b ≡ x → x ≡ eq_by_cmp nat_cmp c d) [
  | true ↦ λ e. sym (nat_tied c d (f (nat_ties a b e)))
  | false ↦ λ e. sym (is_false (eq_by_cmp nat_cmp c d) (λ t. true_apart (sym (nat_tied a b (g (nat_ties c d t))) ∙ e)))
] refl

slot_is : (n q s : ℕ) → q % 8 ≡ n → q / 8 ≡ s → q ≡ s * 8 + n
slot_is n q s e d = sym (whole_is q) ∙ (λ i. d i * 8 + e i)

-- a slot of a part is one of its fragment
at_part : (n q s : ℕ) → n < 8 → (v d : Option Row) → cond (q % 8 == n) (cond (eq_by_cmp nat_cmp (q / 8) s) v d) None ≡ cond (eq_by_cmp nat_cmp q (wide n s)) v (cond (q % 8 == n) d None)
at_part n q s l v d = elim (q % 8 == n) as (λ b. (q % 8 == n) ≡ b → cond b (cond (eq_by_cmp nat_cmp (q / 8) s) v d) None ≡ cond (eq_by_cmp nat_cmp q (wide n s)) v (cond b d None)) [
  | true ↦ λ t. ap (λ x. cond x v d) (tie_same (q / 8) s q (wide n s) (slot_is n q s (same_numbers _ _ t)) (λ e. front_is n s q l (sym e)))
  | false ↦ λ t. sym (ap (λ x. cond x v None) (is_false (eq_by_cmp nat_cmp q (wide n s)) (λ e.
      true_apart (sym (same_itself n) ∙ ap (λ x. x == n) (sym (rest_is n s q l (sym (nat_ties q (wide n s) e)))) ∙ t))))
] refl

nothing : (b : Bool) → ◌≡◌ {A = Option Row} (cond b None None) None
nothing true = refl
nothing false = refl

find_wide : (n : ℕ) → n < 8 → (q : ℕ) (es : List (ℕ × Row)) → entries.find nat_cmp q (map (λ e. (wide n e.0, e.1)) es) ≡ cond (q % 8 == n) (entries.find nat_cmp (q / 8) es) None
find_wide n l q [] = sym (nothing (q % 8 == n))
find_wide n l q (e ∷ es) = ap (cond (eq_by_cmp nat_cmp q (wide n e.0)) (Some e.1)) (find_wide n l q es) ∙ sym (at_part n q e.0 l (Some e.1) (entries.find nat_cmp (q / 8) es))

-- the dead row of a slot is the fragment's, where the slot is of the part
pub get_wide_dead : (f : Part) → f.number < 8 → (q : ℕ) → finite.get (wide_dead f) q ≡ cond (q % 8 == f.number) (finite.get f.rows.dead (q / 8)) None
get_wide_dead f l q = finite.get-from_entries nat_cmp_total (map (λ (e : ℕ × Row). (wide f.number e.0, e.1)) (finite.entries f.rows.dead)) q
    ∙ find_wide f.number l q (finite.entries f.rows.dead) ∙ ap (λ x. cond (q % 8 == f.number) x None) (sym (finite.get-entries f.rows.dead (q / 8)))

module _ (f g : Part) (number : g.number ≡ f.number) (below : f.number < 8) where
  -- by what the new fragment has at each slot
  dead_as : (q : ℕ) → finite.get (wide_dead g) q ≡ cond (q % 8 == f.number) (finite.get g.rows.dead (q / 8)) None
  dead_as q = get_wide_dead g (subst (λ n. n < 8) (sym number) below) q ∙ ap (λ n. cond (q % 8 == n) (finite.get g.rows.dead (q / 8)) None) number

  dead_put : (s : ℕ) (row : Row) → g.rows.dead ≡ finite.insert f.rows.dead s row → wide_dead g ≡ finite.insert (wide_dead f) (wide f.number s) row
  dead_put s row is = finite.same_map nat_cmp_total nat_cmp-IsAntisymmetric _ _ (λ q.
      dead_as q ∙ ap (λ x. cond (q % 8 == f.number) x None) (ap (λ (m : DeadRows). finite.get m (q / 8)) is ∙ finite.get-insert nat_cmp_total f.rows.dead s row (q / 8))
      ∙ at_part f.number q s below (Some row) (finite.get f.rows.dead (q / 8))
      ∙ ap (cond (eq_by_cmp nat_cmp q (wide f.number s)) (Some row)) (sym (get_wide_dead f below q))
      ∙ sym (finite.get-insert nat_cmp_total (wide_dead f) (wide f.number s) row q))

  dead_taken : (s : ℕ) → g.rows.dead ≡ finite.remove f.rows.dead s → wide_dead g ≡ finite.remove (wide_dead f) (wide f.number s)
  dead_taken s is = finite.same_map nat_cmp_total nat_cmp-IsAntisymmetric _ _ (λ q.
      dead_as q ∙ ap (λ x. cond (q % 8 == f.number) x None) (ap (λ (m : DeadRows). finite.get m (q / 8)) is ∙ finite.get-remove nat_cmp_total f.rows.dead s (q / 8))
      ∙ at_part f.number q s below None (finite.get f.rows.dead (q / 8))
      ∙ ap (cond (eq_by_cmp nat_cmp q (wide f.number s)) None) (sym (get_wide_dead f below q))
      ∙ sym (finite.get-remove nat_cmp_total (wide_dead f) (wide f.number s) q))

  dead_kept : g.rows.dead ≡ f.rows.dead → wide_dead g ≡ wide_dead f
  dead_kept is = λ i. finite.from_entries (map (λ (e : ℕ × Row). (wide (number i) e.0, e.1)) (finite.entries (is i)))

-- ---- lists of which one item changes

map_set : {A B : Type 0} (h : A → B) (xs : List A) (i : ℕ) (y : A) → map h (slice_set xs i y) ≡ slice_set (map h xs) i (h y)
map_set h [] i y = refl
map_set h (x ∷ xs) zero y = refl
map_set h (x ∷ xs) (suc i) y = ap (λ l. h x ∷ l) (map_set h xs i y)

pub set_there : {A : Type 0} (xs : List A) (i : ℕ) (x : A) → slice_get xs i ≡ Some x → slice_set xs i x ≡ xs
set_there [] i x e = refl
set_there (y ∷ xs) zero x e = ap (λ o. unwrap o y ∷ xs) (sym e)
  where
    unwrap : {A : Type 0} → Option A → A → A
    unwrap None y = y
    unwrap (Some x) y = x
set_there (y ∷ xs) (suc i) x e = ap (λ l. y ∷ l) (set_there xs i x e)

all_set : {A : Type 0} (P : A → Type 0) (xs : List A) (i : ℕ) (y : A) → AllByRecursion P xs → P y → AllByRecursion P (slice_set xs i y)
all_set P [] i y h p = tt
all_set P (x ∷ xs) zero y h p = (p, h.1)
all_set P (x ∷ xs) (suc i) y h p = (h.0, all_set P xs i y h.1 p)

-- ---- the table

module _ (by : Route) (key : List ℕ) (fs : List Part) (u : IsUnited by key fs) (j : ℕ) (f g : Part) (there : slice_get fs j ≡ Some f) (number : g.number ≡ f.number) where
  abbrev pub LiveBecomes : LiveRows → Type 0
  LiveBecomes m = (live_of (slice_set fs j g) ≡ m) × AtHome (key_home by fs) 0 (map wide_live (slice_set fs j g))

  abbrev pub DeadBecomes : DeadRows → Type 0
  DeadBecomes m = (dead_of (slice_set fs j g) ≡ m) × AtHome (slot_home fs) 0 (map wide_dead (slice_set fs j g))

  below : f.number < 8
  below = (each_at (IsPart key) fs j f u.each there).below

  pub parts_same : parts_of (slice_set fs j g) ≡ parts_of fs
  parts_same = map_set (λ (f : Part). f.number) fs j g ∙ ap (slice_set (parts_of fs) j) number
      ∙ set_there (parts_of fs) j f.number (slice_get-map (λ (f : Part). f.number) fs j ∙ ap (option_map (λ (f : Part). f.number)) there)

  live_there : slice_get (map wide_live fs) j ≡ Some (wide_live f)
  live_there = slice_get-map wide_live fs j ∙ ap (option_map wide_live) there

  dead_there : slice_get (map wide_dead fs) j ≡ Some (wide_dead f)
  dead_there = slice_get-map wide_dead fs j ∙ ap (option_map wide_dead) there

  live_as : (m : LiveRows) (rows : LiveRows) → wide_live g ≡ m → (united (slice_set (map wide_live fs) j m) ≡ rows) × AtHome (key_home by fs) 0 (slice_set (map wide_live fs) j m) → LiveBecomes rows
  live_as m rows is both =
      let made : map wide_live (slice_set fs j g) ≡ slice_set (map wide_live fs) j m = map_set wide_live fs j g ∙ ap (slice_set (map wide_live fs) j) is in
      (ap united made ∙ both.0, subst (λ ms. AtHome (key_home by fs) 0 ms) (sym made) both.1)

  dead_as_set : (m : DeadRows) (rows : DeadRows) → wide_dead g ≡ m → (united (slice_set (map wide_dead fs) j m) ≡ rows) × AtHome (slot_home fs) 0 (slice_set (map wide_dead fs) j m) → DeadBecomes rows
  dead_as_set m rows is both =
      let made : map wide_dead (slice_set fs j g) ≡ slice_set (map wide_dead fs) j m = map_set wide_dead fs j g ∙ ap (slice_set (map wide_dead fs) j) is in
      (ap united made ∙ both.0, subst (λ ms. AtHome (slot_home fs) 0 ms) (sym made) both.1)

  pub live_put : (k : Row) (s : ℕ) (row : Row) → key_home by fs k ≡ j → g.rows.live ≡ finite.insert f.rows.live k (s, row) → LiveBecomes (finite.insert (live_of fs) k (wide f.number s, row))
  live_put k s row at is = live_as _ _ (wide_put f g number k s row is) (insert_at row_cmp_total (key_home by fs) row_cmp-IsAntisymmetric (map wide_live fs) j (wide_live f) k (wide f.number s, row) u.home live_there at)

  pub live_taken : (k : Row) → key_home by fs k ≡ j → g.rows.live ≡ finite.remove f.rows.live k → LiveBecomes (finite.remove (live_of fs) k)
  live_taken k at is = live_as _ _ (wide_taken f g number k is) (remove_at row_cmp_total (key_home by fs) row_cmp-IsAntisymmetric (map wide_live fs) j (wide_live f) k u.home live_there at)

  pub live_kept : g.rows.live ≡ f.rows.live → LiveBecomes (live_of fs)
  live_kept is =
      let same : slice_set (map wide_live fs) j (wide_live f) ≡ map wide_live fs = set_there (map wide_live fs) j (wide_live f) live_there in
      live_as (wide_live f) (live_of fs) (wide_kept f g number is) (ap united same, subst (λ ms. AtHome (key_home by fs) 0 ms) (sym same) u.home)

  pub put_dead : (s : ℕ) (row : Row) → slot_home fs (wide f.number s) ≡ j → g.rows.dead ≡ finite.insert f.rows.dead s row → DeadBecomes (finite.insert (dead_of fs) (wide f.number s) row)
  put_dead s row at is = dead_as_set _ _ (dead_put f g number below s row is) (insert_at nat_cmp_total (slot_home fs) nat_cmp-IsAntisymmetric (map wide_dead fs) j (wide_dead f) (wide f.number s) row u.slots dead_there at)

  pub taken_dead : (s : ℕ) → slot_home fs (wide f.number s) ≡ j → g.rows.dead ≡ finite.remove f.rows.dead s → DeadBecomes (finite.remove (dead_of fs) (wide f.number s))
  taken_dead s at is = dead_as_set _ _ (dead_taken f g number below s is) (remove_at nat_cmp_total (slot_home fs) nat_cmp-IsAntisymmetric (map wide_dead fs) j (wide_dead f) (wide f.number s) u.slots dead_there at)

  pub kept_dead : g.rows.dead ≡ f.rows.dead → DeadBecomes (dead_of fs)
  kept_dead is =
      let same : slice_set (map wide_dead fs) j (wide_dead f) ≡ map wide_dead fs = set_there (map wide_dead fs) j (wide_dead f) dead_there in
      dead_as_set (wide_dead f) (dead_of fs) (dead_kept f g number below is) (ap united same, subst (λ ms. AtHome (slot_home fs) 0 ms) (sym same) u.slots)

  -- the table of the changed parts
  pub changed : (limit : Option ℕ) (live : LiveRows) (dead : DeadRows) → g.rows.key ≡ key → LiveBecomes live → DeadBecomes dead
      → ((slot : ℕ) (row : Row) → finite.get dead slot ≡ Some row → key_home by fs (key_of key row) ≡ slot_home fs slot)
      → (table_of limit by key (slice_set fs j g) ≡ filled limit by key fs live dead) × IsUnited by key (slice_set fs j g)
  changed limit live dead same_key l d returns = (
    (λ i. record { key = key; limit = limit; live = l.0 i; dead = d.0 i; route = by; parts = parts_same i }),
    record {
      route = u.route;
      each = all_set (IsPart key) fs j g u.each (record { same_key = same_key; below = subst (λ n. n < 8) (sym number) below });
      apart = subst (λ ps. AreApart 0 ps ps) (sym parts_same) u.apart;
      home = subst (λ ps. AtHome (λ k. place_of ps (part_of by k)) 0 (map wide_live (slice_set fs j g))) (sym parts_same) l.1;
      slots = subst (λ ps. AtHome (λ s. place_of ps (s % 8)) 0 (map wide_dead (slice_set fs j g))) (sym parts_same) d.1;
      returns = λ slot row e. subst (λ ps. place_of ps (part_of by (key_of key row)) ≡ place_of ps (slot % 8)) (sym parts_same) (returns slot row (ap (λ (m : DeadRows). finite.get m slot) (sym d.0) ∙ e));
    },
  )
