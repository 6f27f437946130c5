-- The rows of a slot in its own part, and what changes there.
use Rattle.std.proofs.Common.{◌≡◌, ℕ, ◌+◌, ◌*◌, ◌/◌, ◌%◌, ◌<◌, ◌==◌, suc, true, false, cond, List, [], ◌∷◌, refl, sym, ap, subst, ◌∙◌, Option, Some, None, option_map, unwrap_or, inl, inr, arith, slice_get, slice_set}
use Rattle.std.specs.List.{AllByRecursion}
use Rattle.std.specs.Option.{is_some, IfSome}
use Rattle.std.specs.Ordering.{nat_cmp, eq_by_cmp}
use Rattle.std.specs.Cmp.{nat_cmp_total}
use Rattle.std.specs.FinMap as finite
use Rattle.std.specs.FinMap.{nat_cmp-IsAntisymmetric}
use Rattle.std.specs.FinMap.Entries as entries
use Rattle.ss_lemmas.proofs.Bools.{is_false, some_same}
use Rattle.ss_lemmas.proofs.Orderings.{equal_test}
use Rattle.ss_value.specs.Rows.{Row}
use Rattle.ss_value.specs.Order.{row_cmp}
use Rattle.ss_value.specs.ValueOrder.{row_cmp_total, row_cmp-IsAntisymmetric}
use Rattle.ss_fragment.specs.FragmentValue as fragment
use Rattle.ss_fragment.specs.FragmentValue.{FragmentValue}
use Rattle.ss_fragment.specs.Keyed.{AreKeyed, StandsAtKey}
use Rattle.ss_fragment.proofs.CallerLemmas.{is_same, get_set_same}
use Rattle.ss_table.specs.declared.route.Route.{Route}
use Rattle.ss_table.specs.declared.part.Part.{Part}
use Rattle.ss_table.specs.TableValue.{TableValue, LiveRows, DeadRows, HasKey, key_of, row_at, insert, mark_dead_row, mark_dead, unmark_row, unmark, remove_fresh_row, remove_fresh, purge, replace}
use Rattle.ss_table.specs.Steps.{WasInserted, WasDeleted, WasReplaced}
use Rattle.ss_table.specs.Routes.{place_of}
use Rattle.ss_table.specs.Parts.{wide, to_wide, wide_live, wide_dead, live_of, dead_of, parts_of, table_of, filled, key_home, slot_home, IsPart, IsUnited}
use Rattle.ss_table.proofs.Wide.{get_with_values, each_at, own_live, own_dead}
use Rattle.ss_table.proofs.Slots.{at_key, at_slot}
use Rattle.ss_table.proofs.Rows.{own_row, row_none, row_is, home_known, whole_is, rest_is, front_is, apart_at}
use Rattle.ss_table.proofs.Changed.{get_wide_dead, live_put, live_taken, live_kept, put_dead, taken_dead, kept_dead, changed, parts_same}
use Rattle.ss_table.proofs.Joining.{same_itself}

known : (o : Option Row) → is_some o ≡ true → (row : Row) × (o ≡ Some row)
known None e = cc
known (Some row) e = (row, refl)

missing : {A : Type 0} (x : A) → None ≡ Some x → ⊥
missing x e = cc

-- what stands at a key is a row with that key
stands_step : (key : List ℕ) (es : List (Row × (ℕ × Row))) (k : Row) (v : ℕ × Row) → AllByRecursion (StandsAtKey key) es → entries.find row_cmp k es ≡ Some v → (k ≡ key_of key v.1) × HasKey key v.1
stands_step key [] k v h e = cc
stands_step key (x ∷ es) k v h e = elim (eq_by_cmp row_cmp k x.0) as (λ b. eq_by_cmp row_cmp k x.0 ≡ b → cond b (Some x.1) (entries.find row_cmp k es) ≡ Some v → (k ≡ key_of key v.1) × HasKey key v.1) [
  | true ↦ λ t f. let same : x.1 ≡ v = some_same x.1 v f in
      (row_cmp-IsAntisymmetric k x.0 (equal_test _ t) ∙ h.0.0 ∙ ap (λ (p : ℕ × Row). key_of key p.1) same, subst (λ (p : ℕ × Row). HasKey key p.1) same h.0.1)
  | false ↦ λ t f. stands_step key es k v h.1 f
] refl e

pub stands : (key : List ℕ) (m : LiveRows) (k : Row) (v : ℕ × Row) → AllByRecursion (StandsAtKey key) (finite.entries m) → finite.get m k ≡ Some v → (k ≡ key_of key v.1) × HasKey key v.1
stands key m k v h e = stands_step key (finite.entries m) k v h (sym (finite.get-entries m k) ∙ e)

-- a live row of a table, in its own part
pub record LiveHere (by : Route) (key : List ℕ) (fs : List Part) (h : TableValue) (slot : ℕ) (f : Part) : Type 0 where
  pub row : Row
  pub in_table : row_at h.live slot ≡ Some row
  pub mine : f.number ≡ slot % 8
  pub in_part : row_at f.rows.live (slot / 8) ≡ Some row
  pub stands_there : finite.get f.rows.live (key_of key row) ≡ Some (slot / 8, row)
  pub stands_here : finite.get h.live (key_of key row) ≡ Some (slot, row)
  pub has : HasKey key row
  pub home : key_home by fs (key_of key row) ≡ slot_home fs slot

-- and a dead one
pub record DeadHere (by : Route) (key : List ℕ) (fs : List Part) (h : TableValue) (slot : ℕ) (f : Part) : Type 0 where
  pub row : Row
  pub in_table : finite.get h.dead slot ≡ Some row
  pub mine : f.number ≡ slot % 8
  pub in_part : finite.get f.rows.dead (slot / 8) ≡ Some row
  pub home : key_home by fs (key_of key row) ≡ slot_home fs slot

-- the table of the new parts
pub record Becomes (limit : Option ℕ) (by : Route) (key : List ℕ) (fs : List Part) (h : TableValue) : Type 0 where
  pub view : table_of limit by key fs ≡ h
  pub kept : IsUnited by key fs

module _ (limit : Option ℕ) (by : Route) (key : List ℕ) (fs : List Part) (u : IsUnited by key fs) (h : TableValue) (view : table_of limit by key fs ≡ h) (slot : ℕ) (f : Part) (own : slice_get fs (slot_home fs slot) ≡ Some f) where
  part : IsPart key f
  part = each_at (IsPart key) fs (slot_home fs slot) f u.each own

  whole : f.number ≡ slot % 8 → wide f.number (slot / 8) ≡ slot
  whole mine = ap (λ p. slot / 8 * 8 + p) mine ∙ whole_is slot

  in_live : (s : ℕ) → row_at (live_of fs) s ≡ row_at h.live s
  in_live s = ap (λ (x : TableValue). row_at x.live s) view

  pub live_here : AreKeyed f.rows → is_some (row_at h.live slot) ≡ true → LiveHere by key fs h slot f
  live_here keyed some =
      let r = known (row_at h.live slot) some in
      elim (is_same f.number (slot % 8)) [
        | inr other ↦ absurd (missing r.0 (sym (row_none by key fs u slot f own other) ∙ in_live slot ∙ r.1))
        | inl mine ↦
            let there : row_at f.rows.live (slot / 8) ≡ Some r.0 = sym (row_is by key fs u slot f own mine keyed.apart) ∙ in_live slot ∙ r.1 in
            let k = at_key f.rows.live (slot / 8) r.0 there in
            let at = stands f.rows.key f.rows.live k.0 (slot / 8, r.0) keyed.keyed k.1 in
            let key_is : k.0 ≡ key_of key r.0 = at.0 ∙ ap (λ c. key_of c r.0) part.same_key in
            let found : finite.get f.rows.live (key_of key r.0) ≡ Some (slot / 8, r.0) = ap (finite.get f.rows.live) (sym key_is) ∙ k.1 in
            let widely : finite.get (wide_live f) (key_of key r.0) ≡ Some (slot, r.0) =
            get_with_values (to_wide f.number) f.rows.live (key_of key r.0) ∙ ap (option_map (to_wide f.number)) found ∙ ap (λ n. Some (n, r.0)) (whole mine) in
            let home : key_home by fs (key_of key r.0) ≡ slot_home fs slot = home_known by key fs u (slot_home fs slot) f own (key_of key r.0) (slot, r.0) widely in
            record {
              row = r.0;
              in_table = r.1;
              mine = mine;
              in_part = there;
              stands_there = found;
              stands_here = sym (ap (λ (x : TableValue). finite.get x.live (key_of key r.0)) view) ∙ own_live by key fs f u (key_of key r.0) (ap (slice_get fs) home ∙ own) ∙ widely;
              has = subst (λ c. HasKey c r.0) part.same_key at.1;
              home = home;
            }
      ]

  dead_is : finite.get h.dead slot ≡ cond (slot % 8 == f.number) (finite.get f.rows.dead (slot / 8)) None
  dead_is = sym (ap (λ (x : TableValue). finite.get x.dead slot) view) ∙ own_dead by key fs f u slot own ∙ get_wide_dead f part.below slot

  pub dead_here : is_some (finite.get h.dead slot) ≡ true → DeadHere by key fs h slot f
  dead_here some =
      let r = known (finite.get h.dead slot) some in
      let in_fs : finite.get (dead_of fs) slot ≡ Some r.0 = ap (λ (x : TableValue). finite.get x.dead slot) view ∙ r.1 in
      elim (is_same f.number (slot % 8)) [
        | inr other ↦ absurd (missing r.0 (sym (dead_is ∙ ap (λ b. cond b (finite.get f.rows.dead (slot / 8)) None) (is_false (slot % 8 == f.number) (λ t. other (sym (same_now (slot % 8) f.number t))))) ∙ r.1))
        | inl mine ↦ record {
          row = r.0;
          in_table = r.1;
          mine = mine;
          in_part = sym (dead_is ∙ ap (λ b. cond b (finite.get f.rows.dead (slot / 8)) None) (ap (λ n. slot % 8 == n) mine ∙ same_itself (slot % 8))) ∙ r.1;
          home = u.returns slot r.0 in_fs;
        }
      ]
    where
      same_now : (a b : ℕ) → (a == b) ≡ true → a ≡ b
      same_now a b t = grind (arith, t)

  -- no row is dead in a slot that its part has live
  module _ (g : Part) (number : g.number ≡ f.number) where
    home_of : f.number ≡ slot % 8 → slot_home fs (wide f.number (slot / 8)) ≡ slot_home fs slot
    home_of mine = ap (slot_home fs) (whole mine)

    to_h : (a b : LiveRows) (c d : DeadRows) → a ≡ b → c ≡ d → filled limit by key fs a c ≡ filled limit by key fs b d
    to_h a b c d p q = λ i. filled limit by key fs (p i) (q i)

    pub marked : (l : LiveHere by key fs h slot f) → g.rows ≡ fragment.mark_dead f.rows (slot / 8) → (g.rows.key ≡ key) × Becomes limit by key (slice_set fs (slot_home fs slot) g) (mark_dead h slot)
    marked l is =
        let now : g.rows ≡ fragment.mark_dead_row f.rows (slot / 8) (Some l.row) = is ∙ ap (fragment.mark_dead_row f.rows (slot / 8)) l.in_part in
        let same_key : g.rows.key ≡ key = ap (λ (x : FragmentValue). x.key) now ∙ part.same_key in
        let live : g.rows.live ≡ finite.remove f.rows.live (key_of key l.row) = ap (λ (x : FragmentValue). x.live) now ∙ ap (λ c. finite.remove f.rows.live (key_of c l.row)) part.same_key in
        let dead : g.rows.dead ≡ finite.insert f.rows.dead (slot / 8) l.row = ap (λ (x : FragmentValue). x.dead) now in
        let wholly : finite.insert (dead_of fs) (wide f.number (slot / 8)) l.row ≡ finite.insert (dead_of fs) slot l.row = ap (λ s. finite.insert (dead_of fs) s l.row) (whole l.mine) in
        let both = changed by key fs u (slot_home fs slot) f g own number limit _ _ same_key
        (live_taken by key fs u (slot_home fs slot) f g own number (key_of key l.row) l.home live)
        (put_dead by key fs u (slot_home fs slot) f g own number (slot / 8) l.row (home_of l.mine) dead)
        (λ s row e. dead_more s row (sym (finite.get-insert nat_cmp_total (dead_of fs) (wide f.number (slot / 8)) l.row s) ∙ e)) in (
          same_key,
          record {
            view = both.0 ∙ to_h _ _ _ _ refl wholly ∙ ap (λ (x : TableValue). mark_dead_row x slot (Some l.row)) view ∙ ap (mark_dead_row h slot) (sym l.in_table);
            kept = both.1;
          },
        )
      where
        dead_more : (s : ℕ) (row : Row) → cond (eq_by_cmp nat_cmp s (wide f.number (slot / 8))) (Some l.row) (finite.get (dead_of fs) s) ≡ Some row → key_home by fs (key_of key row) ≡ slot_home fs s
        dead_more s row e = elim (eq_by_cmp nat_cmp s (wide f.number (slot / 8))) as (λ b. eq_by_cmp nat_cmp s (wide f.number (slot / 8)) ≡ b → cond b (Some l.row) (finite.get (dead_of fs) s) ≡ Some row → key_home by fs (key_of key row) ≡ slot_home fs s) [
          | true ↦ λ t d. ap (λ r. key_home by fs (key_of key r)) (sym (some_same l.row row d)) ∙ l.home ∙ sym (home_of l.mine) ∙ ap (slot_home fs) (sym (nat_cmp-IsAntisymmetric s (wide f.number (slot / 8)) (equal_test _ t)))
          | false ↦ λ t d. u.returns s row d
        ] refl e

    pub removed : (l : LiveHere by key fs h slot f) → g.rows ≡ fragment.remove_fresh f.rows (slot / 8) → (g.rows.key ≡ key) × Becomes limit by key (slice_set fs (slot_home fs slot) g) (remove_fresh h slot)
    removed l is =
        let now : g.rows ≡ fragment.remove_fresh_row f.rows (Some l.row) = is ∙ ap (fragment.remove_fresh_row f.rows) l.in_part in
        let same_key : g.rows.key ≡ key = ap (λ (x : FragmentValue). x.key) now ∙ part.same_key in
        let live : g.rows.live ≡ finite.remove f.rows.live (key_of key l.row) = ap (λ (x : FragmentValue). x.live) now ∙ ap (λ c. finite.remove f.rows.live (key_of c l.row)) part.same_key in
        let both = changed by key fs u (slot_home fs slot) f g own number limit _ _ same_key
        (live_taken by key fs u (slot_home fs slot) f g own number (key_of key l.row) l.home live)
        (kept_dead by key fs u (slot_home fs slot) f g own number (ap (λ (x : FragmentValue). x.dead) now)) u.returns in (
          same_key,
          record {
            view = both.0 ∙ ap (λ (x : TableValue). remove_fresh_row x (Some l.row)) view ∙ ap (remove_fresh_row h) (sym l.in_table);
            kept = both.1;
          },
        )

    pub replaced : (l : LiveHere by key fs h slot f) (row : Row) → key_of key row ≡ key_of key l.row → g.rows ≡ fragment.replace f.rows (slot / 8) row → (g.rows.key ≡ key) × Becomes limit by key (slice_set fs (slot_home fs slot) g) (replace h slot row)
    replaced l row alike is =
        let same_key : g.rows.key ≡ key = ap (λ (x : FragmentValue). x.key) is ∙ part.same_key in
        let live : g.rows.live ≡ finite.insert f.rows.live (key_of key row) (slot / 8, row) = ap (λ (x : FragmentValue). x.live) is ∙ ap (λ c. finite.insert f.rows.live (key_of c row) (slot / 8, row)) part.same_key in
        let wholly : finite.insert (live_of fs) (key_of key row) (wide f.number (slot / 8), row) ≡ finite.insert (live_of fs) (key_of key row) (slot, row) = ap (λ s. finite.insert (live_of fs) (key_of key row) (s, row)) (whole l.mine) in
        let both = changed by key fs u (slot_home fs slot) f g own number limit _ _ same_key
        (live_put by key fs u (slot_home fs slot) f g own number (key_of key row) (slot / 8) row (ap (key_home by fs) alike ∙ l.home) live)
        (kept_dead by key fs u (slot_home fs slot) f g own number (ap (λ (x : FragmentValue). x.dead) is)) u.returns in (
          same_key,
          record {
            view = both.0 ∙ to_h _ _ _ _ wholly refl ∙ ap (λ (x : TableValue). replace x slot row) view;
            kept = both.1;
          },
        )

    fewer_dead : (s : ℕ) (row : Row) → finite.get (finite.remove (dead_of fs) (wide f.number (slot / 8))) s ≡ Some row → key_home by fs (key_of key row) ≡ slot_home fs s
    fewer_dead s row e = elim (eq_by_cmp nat_cmp s (wide f.number (slot / 8))) as (λ b. cond b None (finite.get (dead_of fs) s) ≡ Some row → key_home by fs (key_of key row) ≡ slot_home fs s) [
      | true ↦ λ d. absurd (missing row d)
      | false ↦ λ d. u.returns s row d
    ] (sym (finite.get-remove nat_cmp_total (dead_of fs) (wide f.number (slot / 8)) s) ∙ e)

    pub purged : (d : DeadHere by key fs h slot f) → g.rows ≡ fragment.purge f.rows (slot / 8) → (g.rows.key ≡ key) × Becomes limit by key (slice_set fs (slot_home fs slot) g) (purge h slot)
    purged d is =
        let same_key : g.rows.key ≡ key = ap (λ (x : FragmentValue). x.key) is ∙ part.same_key in
        let wholly : finite.remove (dead_of fs) (wide f.number (slot / 8)) ≡ finite.remove (dead_of fs) slot = ap (finite.remove (dead_of fs)) (whole d.mine) in
        let both = changed by key fs u (slot_home fs slot) f g own number limit _ _ same_key
        (live_kept by key fs u (slot_home fs slot) f g own number (ap (λ (x : FragmentValue). x.live) is))
        (taken_dead by key fs u (slot_home fs slot) f g own number (slot / 8) (home_of d.mine) (ap (λ (x : FragmentValue). x.dead) is)) fewer_dead in (
          same_key,
          record {
            view = both.0 ∙ to_h _ _ _ _ refl wholly ∙ ap (λ (x : TableValue). purge x slot) view;
            kept = both.1;
          },
        )

    pub unmarked : (d : DeadHere by key fs h slot f) → g.rows ≡ fragment.unmark f.rows (slot / 8) → (g.rows.key ≡ key) × Becomes limit by key (slice_set fs (slot_home fs slot) g) (unmark h slot)
    unmarked d is =
        let now : g.rows ≡ fragment.unmark_row f.rows (slot / 8) (Some d.row) = is ∙ ap (fragment.unmark_row f.rows (slot / 8)) d.in_part in
        let same_key : g.rows.key ≡ key = ap (λ (x : FragmentValue). x.key) now ∙ part.same_key in
        let live : g.rows.live ≡ finite.insert f.rows.live (key_of key d.row) (slot / 8, d.row) = ap (λ (x : FragmentValue). x.live) now ∙ ap (λ c. finite.insert f.rows.live (key_of c d.row) (slot / 8, d.row)) part.same_key in
        let live_wholly : finite.insert (live_of fs) (key_of key d.row) (wide f.number (slot / 8), d.row) ≡ finite.insert (live_of fs) (key_of key d.row) (slot, d.row) = ap (λ s. finite.insert (live_of fs) (key_of key d.row) (s, d.row)) (whole d.mine) in
        let dead_wholly : finite.remove (dead_of fs) (wide f.number (slot / 8)) ≡ finite.remove (dead_of fs) slot = ap (finite.remove (dead_of fs)) (whole d.mine) in
        let both = changed by key fs u (slot_home fs slot) f g own number limit _ _ same_key
        (live_put by key fs u (slot_home fs slot) f g own number (key_of key d.row) (slot / 8) d.row d.home live)
        (taken_dead by key fs u (slot_home fs slot) f g own number (slot / 8) (home_of d.mine) (ap (λ (x : FragmentValue). x.dead) now)) fewer_dead in (
          same_key,
          record {
            view = both.0 ∙ to_h _ _ _ _ live_wholly dead_wholly ∙ ap (λ (x : TableValue). unmark_row x slot (Some d.row)) view ∙ ap (unmark_row h slot) (sym d.in_table);
            kept = both.1;
          },
        )

  -- a key that is free in the table is free in the part
  pub free_there : (d : DeadHere by key fs h slot f) → IfSome (finite.get h.dead slot) (λ row. finite.get h.live (key_of h.key row) ≡ None) → IfSome (finite.get f.rows.dead (slot / 8)) (λ row. finite.get f.rows.live (key_of f.rows.key row) ≡ None)
  free_there d free =
      let none : finite.get h.live (key_of h.key d.row) ≡ None = subst (λ o. IfSome o (λ row. finite.get h.live (key_of h.key row) ≡ None)) d.in_table free in
      let here : finite.get (live_of fs) (key_of key d.row) ≡ None = ap (λ (x : TableValue). finite.get x.live (key_of x.key d.row)) view ∙ none in
      let there : option_map (to_wide f.number) (finite.get f.rows.live (key_of key d.row)) ≡ None =
      sym (get_with_values (to_wide f.number) f.rows.live (key_of key d.row)) ∙ sym (own_live by key fs f u (key_of key d.row) (ap (slice_get fs) d.home ∙ own)) ∙ here in
      subst (λ o. IfSome o (λ row. finite.get f.rows.live (key_of f.rows.key row) ≡ None)) (sym d.in_part)
      (ap (λ c. finite.get f.rows.live (key_of c d.row)) part.same_key ∙ unmapped (finite.get f.rows.live (key_of key d.row)) there)
    where
      unmapped : (o : Option (ℕ × Row)) → option_map (to_wide f.number) o ≡ None → o ≡ None
      unmapped None e = refl
      unmapped (Some p) e = cc

  -- the step of a delete, and of an update
  pub deleted : (l : LiveHere by key fs h slot f) → finite.get f.rows.dead (slot / 8) ≡ None → (now : TableValue) → now ≡ mark_dead h slot → WasDeleted h now slot
  deleted l apart now is = record {
    row = l.row;
    there = ap (λ (x : TableValue). finite.get h.live (key_of x.key l.row)) (sym view) ∙ l.stands_here;
    apart = dead_is ∙ ap (λ b. cond b (finite.get f.rows.dead (slot / 8)) None) (ap (λ n. slot % 8 == n) l.mine ∙ same_itself (slot % 8)) ∙ apart;
    is = is ∙ ap (mark_dead_row h slot) l.in_table;
  }

  -- a row of the changed part is one of the changed table
  pub there_now : (g : Part) → g.number ≡ f.number → f.number ≡ slot % 8 → AreKeyed g.rows → (row : Row) → row_at g.rows.live (slot / 8) ≡ Some row → (now : TableValue) → Becomes limit by key (slice_set fs (slot_home fs slot) g) now → row_at now.live slot ≡ Some row
  there_now g number mine keyed row e now b =
      let places : slot_home (slice_set fs (slot_home fs slot) g) slot ≡ slot_home fs slot = ap (λ ps. place_of ps (slot % 8)) (parts_same by key fs u (slot_home fs slot) f g own number) in
      let there : slice_get (slice_set fs (slot_home fs slot) g) (slot_home (slice_set fs (slot_home fs slot) g) slot) ≡ Some g =
      ap (slice_get (slice_set fs (slot_home fs slot) g)) places ∙ get_set_same fs (slot_home fs slot) g f own in
      sym (ap (λ (x : TableValue). row_at x.live slot) b.view) ∙ row_is by key (slice_set fs (slot_home fs slot) g) b.kept slot g there (number ∙ mine) keyed.apart ∙ e

  pub updated : (l : LiveHere by key fs h slot f) (g : Part) → g.number ≡ f.number → AreKeyed g.rows → (was : Row) → row_at f.rows.live (slot / 8) ≡ Some was → (row : Row) → key_of key row ≡ key_of key l.row → g.rows ≡ fragment.replace f.rows (slot / 8) row → row_at g.rows.live (slot / 8) ≡ Some row
      → (now : TableValue) → now ≡ table_of limit by key (slice_set fs (slot_home fs slot) g) → WasReplaced h now slot was
  updated l g number keyed was old row alike made put now is =
      let same : l.row ≡ was = some_same l.row was (sym l.in_part ∙ old) in
      let columns : h.key ≡ key = sym (ap (λ (x : TableValue). x.key) view) in
      let b = replaced g number l row alike made in
      record {
        row = row;
        has_key = subst (λ c. HasKey c was) (sym columns) (subst (HasKey key) same l.has);
        same_key = subst (λ c. key_of c was ≡ key_of c row) (sym columns) (ap (key_of key) (sym same) ∙ sym alike);
        before = subst (λ r. finite.get h.live (key_of h.key r) ≡ Some (slot, r)) same (ap (λ c. finite.get h.live (key_of c l.row)) columns ∙ l.stands_here);
        there = ap (λ (x : TableValue). row_at x.live slot) is ∙ there_now g number l.mine keyed row put (table_of limit by key (slice_set fs (slot_home fs slot) g)) (record { view = refl; kept = b.1.kept });
        is = is ∙ b.1.view;
      }

-- ---- a row put into the part of its key

module _ (limit : Option ℕ) (by : Route) (key : List ℕ) (fs : List Part) (u : IsUnited by key fs) (h : TableValue) (view : table_of limit by key fs ≡ h) (row : Row) (has : HasKey h.key row) (free : finite.get h.live (key_of h.key row) ≡ None)
    (j : ℕ) (home : key_home by fs (key_of key row) ≡ j) (f : Part) (own : slice_get fs j ≡ Some f) where
  its : IsPart key f
  its = each_at (IsPart key) fs j f u.each own

  columns : h.key ≡ f.rows.key
  columns = sym (ap (λ (x : TableValue). x.key) view) ∙ sym its.same_key

  pub has_there : HasKey f.rows.key row
  has_there = subst (λ c. HasKey c row) columns has

  gone : finite.get f.rows.live (key_of key row) ≡ None
  gone = unmapped (finite.get f.rows.live (key_of key row)) (sym (get_with_values (to_wide f.number) f.rows.live (key_of key row)) ∙ sym (own_live by key fs f u (key_of key row) (ap (slice_get fs) home ∙ own))
      ∙ ap (λ (x : TableValue). finite.get x.live (key_of x.key row)) view ∙ free)
    where
      unmapped : (o : Option (ℕ × Row)) → option_map (to_wide f.number) o ≡ None → o ≡ None
      unmapped None e = refl
      unmapped (Some p) e = cc

  pub free_in_part : finite.contains_key f.rows.live (key_of f.rows.key row) ≡ false
  free_in_part = ap is_some (ap (λ c. finite.get f.rows.live (key_of c row)) its.same_key ∙ gone)

  module _ (g : Part) (number : g.number ≡ f.number) (s : ℕ) (is : g.rows ≡ fragment.insert f.rows s row) (in_live : row_at f.rows.live s ≡ None) (in_dead : finite.get f.rows.dead s ≡ None) where
    rest : wide f.number s % 8 ≡ f.number
    rest = rest_is f.number s (wide f.number s) its.below refl

    front : wide f.number s / 8 ≡ s
    front = front_is f.number s (wide f.number s) its.below refl

    at_home : slot_home fs (wide f.number s) ≡ j
    at_home = ap (place_of (parts_of fs)) rest ∙ ap (λ o. unwrap_or o 0) (apart_at 0 (parts_of fs) fs j f u.apart own ∙ ap Some (omega arith))

    own_slot : slice_get fs (slot_home fs (wide f.number s)) ≡ Some f
    own_slot = ap (slice_get fs) at_home ∙ own

    pub put_key : g.rows.key ≡ key
    put_key = ap (λ (x : FragmentValue). x.key) is ∙ its.same_key

    pub put : Becomes limit by key (slice_set fs j g) (insert h (wide f.number s) row)
    put =
        let live : g.rows.live ≡ finite.insert f.rows.live (key_of key row) (s, row) = ap (λ (x : FragmentValue). x.live) is ∙ ap (λ c. finite.insert f.rows.live (key_of c row) (s, row)) its.same_key in
        let both = changed by key fs u j f g own number limit _ _ put_key
        (live_put by key fs u j f g own number (key_of key row) s row home live)
        (kept_dead by key fs u j f g own number (ap (λ (x : FragmentValue). x.dead) is)) u.returns in
        record { view = both.0 ∙ ap (λ (x : TableValue). insert x (wide f.number s) row) view; kept = both.1 }

    pub fresh_live : row_at h.live (wide f.number s) ≡ None
    fresh_live = sym (ap (λ (x : TableValue). row_at x.live (wide f.number s)) view) ∙ elim (row_at (live_of fs) (wide f.number s)) as (λ o. row_at (live_of fs) (wide f.number s) ≡ o → o ≡ None) [
      | None ↦ λ e. refl
      | Some r ↦ λ e.
          let k = at_key (live_of fs) (wide f.number s) r e in
          let there = at_slot f.rows.live k.0 s r ((own_row by key fs u (wide f.number s) f own_slot k.0 r k.1).1 ∙ ap (λ n. Some (n, r)) front) in
          absurd (missing there.0 (sym in_live ∙ there.1))
    ] refl

    pub fresh_dead : finite.get h.dead (wide f.number s) ≡ None
    fresh_dead = dead_is limit by key fs u h view (wide f.number s) f own_slot ∙ ap (λ b. cond b (finite.get f.rows.dead (wide f.number s / 8)) None) (ap (λ n. n == f.number) rest ∙ same_itself f.number) ∙ ap (finite.get f.rows.dead) front ∙ in_dead

    pub put_step : AreKeyed g.rows → row_at g.rows.live s ≡ Some row → (now : TableValue) → now ≡ insert h (wide f.number s) row → WasInserted h now (wide f.number s)
    put_step keyed there now said = record {
      row = row;
      free = free;
      there = there_now limit by key fs u h view (wide f.number s) f own_slot g number (sym rest) keyed row (ap (row_at g.rows.live) front ∙ there) now
          (subst (λ i. Becomes limit by key (slice_set fs i g) now) (sym at_home) (subst (Becomes limit by key (slice_set fs j g)) (sym said) put));
      is = said;
    }

-- ---- as the calls do it: the first part, or another

pub home_first : (f : Part) (slice os : List Part) (number slot : ℕ) → slice ≡ os → number ≡ slot % 8 → place_of (parts_of (f ∷ slice)) number ≡ 0 → slot_home (f ∷ os) slot ≡ 0
home_first f slice os number slot s n e = (λ i. place_of (parts_of (f ∷ sym s i)) (sym n i)) ∙ e

pub home_other : (f : Part) (slice os : List Part) (number slot at : ℕ) → slice ≡ os → number ≡ slot % 8 → place_of (parts_of (f ∷ slice)) number ≡ suc at → slot_home (f ∷ os) slot ≡ suc at
home_other f slice os number slot at s n e = (λ i. place_of (parts_of (f ∷ sym s i)) (sym n i)) ∙ e

pub first_there : (f : Part) (os : List Part) (place : ℕ) → place ≡ 0 → slice_get (f ∷ os) place ≡ Some f
first_there f os place e = ap (slice_get (f ∷ os)) e

pub other_there : (f g : Part) (os : List Part) (place at : ℕ) → place ≡ suc at → slice_get os at ≡ Some g → slice_get (f ∷ os) place ≡ Some g
other_there f g os place at e is = ap (slice_get (f ∷ os)) e ∙ is

pub first_becomes : (limit : Option ℕ) (by : Route) (f g : Part) (os : List Part) (place : ℕ) (h : TableValue) → place ≡ 0 → (g.rows.key ≡ f.rows.key) × Becomes limit by f.rows.key (slice_set (f ∷ os) place g) h → Becomes limit by g.rows.key (g ∷ os) h
first_becomes limit by f g os place h e both =
    let b : Becomes limit by f.rows.key (g ∷ os) h = subst (λ i. Becomes limit by f.rows.key (slice_set (f ∷ os) i g) h) e both.1 in
    subst (λ k. Becomes limit by k (g ∷ os) h) (sym both.0) b

pub other_becomes : (limit : Option ℕ) (by : Route) (f g : Part) (os : List Part) (place at : ℕ) (h : TableValue) → place ≡ suc at → (g.rows.key ≡ f.rows.key) × Becomes limit by f.rows.key (slice_set (f ∷ os) place g) h → Becomes limit by f.rows.key (f ∷ slice_set os at g) h
other_becomes limit by f g os place at h e both = subst (λ i. Becomes limit by f.rows.key (slice_set (f ∷ os) i g) h) e both.1

pub first_view : (limit : Option ℕ) (by : Route) (f g : Part) (os : List Part) (place : ℕ) → place ≡ 0 → g.rows.key ≡ f.rows.key → table_of limit by g.rows.key (g ∷ os) ≡ table_of limit by f.rows.key (slice_set (f ∷ os) place g)
first_view limit by f g os place e k = λ i. table_of limit by (k i) (slice_set (f ∷ os) (sym e i) g)

pub other_view : (limit : Option ℕ) (by : Route) (f g : Part) (os : List Part) (place at : ℕ) → place ≡ suc at → table_of limit by f.rows.key (f ∷ slice_set os at g) ≡ table_of limit by f.rows.key (slice_set (f ∷ os) place g)
other_view limit by f g os place at e = λ i. table_of limit by f.rows.key (slice_set (f ∷ os) (sym e i) g)

-- two rows of one key, by the table's columns
pub same_keys : (limit : Option ℕ) (by : Route) (key : List ℕ) (fs : List Part) (h : TableValue) → table_of limit by key fs ≡ h → (slot : ℕ) (row old : Row) → row_at h.live slot ≡ Some old
    → IfSome (row_at h.live slot) (λ o. key_of h.key row ≡ key_of h.key o) → key_of key row ≡ key_of key old
same_keys limit by key fs h view slot row old there same =
    subst (λ k. key_of k row ≡ key_of k old) (sym (ap (λ (x : TableValue). x.key) view)) (subst (λ o. IfSome o (λ o. key_of h.key row ≡ key_of h.key o)) there same)
