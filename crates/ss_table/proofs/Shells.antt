-- A table that has no row: one that is new, and one that lent its rows.
use Rattle.std.proofs.Common.{◌≡◌, ℕ, ◌%◌, ◌/◌, ◌<◌, ◌==◌, Bool, true, false, cond, List, [], ◌∷◌, refl, sym, ap, subst, ◌∙◌, Option, Some, None, option_map}
use Rattle.std.specs.Option.{option_or}
use Rattle.std.specs.Ordering.{nat_cmp}
use Rattle.std.specs.Cmp.{nat_cmp_total}
use Rattle.std.specs.FinMap as finite
use Rattle.std.specs.FinMap.{nat_cmp-IsAntisymmetric}
use Rattle.ss_value.specs.Rows.{Row}
use Rattle.ss_value.specs.Order.{row_cmp}
use Rattle.ss_value.specs.ValueOrder.{row_cmp_total, row_cmp-IsAntisymmetric}
use Rattle.ss_fragment.specs.FragmentValue.{FragmentValue, empty_fragment}
use Rattle.ss_table.specs.declared.route.Route.{Route}
use Rattle.ss_table.specs.declared.part.Part.{Part}
use Rattle.ss_table.specs.TableValue.{TableValue, LiveRows, DeadRows, key_of}
use Rattle.ss_table.specs.Joins.{shell_of}
use Rattle.ss_table.specs.Routes.{part_of, place_of, IsRoute}
use Rattle.ss_table.specs.Parts.{to_wide, wide_live, wide_dead, live_of, dead_of, parts_of, table_of, key_home, slot_home, IsPart, IsUnited}
use Rattle.ss_table.proofs.Unions.{get_first, or_none}
use Rattle.ss_table.proofs.Joining.{same_itself}
use Rattle.ss_table.proofs.Wide.{get_with_values, home_of_one}
use Rattle.ss_table.proofs.Changed.{get_wide_dead}

some_missing : {A : Type 0} (x : A) → None ≡ Some x → ⊥
some_missing x e = cc

module _ (f : Part) (below : f.number < 8) (live : f.rows.live ≡ finite.empty) (dead : f.rows.dead ≡ finite.empty) where
  none_live : (q : Row) → finite.get (wide_live f) q ≡ None
  none_live q = get_with_values (to_wide f.number) f.rows.live q ∙ ap (option_map (to_wide f.number)) (ap (λ (m : LiveRows). finite.get m q) live ∙ finite.get-empty row_cmp q)

  nothing : (b : Bool) → ◌≡◌ {A = Option Row} (cond b None None) None
  nothing true = refl
  nothing false = refl

  none_dead : (q : ℕ) → finite.get (wide_dead f) q ≡ None
  none_dead q = get_wide_dead f below q ∙ ap (λ x. cond (q % 8 == f.number) x None) (ap (λ (m : DeadRows). finite.get m (q / 8)) dead ∙ finite.get-empty nat_cmp (q / 8)) ∙ nothing (q % 8 == f.number)

  pub no_live : live_of (f ∷ []) ≡ finite.empty
  no_live = finite.same_map row_cmp_total row_cmp-IsAntisymmetric _ _ (λ q. get_first row_cmp_total (wide_live f) [] q ∙ ap (λ o. option_or o (finite.get (live_of []) q)) (none_live q) ∙ finite.get-empty row_cmp q ∙ sym (finite.get-empty row_cmp q))

  pub no_dead : dead_of (f ∷ []) ≡ finite.empty
  no_dead = finite.same_map nat_cmp_total nat_cmp-IsAntisymmetric _ _ (λ q. get_first nat_cmp_total (wide_dead f) [] q ∙ ap (λ o. option_or o (finite.get (dead_of []) q)) (none_dead q) ∙ finite.get-empty nat_cmp q ∙ sym (finite.get-empty nat_cmp q))

-- one part is a table where none of its rows is dead
pub alone_united : (by : Route) (f : Part) → IsRoute by → f.number < 8 → ((q : ℕ) → finite.get (dead_of (f ∷ [])) q ≡ None) → IsUnited by f.rows.key (f ∷ [])
alone_united by f route below settled = record {
  route = route;
  each = (record { same_key = refl; below = below }, tt);
  apart = (ap (λ b. cond b (Some 0) None) (same_itself f.number), tt);
  home = ((λ q e. absurd (never (sym (ap (λ a. a == 0) (home_of_one f (part_of by q))) ∙ e))), tt);
  slots = ((λ q e. absurd (never (sym (ap (λ a. a == 0) (home_of_one f (q % 8))) ∙ e))), tt);
  returns = λ slot row e. absurd (some_missing row (sym (settled slot) ∙ e));
}
  where
    never : true ≡ false → ⊥
    never e = cc

-- a table without a row
pub empty_united : (by : Route) (f : Part) → IsRoute by → f.number < 8 → f.rows.live ≡ finite.empty → f.rows.dead ≡ finite.empty → IsUnited by f.rows.key (f ∷ [])
empty_united by f route below live dead = alone_united by f route below (λ q. ap (λ (m : DeadRows). finite.get m q) (no_dead f below live dead) ∙ finite.get-empty nat_cmp q)

-- a table of one part whose rows were taken out is a shell
module _ (limit : Option ℕ) (by : Route) (f : Part) (os : List Part) (h : TableValue) (view : table_of limit by f.rows.key (f ∷ os) ≡ h) (none : os ≡ []) (route : IsRoute by) (below : f.number < 8) (rows : FragmentValue) (empty : rows ≡ empty_fragment) where
  abbrev taken : Part
  taken = record { number = f.number; rows = rows }

  no_rows : rows.live ≡ finite.empty
  no_rows = ap (λ (x : FragmentValue). x.live) empty

  no_dead_rows : rows.dead ≡ finite.empty
  no_dead_rows = ap (λ (x : FragmentValue). x.dead) empty

  pub shell_kept : IsUnited by rows.key (record { number = f.number; rows = rows } ∷ os)
  shell_kept = subst (λ l. IsUnited by rows.key (taken ∷ l)) (sym none) (empty_united by taken route below no_rows no_dead_rows)

  pub shell_is : table_of limit by rows.key (record { number = f.number; rows = rows } ∷ os) ≡ shell_of h
  shell_is =
      let key : rows.key ≡ [] = ap (λ (x : FragmentValue). x.key) empty in
      let live : live_of (taken ∷ os) ≡ finite.empty = ap (λ l. live_of (taken ∷ l)) none ∙ no_live taken below no_rows no_dead_rows in
      let dead : dead_of (taken ∷ os) ≡ finite.empty = ap (λ l. dead_of (taken ∷ l)) none ∙ no_dead taken below no_rows no_dead_rows in
      (λ i. record { key = key i; limit = limit; live = live i; dead = dead i; route = by; parts = parts_of (f ∷ os) }) ∙ ap shell_of view
