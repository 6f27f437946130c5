-- Why a row is refused, by its own part and by the counts of all.
use Rattle.std.proofs.Common.{◌≡◌, ℕ, List, ◌∷◌, map, refl, sym, ap, subst, ◌∙◌, Option, Some, None, option_map, slice_get}
use Rattle.std.specs.Option.{is_some}
use Rattle.std.specs.FinMap as finite
use Rattle.ss_value.specs.Rows.{Row}
use Rattle.ss_value.specs.ValueOrder.{row_cmp_total, row_cmp-IsAntisymmetric}
use Rattle.ss_table.specs.declared.route.Route.{Route}
use Rattle.ss_table.specs.declared.part.Part.{Part}
use Rattle.ss_table.specs.TableValue.{TableValue, HasKey, key_of, is_at_limit}
use Rattle.ss_table.specs.Unions.{sizes}
use Rattle.ss_table.specs.Routes.{place_of, part_of}
use Rattle.ss_table.specs.Parts.{to_wide, wide_live, live_of, parts_of, table_of, key_home, IsPart, IsUnited}
use Rattle.ss_table.proofs.Wide.{get_with_values, each_at, own_live}
use Rattle.ss_table.proofs.Entries.{len_united}

-- the part that is found by a number that stands for the row's part
pub own_part : (limit : Option ℕ) (by : Route) (f : Part) (os slice : List Part) (h : TableValue) → table_of limit by f.rows.key (f ∷ os) ≡ h → (number : ℕ) (row : Row) (g : Part) → slice ≡ os
    → place_of h.parts number ≡ place_of h.parts (part_of h.route (key_of h.key row)) → slice_get (f ∷ slice) (place_of (parts_of (f ∷ slice)) number) ≡ Some g
    → slice_get (f ∷ os) (key_home by (f ∷ os) (key_of h.key row)) ≡ Some g
own_part limit by f os slice h view number row g s own found =
    let places : place_of (parts_of (f ∷ os)) number ≡ key_home by (f ∷ os) (key_of h.key row) =
    ap (λ (x : TableValue). place_of x.parts number) view ∙ own ∙ sym (ap (λ (x : TableValue). place_of x.parts (part_of x.route (key_of h.key row))) view) in
    ap (slice_get (f ∷ os)) (sym places) ∙ (λ i. slice_get (f ∷ sym s i) (place_of (parts_of (f ∷ sym s i)) number)) ∙ found

module _ (limit : Option ℕ) (by : Route) (key : List ℕ) (fs : List Part) (u : IsUnited by key fs) (h : TableValue) (view : table_of limit by key fs ≡ h) where
  -- as many rows as the parts have together
  pub count_is : is_at_limit limit (sizes (map wide_live fs)) ≡ is_at_limit h.limit (finite.len h.live)
  count_is = ap (is_at_limit limit) (sym (len_united row_cmp_total row_cmp-IsAntisymmetric (key_home by fs) (map wide_live fs) 0 u.home)) ∙ ap (λ (x : TableValue). is_at_limit x.limit (finite.len x.live)) view

  module _ (row : Row) (f : Part) (own : slice_get fs (key_home by fs (key_of h.key row)) ≡ Some f) where
    same_key : f.rows.key ≡ h.key
    same_key = (each_at (IsPart key) fs (key_home by fs (key_of h.key row)) f u.each own).same_key ∙ ap (λ (x : TableValue). x.key) view

    pub has_there : HasKey h.key row → HasKey f.rows.key row
    has_there has = subst (λ k. HasKey k row) (sym same_key) has

    is_some_map : (o : Option (ℕ × Row)) → is_some (option_map (to_wide f.number) o) ≡ is_some o
    is_some_map None = refl
    is_some_map (Some p) = refl

    -- a key is taken in the table where it is in its part
    pub taken_is : finite.contains_key f.rows.live (key_of f.rows.key row) ≡ finite.contains_key h.live (key_of h.key row)
    taken_is =
        ap (λ k. finite.contains_key f.rows.live (key_of k row)) same_key
        ∙ sym (is_some_map (finite.get f.rows.live (key_of h.key row))) ∙ ap is_some (sym (get_with_values (to_wide f.number) f.rows.live (key_of h.key row)))
        ∙ ap is_some (sym (own_live by key fs f u (key_of h.key row) own)) ∙ ap (λ (x : TableValue). finite.contains_key x.live (key_of h.key row)) view
