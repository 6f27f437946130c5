-- A row put into the part of its key, or refused for want of memory.
use Rattle.std.proofs.Common.{◌≡◌, ℕ, List, ◌∷◌, refl, sym, ap, subst, ◌∙◌, Option, Some, None, slice_get, slice_set}
use Rattle.std.specs.Prelude.{Result, Ok, Err, IfOk, IfErr}
use Rattle.std.specs.Option.{is_some}
use Rattle.std.specs.FinMap as finite
use Rattle.ss_value.specs.Rows.{Row}
use Rattle.ss_table.specs.declared.route.Route.{Route}
use Rattle.ss_table.specs.declared.part.Part.{Part}
use Rattle.ss_table.specs.TableValue.{TableValue, HasKey, key_of, row_at, is_at_limit, insert}
use Rattle.ss_table.specs.Steps.{WasInserted}
use Rattle.ss_table.specs.Refusals.{refusal, refusal_by}
use Rattle.ss_table.specs.Routes.{place_of, part_of}
use Rattle.ss_table.specs.Parts.{wide, parts_of, table_of, key_home, IsPart, IsUnited, WasPut}
use Rattle.ss_table.proofs.Wide.{each_at}
use Rattle.ss_table.proofs.Changed.{set_there}
use Rattle.ss_table.proofs.Own.{put, put_key, fresh_live, fresh_dead, put_step, Becomes}

-- what the table is after a try to put a row in, where these are its parts then
pub record Tried (limit : Option ℕ) (by : Route) (key : List ℕ) (fs : List Part) (h : TableValue) (row : Row) (r : Result ℕ Row) : Type 0 where
  pub kept : IsUnited by key fs
  pub ok : IfOk r (λ slot. table_of limit by key fs ≡ insert h slot row)
  pub fresh : IfOk r (λ slot. (row_at h.live slot ≡ None) × (finite.get h.dead slot ≡ None))
  pub step : IfOk r (λ slot. WasInserted h (table_of limit by key fs) slot)
  pub err : IfErr r (λ e. (table_of limit by key fs ≡ h) × (e ≡ row))

module _ (limit : Option ℕ) (by : Route) (key : List ℕ) (fs : List Part) (u : IsUnited by key fs) (h : TableValue) (view : table_of limit by key fs ≡ h) (row : Row) (has : HasKey h.key row) (free : finite.get h.live (key_of h.key row) ≡ None)
    (j : ℕ) (home : key_home by fs (key_of key row) ≡ j) (f : Part) (own : slice_get fs j ≡ Some f) (g : Part) (number : g.number ≡ f.number) where
  pub tried : (r : Result ℕ Row) → IfOk r (WasPut f g row) → IfErr r (λ e. (g ≡ f) × (e ≡ row)) → (g.rows.key ≡ key) × Tried limit by key (slice_set fs j g) h row r
  tried (Ok slot) w e =
      let b : Becomes limit by key (slice_set fs j g) (insert h (wide f.number w.at) row) = put limit by key fs u h view row has free j home f own g number w.at w.is w.fresh.0 w.fresh.1 in
      let said : table_of limit by key (slice_set fs j g) ≡ insert h slot row = b.view ∙ ap (λ s. insert h s row) (sym w.is_slot) in (
        put_key limit by key fs u h view row has free j home f own g number w.at w.is w.fresh.0 w.fresh.1,
        record {
          kept = b.kept;
          ok = said;
          fresh = subst (λ s. (row_at h.live s ≡ None) × (finite.get h.dead s ≡ None)) (sym w.is_slot)
              (fresh_live limit by key fs u h view row has free j home f own g number w.at w.is w.fresh.0 w.fresh.1, fresh_dead limit by key fs u h view row has free j home f own g number w.at w.is w.fresh.0 w.fresh.1);
          step = subst (λ s. WasInserted h (table_of limit by key (slice_set fs j g)) s) (sym w.is_slot)
              (put_step limit by key fs u h view row has free j home f own g number w.at w.is w.fresh.0 w.fresh.1 w.keyed w.there (table_of limit by key (slice_set fs j g)) b.view);
          err = tt;
        },
      )
  tried (Err other) w e =
      let same : slice_set fs j g ≡ fs = ap (slice_set fs j) e.0 ∙ set_there fs j f own in (
        ap (λ (p : Part). p.rows.key) e.0 ∙ (each_at (IsPart key) fs j f u.each own).same_key,
        record {
          kept = subst (IsUnited by key) (sym same) u;
          ok = tt;
          fresh = tt;
          step = tt;
          err = (ap (table_of limit by key) same ∙ view, e.1);
        },
      )

-- where a number that stands for the row's part has a place, the row's key is at home there
pub home_is : (limit : Option ℕ) (by : Route) (f : Part) (os slice : List Part) (h : TableValue) → table_of limit by f.rows.key (f ∷ os) ≡ h → (number : ℕ) (row : Row) (place : ℕ) → slice ≡ os
    → place_of h.parts number ≡ place_of h.parts (part_of h.route (key_of h.key row)) → place_of (parts_of (f ∷ slice)) number ≡ place → key_home by (f ∷ os) (key_of f.rows.key row) ≡ place
home_is limit by f os slice h view number row place s own e =
    let places : place_of (parts_of (f ∷ os)) number ≡ key_home by (f ∷ os) (key_of h.key row) =
    ap (λ (x : TableValue). place_of x.parts number) view ∙ own ∙ sym (ap (λ (x : TableValue). place_of x.parts (part_of x.route (key_of h.key row))) view) in
    ap (λ (x : TableValue). key_home by (f ∷ os) (key_of x.key row)) view ∙ sym places ∙ (λ i. place_of (parts_of (f ∷ sym s i)) number) ∙ e

-- a row that nothing refuses has a free key
pub free_key : (h : TableValue) (row : Row) → refusal h row ≡ None → finite.get h.live (key_of h.key row) ≡ None
free_key h row e = by (finite.get h.live (key_of h.key row)) e
  where
    by : (o : Option (ℕ × Row)) → refusal_by (is_some o) (is_at_limit h.limit (finite.len h.live)) ≡ None → o ≡ None
    by None e = refl
    by (Some p) e = cc
