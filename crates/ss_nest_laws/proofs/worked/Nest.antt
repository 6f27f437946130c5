-- The workflow that splits and joins, as one nest: the law's premises are met, the catalogue with the nest is accepted, and the
-- nest runs as it should.
use Rattle.std.proofs.Common.{◌≡◌, ◌<◌, ◌==◌, ℕ, zero, suc, pos, codes, Bool, true, false, List, [], ◌∷◌, slice_get, length, refl, sym, ap, ◌∙◌, subst, Some, None, arith}
use Rattle.std.specs.declared.option.Option.{Option}
use Rattle.std.specs.List.{list_all, list_any}
use Rattle.std.specs.FinMap as finmap
use Rattle.std.specs.FinMap.{get-empty, get-insert, len-empty, len-insert}
use Rattle.ss_value.specs.declared.value.Value.TheVariants.{Int}
use Rattle.ss_value.specs.Rows.{Row, Rows}
use Rattle.ss_value.specs.ValueOrder.{row_cmp_total}
use Rattle.ss_model.specs.declared.catalog.Catalog.{Catalog}
use Rattle.ss_model.specs.declared.catalog.Nest.{Nest}
use Rattle.ss_model.specs.declared.catalog.Procedure.{Procedure}
use Rattle.ss_model.specs.declared.catalog.Touch.{Touch}
use Rattle.ss_model.specs.declared.catalog.Touch.TheVariants.{Part, Arg, Multi, All}
use Rattle.ss_model.specs.declared.entry.Outcome.TheVariants.{Done, Aborted}
use Rattle.ss_model.specs.declared.entry.Reason.TheVariants.{Raised}
use Rattle.ss_model.specs.Contents.{Contents, table_at, put_entries}
use Rattle.ss_model.specs.Statements.{insert_row}
use Rattle.ss_model.specs.Queries.{query_result}
use Rattle.ss_model.specs.Bodies.{run_body}
use Rattle.ss_model.specs.declared.entry.Entry.TheVariants.{Step as StepEntry}
use Rattle.ss_model.specs.Database.{Database, apply, empty_database, input_batches, is_ready, only_when, present, run_procedure, stepped, takes_stream}
use Rattle.ss_model.specs.Orders.{procedure_has}
use Rattle.ss_model.specs.Settling.{streams_on}
use Rattle.ss_model.specs.Accepted.{Accepted}
use Rattle.ss_model.specs.Nests.{MayNest, IsPlain, AreNests, is_plain_step, touch_of, nest_procedure, nested_number, nested_catalog, run_nest}
use Rattle.ss_model.proofs.CallerLemmas.{literal_value, column_meaning, binary_value, binary_test}
use Rattle.ss_lemmas.proofs.Bools.{below, some_same}
use Rattle.ss_lemmas.proofs.Numbers.{eqb_is}
use Rattle.ss_nest_laws.proofs.Lists.{all_among}
use Rattle.ss_nest_laws.proofs.Nested.{runs_as_members, keep_bodies, steps_run_members}
use Rattle.ss_nest_laws.proofs.NestedAccepted.{nested_accepted}
use Rattle.ss_model_laws.proofs.worked.Workflow as flow

abbrev pub whole : Nest
whole = record { name = codes "whole"; members = 0 ∷ 1 ∷ 2 ∷ 3 ∷ [] }

abbrev workflow : Catalog
workflow = flow.workflow

-- ---- the premises

abbrev touches_first : Option Touch → Bool
touches_first (Some (Part n)) = n == 0
touches_first _ = false

first_touch : (o : Option Touch) → touches_first o ≡ true → o ≡ Some (Part 0)
first_touch None e = cc
first_touch (Some (Part n)) e = ap (λ n. Some (Part n)) (eqb_is n 0 e)
first_touch (Some (Arg a)) e = cc
first_touch (Some (Multi xs)) e = cc
first_touch (Some All) e = cc

touched : (q : ℕ) → list_any (λ n. n == q) whole.members ≡ true → touch_of workflow q ≡ Some (Part 0)
touched q e = first_touch _ (all_among (λ q. touches_first (touch_of workflow q)) whole.members q refl e)

taker_below : (ps : List Procedure) (q s : ℕ) → procedure_has (takes_stream s) (slice_get ps q) ≡ true → q < length ps
taker_below [] q s e = cc
taker_below (p ∷ ps) zero s e = omega arith
taker_below (p ∷ ps) (suc q) s e = let l = taker_below ps q s e in omega arith

may : MayNest workflow whole.members
may = record {
  several = omega arith;
  few = omega arith;
  streaming = λ q e. all_among (streams_on workflow) whole.members q refl e;
  apart = refl;
  closed = (refl, (refl, (refl, tt)));
  inside = λ s q emits takes here. below 4 (λ q. list_any (λ n. n == q) whole.members) refl q (taker_below workflow.procedures q s here);
  same_touch = λ p q e f. touched p e ∙ sym (touched q f);
  by_rows = λ q e. refl;
}

plain : IsPlain workflow
plain zero p is = subst (λ (p : Procedure). (p.inner ≡ []) × (list_all is_plain_step p.body ≡ true)) (some_same flow.splits p is) (refl, refl)
plain (suc zero) p is = subst (λ (p : Procedure). (p.inner ≡ []) × (list_all is_plain_step p.body ≡ true)) (some_same flow.adds_ten p is) (refl, refl)
plain (suc (suc zero)) p is = subst (λ (p : Procedure). (p.inner ≡ []) × (list_all is_plain_step p.body ≡ true)) (some_same flow.adds_twenty p is) (refl, refl)
plain (suc (suc (suc zero))) p is = subst (λ (p : Procedure). (p.inner ≡ []) × (list_all is_plain_step p.body ≡ true)) (some_same flow.joins p is) (refl, refl)
plain (suc (suc (suc (suc q)))) p is = cc

pub are : AreNests workflow (whole ∷ [])
are = record { plain = plain; each = each; named = refl; once = refl }
  where
    each : (i : ℕ) (nest : Nest) → slice_get (whole ∷ []) i ≡ Some nest → MayNest workflow nest.members
    each zero nest is = subst (λ (n : Nest). MayNest workflow n.members) (some_same whole nest is) may
    each (suc i) nest is = cc

-- ---- the catalogue with the nest

abbrev pub nested : Catalog
nested = nested_catalog workflow (whole ∷ []) []

abbrev pub as_one : Procedure
as_one = nest_procedure workflow whole flow.splits

pub stands : slice_get nested.procedures (nested_number (whole ∷ []) 0) ≡ Some as_one
stands = refl

pub accepted : Accepted nested
accepted = nested_accepted workflow flow.accepted (whole ∷ []) [] are

-- ---- the law on it, and what the nest comes to

abbrev rows : ℕ → Rows
rows n = (Int (pos n) ∷ []) ∷ []

abbrev start : Contents
start = (empty_database workflow).contents

pub runs : (batches : List Rows) (s : Contents) → length batches ≡ 1 → run_procedure nested 0 as_one [] batches s ≡ run_nest workflow whole.members batches s
runs batches s fits = runs_as_members workflow flow.accepted (whole ∷ []) [] are 0 whole refl 0 flow.splits refl refl batches s fits

-- in every database it has this body, and its step runs the members
pub keeps : (db : Database) → present nested db 0 as_one ≡ as_one
keeps db = keep_bodies workflow (whole ∷ []) [] are 0 whole refl 0 flow.splits refl refl db

pub step : (db : Database) (r : ℕ) → apply nested db (StepEntry 0 r) ≡ only_when (is_ready db 0 r flow.splits) (Some (stepped db 0 r as_one (run_nest workflow whole.members (input_batches db r flow.splits) db.contents)))
step db r = steps_run_members workflow flow.accepted (whole ∷ []) [] are 0 whole refl 0 flow.splits refl refl db r

-- a 7 aborts all of it
pub raises : run_procedure nested 0 as_one [] (rows 7 ∷ []) start ≡ record { contents = start; outcome = Aborted (Raised (pos 3)); emitted = [] ∷ [] ∷ [] ∷ [] ∷ [] ∷ [] }
unfolding run_body query_result
raises = simp (literal_value, column_meaning, binary_test)

-- a 1 leaves two rows
pub joins : run_procedure nested 0 as_one [] (rows 1 ∷ []) start ≡ record {
  contents = record { tables = finmap.insert (finmap.insert finmap.empty (Int (pos 11) ∷ []) (Int (pos 11) ∷ Int (pos 1) ∷ [])) (Int (pos 21) ∷ []) (Int (pos 21) ∷ Int (pos 2) ∷ []) ∷ []; windows = [] };
  outcome = Done [];
  emitted = [] ∷ rows 1 ∷ rows 1 ∷ rows 11 ∷ rows 21 ∷ [];
}
unfolding run_body query_result insert_row table_at put_entries
joins =
    let key : Row = Int (pos 11) ∷ [] in
    let row : Row = Int (pos 11) ∷ Int (pos 1) ∷ [] in
    simp (literal_value, column_meaning, binary_value, binary_test, get-empty, len-empty, get-insert row_cmp_total finmap.empty key row (Int (pos 21) ∷ []), len-insert row_cmp_total finmap.empty key row)
