-- Entries of a list that replays have records.
use Rattle.std.proofs.Common.{◌≡◌, ◌≤◌, nat_le, ℕ, true, List, [], ◌∷◌, length, Option, Some, None, slice_get, refl, arith, All}
use Rattle.std.specs.Prelude.{option_map, unwrap_or}
use Rattle.std.specs.List.{AllByRecursion, list_all}
use Rattle.std.proofs.lemmas.Bool.{eqb-true, leb-true, ltb-true}
use Rattle.std.proofs.lemmas.List.Elements.{All-from_recursion}
use Rattle.ss_lemmas.proofs.Bools.{at_index, first_of_two, second_of_two}
use Rattle.ss_value.specs.declared.schema.Column.{Column}
use Rattle.ss_value.specs.Rows.{Row, Rows}
use Rattle.ss_value.specs.Fit.{fits_schema}
use Rattle.ss_model.specs.declared.catalog.Catalog.{Catalog}
use Rattle.ss_model.specs.declared.catalog.Procedure.{Procedure}
use Rattle.ss_model.specs.declared.catalog.StreamDef.{StreamDef}
use Rattle.ss_model.specs.declared.entry.Entry.{Entry}
use Rattle.ss_model.specs.declared.entry.Entry.TheVariants.{Call, Push, Step, Install}
use Rattle.ss_model.specs.declared.entry.Listed.{Listed}
use Rattle.ss_model.specs.declared.entry.Outcome.{Outcome}
use Rattle.ss_model.specs.Accepted.{Accepted}
use Rattle.ss_model.specs.CatalogForm.{counts_within_limits}
use Rattle.ss_model.specs.Database.{Database, Applied, apply, fits_entry, has_call, push_fits, stream_schema}
use Rattle.ss_model.specs.Replays.{Replays, database_after}
use Rattle.ss_model.proofs.CallerLemmas.{applied_fits, limits_of}
use Rattle.ss_record.specs.Bounds.{IsShort, IsRecordable}
use Rattle.ss_standing.specs.Standing.{listed_entries}

-- ---- rows have no more values than there are columns

row_short : (columns : List Column) (row : Row) → length columns ≤ 16 → fits_schema columns row ≡ true → IsShort row
row_short columns row few fits = let same : length columns ≡ length row = eqb-true _ _ (first_of_two _ _ fits) in omega arith

rows_short : (columns : List Column) (rows : Rows) → length columns ≤ 16 → list_all (fits_schema columns) rows ≡ true → AllByRecursion IsShort rows
rows_short columns [] few fits = tt
rows_short columns (row ∷ rows) few fits = (row_short columns row few (first_of_two _ _ fits), rows_short columns rows few (second_of_two _ _ fits))

module _ (catalog : Catalog) (accepted : Accepted catalog) where
  counts : counts_within_limits catalog ≡ true
  counts = first_of_two _ _ (limits_of catalog accepted.form)

  args_few : (n : ℕ) (p : Procedure) → slice_get catalog.procedures n ≡ Some p → length p.args ≤ 16
  args_few n p is = leb-true _ _ (at_index (λ (q : Procedure). nat_le (length q.args) 16) catalog.procedures (second_of_two _ _ (first_of_two _ _ (first_of_two _ _ counts))) n p is)

  columns_few : (s : ℕ) → length (stream_schema catalog s) ≤ 16
  columns_few s = few (slice_get catalog.streams s) refl
    where
      few : (found : Option StreamDef) → slice_get catalog.streams s ≡ found → length (unwrap_or (option_map (λ (d : StreamDef). d.schema) found) []) ≤ 16
      few None is = omega arith
      few (Some d) is =
          leb-true _ _ (at_index (λ (e : StreamDef). nat_le (length e.schema) 16) catalog.streams (second_of_two _ _ (first_of_two _ _ (first_of_two _ _ (first_of_two _ _ (first_of_two _ _ counts))))) s d is)

  call_recordable : (client index n : ℕ) (args : Row) (found : Option Procedure) → slice_get catalog.procedures n ≡ found → has_call client args found ≡ true → IsRecordable (Call client index n args)
  call_recordable client index n args None is fits = cc
  call_recordable client index n args (Some p) is fits = (ltb-true _ _ (first_of_two _ _ (first_of_two _ _ fits)), row_short p.args args (args_few n p is) (second_of_two _ _ fits))

  push_recordable : (client index s : ℕ) (source : List ℕ) (seq : ℕ) (rows : Rows) → push_fits catalog client s seq rows ≡ true → IsRecordable (Push client index s source seq rows)
  push_recordable client index s source seq rows fits = (
    ltb-true _ _ (first_of_two _ _ (first_of_two _ _ (first_of_two _ _ (first_of_two _ _ fits)))),
    ltb-true _ _ (second_of_two _ _ (first_of_two _ _ fits)),
    leb-true _ _ (second_of_two _ _ (first_of_two _ _ (first_of_two _ _ fits))),
    All-from_recursion IsShort rows (rows_short (stream_schema catalog s) rows (columns_few s) (second_of_two _ _ fits)),
  )

  fitting_recordable : (e : Entry) → fits_entry catalog e ≡ true → IsRecordable e
  fitting_recordable (Call client index n args) fits = call_recordable client index n args (slice_get catalog.procedures n) refl fits
  fitting_recordable (Push client index s source seq rows) fits = push_recordable client index s source seq rows fits
  fitting_recordable (Install client index n text) fits = (ltb-true client 8 (first_of_two _ _ (first_of_two _ _ (first_of_two _ _ fits))), leb-true (length text) 1048576 (second_of_two _ _ (first_of_two _ _ fits)))
  fitting_recordable (Step n r) fits = tt

  -- an entry that has an outcome has a value
  applied : (o : Option Applied) (outcome : Outcome) → option_map (λ (a : Applied). a.outcome) o ≡ Some outcome → (a : Applied) × (o ≡ Some a)
  applied None outcome is = cc
  applied (Some a) outcome is = (a, refl)

  each_recordable : (db : Database) (list : List Listed) → Replays catalog db list → AllByRecursion IsRecordable (listed_entries list)
  each_recordable db [] replays = tt
  each_recordable db (l ∷ ls) replays =
      let value = applied (apply catalog db l.entry) l.outcome replays.0 in
      (fitting_recordable l.entry (applied_fits catalog db l.entry value.0 value.1), each_recordable (database_after catalog db l.entry) ls replays.1)

pub recordable : (catalog : Catalog) (db : Database) (list : List Listed) → Accepted catalog → Replays catalog db list → All IsRecordable (listed_entries list)
recordable catalog db list accepted replays = All-from_recursion IsRecordable (listed_entries list) (each_recordable catalog accepted db list replays)
