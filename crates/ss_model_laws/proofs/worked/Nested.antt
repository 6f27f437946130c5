-- A catalogue whose triggers nest: a window of two batches feeds another one, which feeds a table. It is accepted.
use Rattle.std.proofs.Common.{◌≡◌, ◌<◌, ℕ, zero, suc, codes, List, [], ◌∷◌, true, refl, Some, None}
use Rattle.std.specs.List.{AllByRecursion, filter}
use Rattle.ss_value.specs.declared.Unit.TheVariants.{Batches as BatchesUnit}
use Rattle.ss_sql_trees.specs.declared.typed.SelectItem.TheVariants.{Plain}
use Rattle.ss_sql_trees.specs.declared.typed.Query.{Query}
use Rattle.ss_sql_trees.specs.declared.typed.SourceId.{SourceId}
use Rattle.ss_sql_trees.specs.declared.typed.SourceId.TheVariants.{Window as FromWindow, Batch as FromBatch}
use Rattle.ss_sql_trees.specs.declared.typed.Target.TheVariants.{Table as IntoTable, Window as IntoWindow}
use Rattle.ss_sql_trees.specs.declared.typed.Statement.TheVariants.{InsertQuery}
use Rattle.ss_model.specs.declared.catalog.Catalog.{Catalog}
use Rattle.ss_model.specs.declared.catalog.TableDef.{TableDef}
use Rattle.ss_model.specs.declared.catalog.StreamDef.{StreamDef}
use Rattle.ss_model.specs.declared.catalog.WindowDef.{WindowDef}
use Rattle.ss_model.specs.declared.catalog.TriggerDef.{TriggerDef}
use Rattle.ss_model.specs.declared.catalog.Procedure.{Procedure}
use Rattle.ss_model.specs.declared.catalog.ProcedureKind.TheVariants.{Border}
use Rattle.ss_model.specs.declared.catalog.Placement.TheVariants.{Part as PlacedAt}
use Rattle.ss_model.specs.declared.catalog.Touch.TheVariants.{Part}
use Rattle.ss_model.specs.declared.catalog.On.TheVariants.{Window as OnWindow}
use Rattle.ss_model.specs.declared.catalog.Step.TheVariants.{Sql}
use Rattle.ss_model.specs.Contents.{window_owner}
use Rattle.ss_model.specs.Statements.{is_on_window}
use Rattle.ss_model.specs.Claims.{TriggerClaim}
use Rattle.ss_model.specs.Partitions.{local_claims}
use Rattle.ss_model.specs.Typing.{catalog_typed}
use Rattle.ss_model.specs.Feeds.{Reaches, at_once}
use Rattle.ss_model.specs.Accepted.{Accepted, UsesItsOwn}
use Rattle.ss_model.proofs.CallerLemmas.{at_col, int_column, column, select, Tested, tested_of, accepted_of}

abbrev seen : TableDef
seen = record { name = codes "seen"; schema = int_column (codes "x") ∷ []; key = 0 ∷ []; placement = PlacedAt 0; indexes = [] }

abbrev incoming : StreamDef
incoming = record { name = codes "s"; schema = int_column (codes "x") ∷ [] }

abbrev window_of : List ℕ → WindowDef
window_of name = record { name = name; schema = int_column (codes "x") ∷ []; owner = 0; unit = BatchesUnit; size = 2; slide = 2 }

-- SELECT x FROM a source
abbrev all_of : SourceId → Query
all_of source = select (Plain (column 0) ∷ []) source None

abbrev of_two : TriggerDef
of_two = record { name = codes "two"; on = OnWindow 0; statements = InsertQuery (IntoWindow 1) (all_of (FromWindow 0)) ∷ [] }

abbrev of_four : TriggerDef
of_four = record { name = codes "four"; on = OnWindow 1; statements = InsertQuery (IntoTable 0) (all_of (FromWindow 1)) ∷ [] }

abbrev fills : Procedure
fills = record { name = codes "b"; kind = Border; args = []; inputs = 0 ∷ []; inner = []; touch = Part 0; body = Sql (InsertQuery (IntoWindow 0) (all_of (FromBatch 0))) ∷ [] }

abbrev pub nested : Catalog
nested = record {
  tables = seen ∷ [];
  streams = incoming ∷ [];
  windows = window_of (codes "w") ∷ window_of (codes "v") ∷ [];
  triggers = of_two ∷ of_four ∷ [];
  procedures = fills ∷ [];
  own_texts = [];
  spares = [];
  text = [];
}

tested : Tested nested (λ p. 0)
tested = tested_of nested (λ p. 0) refl

typed : catalog_typed nested ≡ true
typed = simp at_col

on_window : (w : ℕ) → window_owner nested w ≡ Some 0 → AllByRecursion (TriggerClaim (local_claims nested 0 fills)) (filter (λ t. is_on_window w t.on) nested.triggers)
on_window zero o = ((((refl, tt), refl), tt), tt)
on_window (suc zero) o = ((((refl, tt), (refl, tt)), tt), tt)
on_window (suc (suc w)) o = cc

fills_local : UsesItsOwn nested 0 fills
fills_local = record { local = λ args. record { steps = (((tt, tt), refl), tt); owned = λ w o. o; triggers = on_window }; limited = ((tt, tt), tt) }

pub accepted : Accepted nested
accepted = accepted_of nested (λ p. 0) tested typed (fills_local, tt)

-- the first feeds the second, which is later
reaches : Reaches nested 0 1
reaches = at_once refl

pub goes_forward : 0 < 1
goes_forward = accepted.structure.batches_forward 0 1 refl refl reaches
