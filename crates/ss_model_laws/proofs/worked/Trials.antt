-- A catalogue with one table, a procedure that puts a row, one that puts two and aborts where the table has more, and one
-- that returns a sum: it is accepted.
use Rattle.std.proofs.Common.{◌≡◌, pos, codes, [], ◌∷◌, true, refl, Some, None}
use Rattle.ss_sql_trees.specs.declared.typed.Cmp.TheVariants.{Eq, Gt}
use Rattle.ss_sql_trees.specs.declared.typed.BinaryOp.TheVariants.{Add}
use Rattle.ss_sql_trees.specs.declared.typed.Expr.TheVariants.{Param, Binary}
use Rattle.ss_sql_trees.specs.declared.typed.SelectItem.TheVariants.{Sum}
use Rattle.ss_sql_trees.specs.declared.typed.SourceId.TheVariants.{Table as FromTable}
use Rattle.ss_sql_trees.specs.declared.typed.Target.TheVariants.{Table as IntoTable}
use Rattle.ss_sql_trees.specs.declared.typed.Statement.TheVariants.{InsertValues, Delete}
use Rattle.ss_model.specs.declared.catalog.Catalog.{Catalog}
use Rattle.ss_model.specs.declared.catalog.TableDef.{TableDef}
use Rattle.ss_model.specs.declared.catalog.Procedure.{Procedure}
use Rattle.ss_model.specs.declared.catalog.ProcedureKind.TheVariants.{Call as CallKind}
use Rattle.ss_model.specs.declared.catalog.Placement.TheVariants.{Part as PlacedAt}
use Rattle.ss_model.specs.declared.catalog.Touch.TheVariants.{Part}
use Rattle.ss_model.specs.declared.catalog.Step.TheVariants.{Sql, AbortIf, Return}
use Rattle.ss_model.specs.Typing.{catalog_typed}
use Rattle.ss_model.specs.Accepted.{Accepted, UsesItsOwn}
use Rattle.ss_model.proofs.CallerLemmas.{at_lit, at_param, at_col, at_binary, int_column, number, column, compares, select, count_is, Tested, tested_of, accepted_of}

abbrev held : TableDef
held = record { name = codes "t"; schema = int_column (codes "k") ∷ int_column (codes "v") ∷ []; key = 0 ∷ []; placement = PlacedAt 0; indexes = [] }

abbrev puts : Procedure
puts = record {
  name = codes "put";
  kind = CallKind;
  args = int_column (codes "k") ∷ int_column (codes "v") ∷ [];
  inputs = [];
  inner = [];
  touch = Part 0;
  body = Sql (InsertValues (IntoTable 0) (Param 0 ∷ Param 1 ∷ [])) ∷ [];
}

abbrev tries : Procedure
tries = record {
  name = codes "trial";
  kind = CallKind;
  args = int_column (codes "a") ∷ [];
  inputs = [];
  inner = [];
  touch = Part 0;
  body =
      Sql (InsertValues (IntoTable 0) (Param 0 ∷ number 1 ∷ []))
      ∷ Sql (InsertValues (IntoTable 0) (Binary Add (Param 0) (number 1) ∷ number 2 ∷ []))
      ∷ Sql (Delete 0 (Some (compares (column 0) Eq (number 0))))
      ∷ AbortIf (count_is (FromTable 0) None Gt 2) (pos 7)
      ∷ [];
}

abbrev totals : Procedure
totals = record {
  name = codes "total";
  kind = CallKind;
  args = [];
  inputs = [];
  inner = [];
  touch = Part 0;
  body = Return (select (Sum (column 1) ∷ []) (FromTable 0) None) ∷ [];
}

abbrev pub trials : Catalog
trials = record { tables = held ∷ []; streams = []; windows = []; triggers = []; procedures = puts ∷ tries ∷ totals ∷ []; own_texts = []; spares = []; text = [] }

tested : Tested trials (λ p. 0)
tested = tested_of trials (λ p. 0) refl

typed : catalog_typed trials ≡ true
typed = simp (at_lit, at_param, at_col, at_binary)

puts_local : UsesItsOwn trials 0 puts
puts_local = record { local = λ args. record { steps = ((refl, tt), tt); owned = λ w o. o; triggers = λ w o. cc }; limited = (tt, tt) }

tries_local : UsesItsOwn trials 1 tries
tries_local = record {
  local = λ args. record { steps = ((refl, tt), ((refl, tt), (refl, ((refl, tt), tt)))); owned = λ w o. o; triggers = λ w o. cc };
  limited = (tt, (tt, (tt, ((tt, tt), tt))));
}

totals_local : UsesItsOwn trials 2 totals
totals_local = record { local = λ args. record { steps = ((refl, tt), tt); owned = λ w o. o; triggers = λ w o. cc }; limited = ((tt, tt), tt) }

pub accepted : Accepted trials
accepted = accepted_of trials (λ p. 0) tested typed (puts_local, (tries_local, (totals_local, tt)))
