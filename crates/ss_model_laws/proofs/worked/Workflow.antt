-- A catalogue whose workflow splits a batch in two and joins both again: it is accepted.
use Rattle.std.proofs.Common.{◌≡◌, ℕ, pos, codes, List, [], ◌∷◌, true, refl, Some, None}
use Rattle.ss_sql_trees.specs.declared.typed.Cmp.TheVariants.{Eq, Gt}
use Rattle.ss_sql_trees.specs.declared.typed.BinaryOp.TheVariants.{Add}
use Rattle.ss_sql_trees.specs.declared.typed.Expr.TheVariants.{Binary}
use Rattle.ss_sql_trees.specs.declared.typed.SelectItem.TheVariants.{Plain}
use Rattle.ss_sql_trees.specs.declared.typed.SourceId.TheVariants.{Batch as FromBatch}
use Rattle.ss_sql_trees.specs.declared.typed.Target.TheVariants.{Table as IntoTable}
use Rattle.ss_sql_trees.specs.declared.typed.Statement.TheVariants.{InsertQuery}
use Rattle.ss_model.specs.declared.catalog.Catalog.{Catalog}
use Rattle.ss_model.specs.declared.catalog.TableDef.{TableDef}
use Rattle.ss_model.specs.declared.catalog.StreamDef.{StreamDef}
use Rattle.ss_model.specs.declared.catalog.Procedure.{Procedure}
use Rattle.ss_model.specs.declared.catalog.ProcedureKind.TheVariants.{Border, Interior}
use Rattle.ss_model.specs.declared.catalog.Placement.TheVariants.{Part as PlacedAt}
use Rattle.ss_model.specs.declared.catalog.Touch.TheVariants.{Part}
use Rattle.ss_model.specs.declared.catalog.Step.TheVariants.{Sql, AbortIf, Emit}
use Rattle.ss_model.specs.Typing.{catalog_typed}
use Rattle.ss_model.specs.Accepted.{Accepted}
use Rattle.ss_model.proofs.CallerLemmas.{at_lit, at_col, at_binary, int_column, number, column, compares, select, count_is, Tested, tested_of, accepted_of}

abbrev pub joined : TableDef
joined = record { name = codes "joined"; schema = int_column (codes "x") ∷ int_column (codes "side") ∷ []; key = 0 ∷ []; placement = PlacedAt 0; indexes = [] }

abbrev stream_of : List ℕ → StreamDef
stream_of name = record { name = name; schema = int_column (codes "x") ∷ [] }

-- s to l and r
abbrev pub splits : Procedure
splits = record {
  name = codes "a";
  kind = Border;
  args = [];
  inputs = 0 ∷ [];
  inner = [];
  touch = Part 0;
  body =
      Emit 1 (select (Plain (column 0) ∷ []) (FromBatch 0) None)
      ∷ Emit 2 (select (Plain (column 0) ∷ []) (FromBatch 0) None)
      ∷ [];
}

-- l to pl, but for a 7
abbrev pub adds_ten : Procedure
adds_ten = record {
  name = codes "p";
  kind = Interior;
  args = [];
  inputs = 1 ∷ [];
  inner = [];
  touch = Part 0;
  body =
      AbortIf (count_is (FromBatch 0) (Some (compares (column 0) Eq (number 7))) Gt 0) (pos 3)
      ∷ Emit 3 (select (Plain (Binary Add (column 0) (number 10)) ∷ []) (FromBatch 0) None)
      ∷ [];
}

-- r to qr
abbrev pub adds_twenty : Procedure
adds_twenty = record {
  name = codes "q";
  kind = Interior;
  args = [];
  inputs = 2 ∷ [];
  inner = [];
  touch = Part 0;
  body = Emit 4 (select (Plain (Binary Add (column 0) (number 20)) ∷ []) (FromBatch 0) None) ∷ [];
}

-- pl and qr
abbrev pub joins : Procedure
joins = record {
  name = codes "j";
  kind = Interior;
  args = [];
  inputs = 3 ∷ 4 ∷ [];
  inner = [];
  touch = Part 0;
  body =
      Sql (InsertQuery (IntoTable 0) (select (Plain (column 0) ∷ Plain (number 1) ∷ []) (FromBatch 0) None))
      ∷ Sql (InsertQuery (IntoTable 0) (select (Plain (column 0) ∷ Plain (number 2) ∷ []) (FromBatch 1) None))
      ∷ [];
}

abbrev pub workflow : Catalog
workflow = record {
  tables = joined ∷ [];
  streams = stream_of (codes "s") ∷ stream_of (codes "l") ∷ stream_of (codes "r") ∷ stream_of (codes "pl") ∷ stream_of (codes "qr") ∷ [];
  windows = [];
  triggers = [];
  procedures = splits ∷ adds_ten ∷ adds_twenty ∷ joins ∷ [];
  own_texts = [];
  spares = [];
  text = [];
}

-- the border procedure, those behind it, and the last
abbrev pub level : ℕ → ℕ
level p = Rattle.std.proofs.Common.get_or (0 ∷ 1 ∷ 1 ∷ 2 ∷ []) p 0

tested : Tested workflow level
tested = tested_of workflow level refl

typed : catalog_typed workflow ≡ true
typed = simp (at_lit, at_col, at_binary) refl

pub accepted : Accepted workflow
accepted = accepted_of workflow level tested typed (
  record { local = λ args. record { steps = (((tt, tt), tt), (((tt, tt), tt), tt)); owned = λ w o. o; triggers = λ w o. cc }; limited = (tt, (tt, tt)) },
  (
    record { local = λ args. record { steps = ((tt, tt), (((tt, tt), tt), tt)); owned = λ w o. o; triggers = λ w o. cc }; limited = ((tt, tt), (tt, tt)) },
    (
      record { local = λ args. record { steps = (((tt, tt), tt), tt); owned = λ w o. o; triggers = λ w o. cc }; limited = (tt, tt) },
      (
        record { local = λ args. record { steps = (((tt, tt), (refl, tt)), (((tt, tt), (refl, tt)), tt)); owned = λ w o. o; triggers = λ w o. cc }; limited = ((tt, tt), ((tt, tt), tt)) },
        tt,
      ),
    ),
  ),
)
