-- The catalogue of a voting show: votes are validated, a leaderboard is kept with a trigger on a window of the last four
-- votes, and a contestant is removed. It is accepted.
use Rattle.std.proofs.Common.{◌≡◌, ◌==◌, ℕ, zero, suc, pos, codes, List, [], ◌∷◌, get_or, true, false, refl, ap, unwrap_or, Some, None}
use Rattle.std.specs.List.{AllByRecursion, filter}
use Rattle.ss_value.specs.declared.Unit.TheVariants.{Rows as RowsUnit}
use Rattle.ss_sql_trees.specs.declared.typed.Cmp.TheVariants.{Eq, Ne, Gt}
use Rattle.ss_sql_trees.specs.declared.typed.BinaryOp.TheVariants.{And, Add, Sub, Rem}
use Rattle.ss_sql_trees.specs.declared.typed.Expr.{Expr}
use Rattle.ss_sql_trees.specs.declared.typed.Expr.TheVariants.{Param, Col, Binary}
use Rattle.ss_sql_trees.specs.declared.typed.SelectItem.TheVariants.{Count, Plain}
use Rattle.ss_sql_trees.specs.declared.typed.ColAt.{ColAt}
use Rattle.ss_sql_trees.specs.declared.typed.Joined.{Joined}
use Rattle.ss_sql_trees.specs.declared.typed.OrderBy.{OrderBy}
use Rattle.ss_sql_trees.specs.declared.typed.Query.{Query}
use Rattle.ss_sql_trees.specs.declared.typed.SourceId.TheVariants.{Table as FromTable, Window as FromWindow, Batch as FromBatch}
use Rattle.ss_sql_trees.specs.declared.typed.Target.TheVariants.{Table as IntoTable, Window as IntoWindow}
use Rattle.ss_sql_trees.specs.declared.typed.Statement.TheVariants.{InsertValues, InsertQuery, Update, Delete}
use Rattle.ss_model.specs.declared.catalog.Catalog.{Catalog}
use Rattle.ss_model.specs.declared.catalog.TableDef.{TableDef}
use Rattle.ss_model.specs.declared.catalog.StreamDef.{StreamDef}
use Rattle.ss_model.specs.declared.catalog.WindowDef.{WindowDef}
use Rattle.ss_model.specs.declared.catalog.TriggerDef.{TriggerDef}
use Rattle.ss_model.specs.declared.catalog.Procedure.{Procedure}
use Rattle.ss_model.specs.declared.catalog.ProcedureKind.TheVariants.{Call as CallKind, Border, Interior}
use Rattle.ss_model.specs.declared.catalog.Placement.TheVariants.{Part as PlacedAt}
use Rattle.ss_model.specs.declared.catalog.Touch.TheVariants.{Part}
use Rattle.ss_model.specs.declared.catalog.On.TheVariants.{Window as OnWindow}
use Rattle.ss_model.specs.declared.catalog.Inner.TheVariants.{Sql as InnerSql, AbortIf as InnerAbortIf}
use Rattle.ss_model.specs.declared.catalog.Step.TheVariants.{Sql, ForEach, Emit}
use Rattle.ss_model.specs.Contents.{window_owner}
use Rattle.ss_model.specs.Statements.{is_on_window}
use Rattle.ss_model.specs.Claims.{TriggerClaim}
use Rattle.ss_model.specs.Partitions.{local_claims}
use Rattle.ss_model.specs.Typing.{catalog_typed}
use Rattle.ss_model.specs.Accepted.{Accepted, UsesItsOwn}
use Rattle.ss_model.proofs.CallerLemmas.{at_lit, at_param, at_col, at_binary, int_column, text_column, number, text, column, compares, select, count_is, set_to, Tested, tested_of, accepted_of}

-- ---- tables, streams and the window

abbrev pub contestants : TableDef
contestants = record { name = codes "contestants"; schema = int_column (codes "id") ∷ int_column (codes "show") ∷ text_column (codes "name") ∷ int_column (codes "n") ∷ []; key = 0 ∷ []; placement = PlacedAt 0; indexes = [] }

abbrev votes : TableDef
votes = record { name = codes "votes"; schema = int_column (codes "phone") ∷ int_column (codes "contestant") ∷ []; key = 0 ∷ []; placement = PlacedAt 0; indexes = (1 ∷ []) ∷ [] }

abbrev shows : TableDef
shows = record { name = codes "show"; schema = int_column (codes "id") ∷ int_column (codes "every") ∷ int_column (codes "n") ∷ int_column (codes "live") ∷ int_column (codes "due") ∷ []; key = 0 ∷ []; placement = PlacedAt 0; indexes = [] }

abbrev pub board : TableDef
board = record { name = codes "board"; schema = text_column (codes "kind") ∷ int_column (codes "id") ∷ int_column (codes "n") ∷ []; key = 0 ∷ 1 ∷ []; placement = PlacedAt 0; indexes = [] }

abbrev votes_in : StreamDef
votes_in = record { name = codes "votes_in"; schema = int_column (codes "phone") ∷ int_column (codes "contestant") ∷ [] }

abbrev recorded : StreamDef
recorded = record { name = codes "recorded"; schema = int_column (codes "contestant") ∷ [] }

abbrev doomed : StreamDef
doomed = record { name = codes "doomed"; schema = int_column (codes "n") ∷ int_column (codes "id") ∷ [] }

abbrev trend : WindowDef
trend = record { name = codes "trend"; schema = int_column (codes "x") ∷ []; owner = 3; unit = RowsUnit; size = 4; slide = 1 }

-- ---- SQL

-- one item up or down
abbrev up : ℕ → OrderBy
up n = record { item = n; descending = false }

abbrev down : ℕ → OrderBy
down n = record { item = n; descending = true }

-- ORDER BY these LIMIT n
abbrev first_by : List OrderBy → ℕ → Query → Query
first_by order n q = record q { order = order; limit = Some n }

abbrev column_at : ℕ → ℕ → ColAt
column_at source column = record { source = source; column = column }

-- SELECT 'trending', x, COUNT(*) FROM trend GROUP BY x ORDER BY 3 DESC, 2 LIMIT 3
abbrev trending_three : Query
trending_three = first_by (down 3 ∷ up 2 ∷ []) 3 (record (select (Plain (text (codes "trending")) ∷ Plain (column 0) ∷ Count ∷ []) (FromWindow 0) None) { groups = column_at 0 0 ∷ [] })

-- SELECT 'top', id, n FROM contestants ORDER BY 3 DESC, 2 LIMIT 3
abbrev pub top_three : Query
top_three = first_by (down 3 ∷ up 2 ∷ []) 3 (select (Plain (text (codes "top")) ∷ Plain (column 0) ∷ Plain (column 3) ∷ []) (FromTable 0) None)

-- SELECT 'bottom', id, n FROM contestants ORDER BY 3, 2 LIMIT 3
abbrev bottom_three : Query
bottom_three = first_by (up 3 ∷ up 2 ∷ []) 3 (select (Plain (text (codes "bottom")) ∷ Plain (column 0) ∷ Plain (column 3) ∷ []) (FromTable 0) None)

-- contestants JOIN show ON contestants.show = show.id
abbrev with_show : Joined
with_show = record { source = FromTable 2; left = column_at 0 1; right = column_at 1 0 }

-- SELECT contestants.n, contestants.id FROM contestants JOIN show ON contestants.show = show.id
-- WHERE show.due = 0 AND show.live > 1 ORDER BY 1, 2 LIMIT 1
abbrev doomed_one : Query
doomed_one =
    first_by (up 1 ∷ up 2 ∷ []) 1
    (record (select (Plain (column 3) ∷ Plain (column 0) ∷ []) (FromTable 0) (Some (Binary And (compares (Col 1 4) Eq (number 0)) (compares (Col 1 3) Gt (number 1))))) { joined = Some with_show })

-- n + 1
abbrev one_more : ℕ → Expr
one_more c = Binary Add (column c) (number 1)

-- WHERE a column has this value
abbrev where_is : ℕ → Expr → Expr
where_is c value = compares (column c) Eq value

-- ---- the trigger and the procedures

abbrev trending : TriggerDef
trending = record {
  name = codes "trending";
  on = OnWindow 0;
  statements = Delete 3 (Some (where_is 0 (text (codes "trending")))) ∷ InsertQuery (IntoTable 3) trending_three ∷ [];
}

abbrev pub begins_show : Procedure
begins_show = record {
  name = codes "begin_show";
  kind = CallKind;
  args = int_column (codes "every") ∷ [];
  inputs = [];
  inner = [];
  touch = Part 0;
  body = Sql (InsertValues (IntoTable 2) (number 1 ∷ Param 0 ∷ number 0 ∷ number 0 ∷ number 1 ∷ [])) ∷ [];
}

abbrev pub adds : Procedure
adds = record {
  name = codes "add";
  kind = CallKind;
  args = int_column (codes "id") ∷ text_column (codes "name") ∷ [];
  inputs = [];
  inner = [];
  touch = Part 0;
  body =
      Sql (InsertValues (IntoTable 0) (Param 0 ∷ number 1 ∷ Param 1 ∷ number 0 ∷ []))
      ∷ Sql (Update 2 (set_to 3 (one_more 3) ∷ []) (Some (where_is 0 (number 1))))
      ∷ [];
}

abbrev pub validates : Procedure
validates = record {
  name = codes "validate";
  kind = Border;
  args = [];
  inputs = 0 ∷ [];
  inner = [];
  touch = Part 0;
  body =
      ForEach 0 (
      InnerAbortIf (count_is (FromTable 0) (Some (where_is 0 (Param 1))) Eq 0) (pos 1)
      ∷ InnerAbortIf (count_is (FromTable 1) (Some (where_is 0 (Param 0))) Gt 0) (pos 2)
      ∷ InnerSql (InsertValues (IntoTable 1) (Param 0 ∷ Param 1 ∷ []))
      ∷ InnerSql (Update 0 (set_to 3 (one_more 3) ∷ []) (Some (where_is 0 (Param 1))))
      ∷ [])
      ∷ Emit 1 (select (Plain (column 1) ∷ []) (FromBatch 0) None)
      ∷ [];
}

abbrev pub leads : Procedure
leads = record {
  name = codes "leaderboard";
  kind = Interior;
  args = [];
  inputs = 1 ∷ [];
  inner = [];
  touch = Part 0;
  body =
      Sql (Update 2 (set_to 4 (number 1) ∷ []) None)
      ∷ ForEach 0 (InnerSql (Update 2 (set_to 2 (one_more 2) ∷ set_to 4 (Binary Rem (one_more 2) (column 1)) ∷ []) (Some (where_is 0 (number 1)))) ∷ [])
      ∷ Sql (InsertQuery (IntoWindow 0) (select (Plain (column 0) ∷ []) (FromBatch 0) None))
      ∷ Sql (Delete 3 (Some (compares (column 0) Ne (text (codes "trending")))))
      ∷ Sql (InsertQuery (IntoTable 3) top_three)
      ∷ Sql (InsertQuery (IntoTable 3) bottom_three)
      ∷ Emit 2 doomed_one
      ∷ [];
}

abbrev removes : Procedure
removes = record {
  name = codes "remove";
  kind = Interior;
  args = [];
  inputs = 2 ∷ [];
  inner = [];
  touch = Part 0;
  body =
      ForEach 0 (
      InnerSql (Delete 1 (Some (where_is 1 (Param 1))))
      ∷ InnerSql (Delete 0 (Some (where_is 0 (Param 1))))
      ∷ InnerSql (Delete 3 (Some (where_is 1 (Param 1))))
      ∷ InnerSql (Update 2 (set_to 3 (Binary Sub (column 3) (number 1)) ∷ []) (Some (where_is 0 (number 1))))
      ∷ [])
      ∷ [];
}

abbrev pub voter : Catalog
voter = record {
  tables = contestants ∷ votes ∷ shows ∷ board ∷ [];
  streams = votes_in ∷ recorded ∷ doomed ∷ [];
  windows = trend ∷ [];
  triggers = trending ∷ [];
  procedures = begins_show ∷ adds ∷ validates ∷ leads ∷ removes ∷ [];
  own_texts = [];
  spares = [];
  text = [];
}

-- ---- it is accepted

-- validate, leaderboard, remove
abbrev level : ℕ → ℕ
level p = get_or (0 ∷ 0 ∷ 0 ∷ 1 ∷ 2 ∷ []) p 0

tested : Tested voter level
tested = tested_of voter level refl

typed : catalog_typed voter ≡ true
typed = simp (at_lit, at_param, at_col, at_binary)

-- the window is the leaderboard's
elsewhere : (q : ℕ) (C : Type 0) → (3 == q) ≡ false → (w : ℕ) → window_owner voter w ≡ Some q → C
elsewhere q C n zero o = let same : 3 ≡ q = ap (λ x. unwrap_or x q) o in let e : (3 == 3) ≡ (3 == q) = ap (λ q. 3 == q) same in cc
elsewhere q C n (suc w) o = cc

begins_local : UsesItsOwn voter 0 begins_show
begins_local = record { local = λ args. record { steps = ((refl, tt), tt); owned = λ w o. o; triggers = λ w o. elsewhere 0 _ refl w o }; limited = (tt, tt) }

adds_local : UsesItsOwn voter 1 adds
adds_local = record { local = λ args. record { steps = ((refl, tt), (refl, tt)); owned = λ w o. o; triggers = λ w o. elsewhere 1 _ refl w o }; limited = (tt, (tt, tt)) }

validates_local : UsesItsOwn voter 2 validates
validates_local = record {
  local = λ args. record {
    steps = (((refl, tt), ((refl, tt), ((λ row. (refl, tt)), ((λ row. refl), tt)))), (((tt, tt), tt), tt));
    owned = λ w o. o;
    triggers = λ w o. elsewhere 2 _ refl w o;
  };
  limited = (tt, (tt, tt));
}

on_trend : (w : ℕ) → window_owner voter w ≡ Some 3 → AllByRecursion (TriggerClaim (local_claims voter 3 leads)) (filter (λ t. is_on_window w t.on) voter.triggers)
on_trend zero o = ((refl, (((refl, tt), (refl, tt)), tt)), tt)
on_trend (suc w) o = cc

leads_local : UsesItsOwn voter 3 leads
leads_local = record {
  local = λ args. record {
    steps = (refl, (((λ row. refl), tt), (((tt, tt), refl), (refl, (((refl, tt), (refl, tt)), (((refl, tt), (refl, tt)), (((refl, refl), tt), tt)))))));
    owned = λ w o. o;
    triggers = on_trend;
  };
  limited = (tt, (tt, ((tt, tt), (tt, ((tt, tt), ((tt, tt), (tt, tt)))))));
}

removes_local : UsesItsOwn voter 4 removes
removes_local = record {
  local = λ args. record {
    steps = (((λ row. refl), ((λ row. refl), ((λ row. refl), ((λ row. refl), tt)))), tt);
    owned = λ w o. o;
    triggers = λ w o. elsewhere 4 _ refl w o;
  };
  limited = (tt, tt);
}

pub accepted : Accepted voter
accepted = accepted_of voter level tested typed (begins_local, (adds_local, (validates_local, (leads_local, (removes_local, tt)))))
