-- Expressions: their typed trees, their types, and the rules that they break.
use Rattle.std.specs.Prelude.{ℕ, ◌≡◌, Bool, true, List, [], ◌∷◌, ◌++◌, Option, Some, None, Result}
use Rattle.std.specs.Borrow.{Bor}
use Rattle.std.specs.List.{list_any}
use Rattle.std.specs.Option.{option_copied}
use Rattle.ss_value.specs.declared.value.Value.TheVariants as value
use Rattle.ss_sql_lex.specs.declared.tree.NameTree.{NameTree}
use Rattle.ss_sql_lex.specs.declared.tree.ColumnTree.{ColumnTree}
use Rattle.ss_sql_lex.specs.declared.tree.ExprTree.{ExprTree}
use Rattle.ss_sql_lex.specs.declared.tree.ExprTree.TheFolds.{fold-ExprTree}
use Rattle.ss_sql_lex.specs.declared.tree.ExprTree.TheOpen.{ExprTree-F}
use Rattle.ss_sql_trees.specs.declared.typed.BinaryOp.{BinaryOp}
use Rattle.ss_sql_trees.specs.declared.typed.BinaryOp.TheVariants.{Compare}
use Rattle.ss_sql_trees.specs.declared.typed.ColAt.{ColAt}
use Rattle.ss_sql_trees.specs.declared.typed.Expr.{Expr}
use Rattle.ss_sql_trees.specs.declared.typed.Expr.TheVariants.{Lit, Param, Col, Unary, Binary}
use Rattle.ss_sql_trees.specs.WellTyped.{is_column}
use Rattle.ss_sql_type.specs.declared.scope.TypeError.{TypeError}
use Rattle.ss_sql_type.specs.declared.scope.TypeError.TheVariants.{UnknownName, WrongType, NotAggregated}
use Rattle.ss_sql_type.specs.declared.expr.TypedExpr.{TypedExpr}
use Rattle.ss_sql_type.specs.declared.kinds.Needs.{Needs}
use Rattle.ss_sql_type.specs.declared.kinds.ValueKind.{ValueKind}
use Rattle.ss_sql_type.specs.declared.kinds.ValueKind.TheVariants.{Int, Text}
use Rattle.ss_sql_type.specs.Refusals.{fault_unless}
use Rattle.ss_sql_type.specs.Kinds.{may_be, may_compare, fits, sign_kind, gives}
use Rattle.ss_sql_type.specs.Names.{Reach, column_named, resolve, column_offset, kind_in, column_meant, name_faults, known_kind}

-- an expression: its typed tree, with 0 for what is not known; its type; its offset; and its faults
pub record Typed : Type 0 where
  pub expr : Expr
  pub kind : Option ValueKind
  pub at : ℕ
  pub faults : List TypeError

-- ---- leaves

-- a parameter by its position
abbrev pub typed_param : Reach → ℕ → NameTree → Option ℕ → Typed
typed_param reach at name (Some n) = record { expr = Param n; kind = kind_in reach.params n; at = at; faults = [] }
typed_param reach at name None = record { expr = Param 0; kind = None; at = at; faults = UnknownName name.at ∷ [] }

-- the expression of a column
abbrev pub column_expr : Option ColAt → Expr
column_expr (Some c) = Col c.source c.column
column_expr None = Col 0 0

-- whether a column is grouped, where it has to be: `grouped` are the columns that an item of an aggregated query may use
abbrev pub is_grouped : Option (List ColAt) → Option ColAt → Bool
is_grouped (Some grouped) (Some c) = list_any (λ g. is_column g c.source c.column) grouped
is_grouped _ _ = true

-- a column by its source's number and its position
abbrev pub typed_column : Reach → Option (List ColAt) → ℕ → ColumnTree → Result ColAt TypeError → Typed
typed_column reach grouped at tree found = record {
  expr = column_expr (column_meant found);
  kind = known_kind reach found;
  at = at;
  faults = name_faults found ++ fault_unless (is_grouped grouped (column_meant found)) (NotAggregated (column_offset tree));
}

-- ---- operators

-- an operator's side is of the type that it takes
abbrev pub side_faults : ValueKind → Typed → List TypeError
side_faults kind side = fault_unless (may_be kind side.kind) (WrongType side.at)

-- an operator's sides are both of the type that it takes; those of a comparison can be compared, which is reported at the right side
abbrev pub sides_faults : BinaryOp → Typed → Typed → List TypeError
sides_faults (Compare cmp) left right = fault_unless (may_compare left.kind right.kind) (WrongType right.at)
sides_faults op left right = side_faults (gives op) left ++ side_faults (gives op) right

-- ---- expressions

-- a node, by what its sides are
abbrev pub level : Reach → Option (List ColAt) → ExprTree-F Typed → Typed
level reach grouped (ExprTree-F.Number at number) = record { expr = Lit (value.Int number.value); kind = Some Int; at = at; faults = [] }
level reach grouped (ExprTree-F.Text at text) = record { expr = Lit (value.Text text.value); kind = Some Text; at = at; faults = [] }
level reach grouped (ExprTree-F.Param at name) = typed_param reach at name (column_named reach.params name.name)
level reach grouped (ExprTree-F.Column at column) = typed_column reach grouped at column (resolve reach column)
level reach grouped (ExprTree-F.Unary at op side) = record {
  expr = Unary op side.expr;
  kind = Some (sign_kind op);
  at = at;
  faults = side.faults ++ side_faults (sign_kind op) side;
}
level reach grouped (ExprTree-F.Binary at op left right) = record {
  expr = Binary op left.expr right.expr;
  kind = Some (gives op);
  at = at;
  faults = left.faults ++ (right.faults ++ sides_faults op left right);
}

-- an expression, where a column has to be one of `grouped`, if that is given
abbrev pub typed_expr : Reach → Option (List ColAt) → ExprTree → Typed
typed_expr reach grouped = fold-ExprTree Typed (level reach grouped)

-- the faults of an expression that has to be what its context needs: its own, and that it is not
abbrev pub faults_at : Needs → Typed → List TypeError
faults_at needs t = t.faults ++ fault_unless (fits needs t.kind) (WrongType t.at)

-- the faults of an expression's tree that has to be what its context needs
abbrev pub expr_faults : Reach → Option (List ColAt) → Needs → ExprTree → List TypeError
expr_faults reach grouped needs tree = faults_at needs (typed_expr reach grouped tree)

-- the grouped columns behind the program's reference, if there is one
abbrev pub grouping : Option (Bor (List ColAt)) → Option (List ColAt)
grouping grouped = option_copied grouped

-- an expression as the program's struct has it; its faults are kept apart
abbrev pub set_of : TypedExpr → Typed
set_of typed = record { expr = typed.expr; kind = typed.kind; at = typed.at; faults = [] }

-- the program's struct has an expression's tree, type and offset
abbrev pub Shows : TypedExpr → Typed → Type 0
Shows typed t = (typed.expr ≡ t.expr) × (typed.kind ≡ t.kind) × (typed.at ≡ t.at)
