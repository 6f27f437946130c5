-- Types of expressions. A name that is not known has none, and so it is never of the wrong type.
use Rattle.std.specs.Prelude.{◌&&◌, ◌||◌, Bool, true, false, List, [], ◌∷◌, Option, Some, None}
use Rattle.ss_value.specs.declared.schema.ColType.{ColType}
use Rattle.ss_value.specs.declared.schema.ColType.TheVariants as column
use Rattle.ss_sql_trees.specs.declared.typed.UnaryOp.{UnaryOp}
use Rattle.ss_sql_trees.specs.declared.typed.UnaryOp.TheVariants.{Not, Negate}
use Rattle.ss_sql_trees.specs.declared.typed.BinaryOp.{BinaryOp}
use Rattle.ss_sql_trees.specs.declared.typed.BinaryOp.TheVariants.{Or, And, Compare, Concat}
use Rattle.ss_value.specs.declared.schema.Column.{Column}
use Rattle.ss_sql_type.specs.declared.kinds.Needs.{Needs}
use Rattle.ss_sql_type.specs.declared.kinds.Needs.TheVariants.{Value, Only}
use Rattle.ss_sql_type.specs.declared.kinds.ValueKind.{ValueKind}
use Rattle.ss_sql_type.specs.declared.kinds.ValueKind.TheVariants.{Int, Text, Bool as Truth}

-- the type of a column's values
abbrev pub kind_of : ColType → ValueKind
kind_of column.Int = Int
kind_of column.Text = Text

-- whether an expression has this type, or none that is known
abbrev pub may_be : ValueKind → Option ValueKind → Bool
may_be kind None = true
may_be Int (Some Int) = true
may_be Text (Some Text) = true
may_be Truth (Some Truth) = true
may_be _ _ = false

-- whether an expression is an Int or a Text, as items need, or has no type that is known
abbrev pub may_be_value : Option ValueKind → Bool
may_be_value kind = may_be Int kind || may_be Text kind

-- whether two sides may be two Ints or two Texts, as a comparison takes
abbrev pub may_compare : Option ValueKind → Option ValueKind → Bool
may_compare left right = (may_be Int left && may_be Int right) || (may_be Text left && may_be Text right)

-- whether an expression is what its context needs: an Int or a Text, or one type and no other
abbrev pub fits : Needs → Option ValueKind → Bool
fits Value kind = may_be_value kind
fits (Only wanted) kind = may_be wanted kind

-- what the first of these columns needs, and any value where there is none
abbrev pub first_needs : List Column → Needs
first_needs [] = Value
first_needs (c ∷ cs) = Only (kind_of c.kind)

-- the columns behind the first
abbrev pub others : List Column → List Column
others [] = []
others (c ∷ cs) = cs

-- NOT takes and gives Bool, a minus sign Int
abbrev pub sign_kind : UnaryOp → ValueKind
sign_kind Not = Truth
sign_kind Negate = Int

-- what an operator between two sides gives, and takes unless it compares
abbrev pub gives : BinaryOp → ValueKind
gives Or = Truth
gives And = Truth
gives (Compare cmp) = Truth
gives Concat = Text
gives _ = Int

-- MIN and MAX give the type that they take, which is Int or Text
abbrev pub value_kind : Option ValueKind → Option ValueKind
value_kind (Some Truth) = None
value_kind kind = kind
