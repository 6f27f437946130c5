-- An expression without faults is well typed.
use Rattle.std.proofs.Common.{◌≡◌, ℕ, refl, sym, ap, ◌∙◌, subst, Bool, true, false, List, [], ◌++◌, Option, Some, None, get_or, ◌⊎◌, inl, inr}
use Rattle.std.specs.Prelude.{slice_get, Result, Ok, Err, cond}
use Rattle.std.specs.Option.{option_map, ok_or}
use Rattle.ss_value.specs.declared.value.Value.{Value}
use Rattle.ss_value.specs.declared.value.Value.TheVariants as value
use Rattle.ss_value.specs.declared.schema.ColType.{ColType}
use Rattle.ss_value.specs.declared.schema.ColType.TheVariants as column
use Rattle.ss_value.specs.declared.schema.Column.{Column}
use Rattle.ss_sql_trees.specs.declared.typed.ColAt.{ColAt}
use Rattle.ss_sql_trees.specs.declared.typed.BinaryOp.{BinaryOp}
use Rattle.ss_sql_trees.specs.declared.typed.BinaryOp.TheVariants.{Or, And, Compare, Add, Sub, Concat, Mul, Div, Rem}
use Rattle.ss_sql_trees.specs.declared.typed.Cmp.{Cmp}
use Rattle.ss_sql_trees.specs.declared.typed.UnaryOp.{UnaryOp}
use Rattle.ss_sql_trees.specs.declared.typed.UnaryOp.TheVariants.{Not, Negate}
use Rattle.ss_sql_trees.specs.declared.typed.Expr.{Expr}
use Rattle.ss_sql_trees.specs.declared.typed.Expr.TheVariants as typed
use Rattle.ss_sql_trees.specs.declared.typed.Expr.TheFolds.{fold-Expr, fold-roll-Expr}
use Rattle.ss_sql_trees.specs.declared.typed.Expr.TheOpen.{Expr-F}
use Rattle.ss_sql_lex.specs.declared.tree.NameTree.{NameTree}
use Rattle.ss_sql_lex.specs.declared.tree.ColumnTree.{ColumnTree}
use Rattle.ss_sql_lex.specs.declared.tree.ExprTree.{ExprTree, map-ExprTree, roll-ExprTree}
use Rattle.ss_sql_lex.specs.declared.tree.ExprTree.TheFolds.{fold-roll-ExprTree, ind-ExprTree}
use Rattle.ss_sql_lex.specs.declared.tree.ExprTree.TheOpen.{ExprTree-F}
use Rattle.ss_sql_trees.specs.WellTyped.{ExprType, are_comparable, column_type, schema_type, typed_when, level_type, expr_type, level_grouped}
use Rattle.ss_sql_trees.specs.WellTyped.ExprType.{IntType, TextType, BoolType}
use Rattle.ss_sql_type.specs.declared.scope.TypeError.{TypeError}
use Rattle.ss_sql_type.specs.declared.kinds.ValueKind.{ValueKind}
use Rattle.ss_sql_type.specs.declared.kinds.ValueKind.TheVariants.{Int, Text, Bool as Truth}
use Rattle.ss_sql_type.specs.Refusals.{fault_unless}
use Rattle.ss_sql_type.specs.Kinds.{kind_of, may_be, may_compare, sign_kind, gives}
use Rattle.ss_sql_type.specs.declared.scope.TypeError.TheVariants.{UnknownName, WrongType, NotAggregated}
use Rattle.ss_sql_type.specs.Names.{Reach, one_of, column_in, resolve_name, is_source, column_named, columns_of, resolve, column_of, kind_in, source_columns, column_offset}
use Rattle.ss_sql_type.specs.Expressions.{Typed, typed_param, typed_column, is_grouped, side_faults, sides_faults, level, typed_expr}
use Rattle.std.proofs.lemmas.List.Quantifiers.{position-Some}
use Rattle.std.proofs.lemmas.Option.{slice_get-get_or}
use Rattle.ss_lemmas.proofs.Counts.{empty_left, empty_right}

-- ---- lists without faults

pub no_fault : (b : Bool) (f : TypeError) → fault_unless b f ≡ [] → b ≡ true
no_fault true f e = refl
no_fault false f e = absurd cc

-- ---- types

-- the type of this name
abbrev pub type_of : ValueKind → ExprType
type_of Int = IntType
type_of Text = TextType
type_of Truth = BoolType

column_types : (c : ColType) → column_type c ≡ type_of (kind_of c)
column_types column.Int = refl
column_types column.Text = refl

-- what may be of a type is of that type, where it has one
pub same_kind : (k l : ValueKind) → may_be k (Some l) ≡ true → k ≡ l
same_kind Int Int e = refl
same_kind Int Text e = absurd cc
same_kind Int Truth e = absurd cc
same_kind Text Int e = absurd cc
same_kind Text Text e = refl
same_kind Text Truth e = absurd cc
same_kind Truth Int e = absurd cc
same_kind Truth Text e = absurd cc
same_kind Truth Truth e = refl

pub compared : (k l : ValueKind) → may_compare (Some k) (Some l) ≡ true → are_comparable (Some (type_of k)) (Some (type_of l)) ≡ true
compared Int Int e = refl
compared Int Text e = absurd cc
compared Int Truth e = absurd cc
compared Text Int e = absurd cc
compared Text Text e = refl
compared Text Truth e = absurd cc
compared Truth Int e = absurd cc
compared Truth Text e = absurd cc
compared Truth Truth e = absurd cc

-- ---- columns

-- a column with its type
pub record HasKind (columns : List Column) (n : ℕ) : Type 0 where
  pub kind : ValueKind
  pub known : kind_in columns n ≡ Some kind
  pub typed : schema_type columns n ≡ Some (type_of kind)

at_some : (columns : List Column) (n : ℕ) (c : Column) → slice_get columns n ≡ Some c → HasKind columns n
at_some columns n c e = record {
  kind = kind_of c.kind;
  known = ap (option_map (λ (d : Column). kind_of d.kind)) e;
  typed = ap (option_map (λ (d : Column). column_type d.kind)) e ∙ ap Some (column_types c.kind);
}

no_column : Column
no_column = record { name = []; kind = column.Int }

pub named_kind : (columns : List Column) (name : List ℕ) (n : ℕ) → column_named columns name ≡ Some n → HasKind columns n
named_kind columns name n e =
    let found = position-Some _ columns n no_column e in
    at_some columns n (get_or columns n no_column) (slice_get-get_or columns n no_column found.0)

-- ---- what a name refers to

ok_is : {E : Type 0} (a b : ColAt) → ◌≡◌ {A = Result ColAt E} (Ok a) (Ok b) → a ≡ b
ok_is a b e = cc

-- the column is in the source with its number
pub record InSource (reach : Reach) (c : ColAt) : Type 0 where
  pub has : HasKind (source_columns reach c.source) c.column
  pub which : (c.source ≡ 0) ⊎ (c.source ≡ 1)

in_first : (reach : Reach) (n : ℕ) (name : List ℕ) → column_named (columns_of reach.first) name ≡ Some n → InSource reach (column_of 0 n)
in_first reach n name e = record { has = named_kind (columns_of reach.first) name n e; which = inl refl }

in_second : (reach : Reach) (n : ℕ) (name : List ℕ) → column_named (columns_of reach.second) name ≡ Some n → InSource reach (column_of 1 n)
in_second reach n name e = record { has = named_kind (columns_of reach.second) name n e; which = inr refl }

one_sound : (reach : Reach) (at : ℕ) (name : List ℕ) (a b : Option ℕ) (c : ColAt) → column_named (columns_of reach.first) name ≡ a → column_named (columns_of reach.second) name ≡ b → one_of at a b ≡ Ok c → InSource reach c
one_sound reach at name (Some n) None c ea eb e = subst (InSource reach) (ok_is (column_of 0 n) c e) (in_first reach n name ea)
one_sound reach at name None (Some n) c ea eb e = subst (InSource reach) (ok_is (column_of 1 n) c e) (in_second reach n name eb)
one_sound reach at name (Some n) (Some m) c ea eb e = absurd cc
one_sound reach at name None None c ea eb e = absurd cc

first_sound : (reach : Reach) (name : NameTree) (a : Option ℕ) (c : ColAt) → column_named (columns_of reach.first) name.name ≡ a → ok_or (option_map (column_of 0) a) (UnknownName name.at) ≡ Ok c → InSource reach c
first_sound reach name (Some n) c ea e = subst (InSource reach) (ok_is (column_of 0 n) c e) (in_first reach n name.name ea)
first_sound reach name None c ea e = absurd cc

second_sound : (reach : Reach) (name : NameTree) (a : Option ℕ) (c : ColAt) → column_named (columns_of reach.second) name.name ≡ a → ok_or (option_map (column_of 1) a) (UnknownName name.at) ≡ Ok c → InSource reach c
second_sound reach name (Some n) c ea e = subst (InSource reach) (ok_is (column_of 1 n) c e) (in_second reach n name.name ea)
second_sound reach name None c ea e = absurd cc

dotted_sound : (reach : Reach) (source name : NameTree) (a b : Bool) (c : ColAt) → cond a (column_in 0 (columns_of reach.first) name) (cond b (column_in 1 (columns_of reach.second) name) (Err (UnknownName source.at))) ≡ Ok c → InSource reach c
dotted_sound reach source name true b c e = first_sound reach name (column_named (columns_of reach.first) name.name) c refl e
dotted_sound reach source name false true c e = second_sound reach name (column_named (columns_of reach.second) name.name) c refl e
dotted_sound reach source name false false c e = absurd cc

name_sound : (reach : Reach) (source : Option NameTree) (name : NameTree) (c : ColAt) → resolve_name reach source name ≡ Ok c → InSource reach c
name_sound reach None name c e = one_sound reach name.at name.name (column_named (columns_of reach.first) name.name) (column_named (columns_of reach.second) name.name) c refl refl e
name_sound reach (Some source) name c e = dotted_sound reach source name (is_source reach.first source.name) (is_source reach.second source.name) c e

pub resolved : (reach : Reach) (tree : ColumnTree) (c : ColAt) → resolve reach tree ≡ Ok c → InSource reach c
resolved reach tree c e = name_sound reach tree.source tree.name c e

-- ---- expressions

-- these lists are the columns of what may be named
pub record Covers (sources : List (List Column)) (reach : Reach) : Type 0 where
  pub source : (s : ℕ) → (s ≡ 0) ⊎ (s ≡ 1) → get_or sources s [] ≡ source_columns reach s

-- every column is grouped, where it has to be
abbrev pub all_grouped : Option (List ColAt) → Expr → Bool
all_grouped None e = true
all_grouped (Some groups) e = fold-Expr Bool (level_grouped groups) e

-- a typed expression that has the type that it is said to have
pub record Sound (sources : List (List Column)) (params : List Column) (grouped : Option (List ColAt)) (t : Typed) : Type 0 where
  pub kind : ValueKind
  pub known : t.kind ≡ Some kind
  pub typed : expr_type sources params t.expr ≡ Some (type_of kind)
  pub all : all_grouped grouped t.expr ≡ true

-- ---- what a fold gives at a node

module _ (A : Type 0) (step : Expr-F A → A) where
  fold_lit : (v : Value) → fold-Expr A step (typed.Lit v) ≡ step (Expr-F.Lit v)
  fold_lit v = ap (fold-Expr A step) (sym (typed.rolls-Lit v)) ∙ fold-roll-Expr A step (Expr-F.Lit v)

  fold_param : (n : ℕ) → fold-Expr A step (typed.Param n) ≡ step (Expr-F.Param n)
  fold_param n = ap (fold-Expr A step) (sym (typed.rolls-Param n)) ∙ fold-roll-Expr A step (Expr-F.Param n)

  fold_col : (s c : ℕ) → fold-Expr A step (typed.Col s c) ≡ step (Expr-F.Col s c)
  fold_col s c = ap (fold-Expr A step) (sym (typed.rolls-Col s c)) ∙ fold-roll-Expr A step (Expr-F.Col s c)

  fold_unary : (op : UnaryOp) (side : Expr) → fold-Expr A step (typed.Unary op side) ≡ step (Expr-F.Unary op (fold-Expr A step side))
  fold_unary op side = ap (fold-Expr A step) (sym (typed.rolls-Unary op side)) ∙ fold-roll-Expr A step (Expr-F.Unary op side)

  fold_binary : (op : BinaryOp) (left right : Expr) → fold-Expr A step (typed.Binary op left right) ≡ step (Expr-F.Binary op (fold-Expr A step left) (fold-Expr A step right))
  fold_binary op left right = ap (fold-Expr A step) (sym (typed.rolls-Binary op left right)) ∙ fold-roll-Expr A step (Expr-F.Binary op left right)

grouped_lit : (g : Option (List ColAt)) (v : Value) → all_grouped g (typed.Lit v) ≡ true
grouped_lit None v = refl
grouped_lit (Some g) v = fold_lit Bool (level_grouped g) v

grouped_param : (g : Option (List ColAt)) (n : ℕ) → all_grouped g (typed.Param n) ≡ true
grouped_param None n = refl
grouped_param (Some g) n = fold_param Bool (level_grouped g) n

grouped_col : (g : Option (List ColAt)) (c : ColAt) → is_grouped g (Some c) ≡ true → all_grouped g (typed.Col c.source c.column) ≡ true
grouped_col None c e = refl
grouped_col (Some g) c e = fold_col Bool (level_grouped g) c.source c.column ∙ e

grouped_unary : (g : Option (List ColAt)) (op : UnaryOp) (side : Expr) → all_grouped g side ≡ true → all_grouped g (typed.Unary op side) ≡ true
grouped_unary None op side e = refl
grouped_unary (Some g) op side e = fold_unary Bool (level_grouped g) op side ∙ e

grouped_binary : (g : Option (List ColAt)) (op : BinaryOp) (left right : Expr) → all_grouped g left ≡ true → all_grouped g right ≡ true → all_grouped g (typed.Binary op left right) ≡ true
grouped_binary None op left right e f = refl
grouped_binary (Some g) op left right e f = fold_binary Bool (level_grouped g) op left right ∙ rw (e, f) refl

module _ (sources : List (List Column)) (reach : Reach) (grouped : Option (List ColAt)) where
  -- no other type than an operator takes: this type
  side_is : (k : ValueKind) (t : Typed) → Sound sources reach.params grouped t → side_faults k t ≡ [] → expr_type sources reach.params t.expr ≡ Some (type_of k)
  side_is k t s e =
      let may : may_be k t.kind ≡ true = no_fault (may_be k t.kind) (WrongType t.at) e in
      let same = same_kind k s.kind (subst (λ (o : Option ValueKind). may_be k o ≡ true) s.known may) in
      s.typed ∙ ap (λ (z : ValueKind). Some (type_of z)) (sym same)

  unary_type : (op : UnaryOp) (x : Option ExprType) → x ≡ Some (type_of (sign_kind op)) → level_type sources reach.params (Expr-F.Unary op x) ≡ Some (type_of (sign_kind op))
  unary_type Not x e = rw e refl
  unary_type Negate x e = rw e refl

  two_sides : (k : ValueKind) (op : BinaryOp) (l r : Typed) → gives op ≡ k → Sound sources reach.params grouped l → Sound sources reach.params grouped r → side_faults k l ++ side_faults k r ≡ [] → (expr_type sources reach.params l.expr ≡ Some (type_of k)) × (expr_type sources reach.params r.expr ≡ Some (type_of k))
  two_sides k op l r g sl sr e = (side_is k l sl (empty_left (side_faults k l) (side_faults k r) e), side_is k r sr (empty_right (side_faults k l) (side_faults k r) e))

  compare_type : (c : Cmp) (x y : Option ExprType) → are_comparable x y ≡ true → level_type sources reach.params (Expr-F.Binary (Compare c) x y) ≡ Some BoolType
  compare_type c x y e = ap (λ b. typed_when b BoolType) e

  binary_type : (op : BinaryOp) (l r : Typed) → Sound sources reach.params grouped l → Sound sources reach.params grouped r → sides_faults op l r ≡ [] → level_type sources reach.params (Expr-F.Binary op (expr_type sources reach.params l.expr) (expr_type sources reach.params r.expr)) ≡ Some (type_of (gives op))
  binary_type (Compare c) l r sl sr e =
      let may : may_compare l.kind r.kind ≡ true = no_fault (may_compare l.kind r.kind) (WrongType r.at) e in
      let known : may_compare (Some sl.kind) (Some sr.kind) ≡ true = subst (λ (o : Option ValueKind). may_compare (Some sl.kind) o ≡ true) sr.known (subst (λ (o : Option ValueKind). may_compare o r.kind ≡ true) sl.known may) in
      let types : are_comparable (expr_type sources reach.params l.expr) (expr_type sources reach.params r.expr) ≡ true =
      subst (λ (o : Option ExprType). are_comparable o (expr_type sources reach.params r.expr) ≡ true) (sym sl.typed) (subst (λ (o : Option ExprType). are_comparable (Some (type_of sl.kind)) o ≡ true) (sym sr.typed) (compared sl.kind sr.kind known)) in
      compare_type c _ _ types
  binary_type Or l r sl sr e = let s = two_sides Truth Or l r refl sl sr e in rw (s.0, s.1) refl
  binary_type And l r sl sr e = let s = two_sides Truth And l r refl sl sr e in rw (s.0, s.1) refl
  binary_type Concat l r sl sr e = let s = two_sides Text Concat l r refl sl sr e in rw (s.0, s.1) refl
  binary_type Add l r sl sr e = let s = two_sides Int Add l r refl sl sr e in rw (s.0, s.1) refl
  binary_type Sub l r sl sr e = let s = two_sides Int Sub l r refl sl sr e in rw (s.0, s.1) refl
  binary_type Mul l r sl sr e = let s = two_sides Int Mul l r refl sl sr e in rw (s.0, s.1) refl
  binary_type Div l r sl sr e = let s = two_sides Int Div l r refl sl sr e in rw (s.0, s.1) refl
  binary_type Rem l r sl sr e = let s = two_sides Int Rem l r refl sl sr e in rw (s.0, s.1) refl

  unary_sound : (at : ℕ) (op : UnaryOp) (t : Typed) → Sound sources reach.params grouped t → side_faults (sign_kind op) t ≡ [] → Sound sources reach.params grouped (level reach grouped (ExprTree-F.Unary at op t))
  unary_sound at op t s e = record {
    kind = sign_kind op;
    known = refl;
    typed = fold_unary (Option ExprType) (level_type sources reach.params) op t.expr ∙ unary_type op _ (side_is (sign_kind op) t s e);
    all = grouped_unary grouped op t.expr s.all;
  }

  binary_sound : (at : ℕ) (op : BinaryOp) (l r : Typed) → Sound sources reach.params grouped l → Sound sources reach.params grouped r → sides_faults op l r ≡ [] → Sound sources reach.params grouped (level reach grouped (ExprTree-F.Binary at op l r))
  binary_sound at op l r sl sr e = record {
    kind = gives op;
    known = refl;
    typed = fold_binary (Option ExprType) (level_type sources reach.params) op l.expr r.expr ∙ binary_type op l r sl sr e;
    all = grouped_binary grouped op l.expr r.expr sl.all sr.all;
  }

  param_sound : (at : ℕ) (name : NameTree) (found : Option ℕ) → column_named reach.params name.name ≡ found → (typed_param reach at name found).faults ≡ [] → Sound sources reach.params grouped (typed_param reach at name found)
  param_sound at name None is e = absurd cc
  param_sound at name (Some n) is e =
      let has = named_kind reach.params name.name n is in
      record {
        kind = has.kind;
        known = has.known;
        typed = fold_param (Option ExprType) (level_type sources reach.params) n ∙ has.typed;
        all = grouped_param grouped n;
      }

  module _ (covers : Covers sources reach) where
    column_sound : (at : ℕ) (tree : ColumnTree) (found : Result ColAt TypeError) → resolve reach tree ≡ found → (typed_column reach grouped at tree found).faults ≡ [] → Sound sources reach.params grouped (typed_column reach grouped at tree found)
    column_sound at tree (Err f) is e = absurd cc
    column_sound at tree (Ok c) is e =
        let stands = resolved reach tree c is in
        record {
          kind = stands.has.kind;
          known = stands.has.known;
          typed = fold_col (Option ExprType) (level_type sources reach.params) c.source c.column ∙ ap (λ (l : List Column). schema_type l c.column) (covers.source c.source stands.which) ∙ stands.has.typed;
          all = grouped_col grouped c (no_fault (is_grouped grouped (Some c)) (NotAggregated (column_offset tree)) e);
        }

    abbrev IsSound : ExprTree → Type 0
    IsSound tree = (typed_expr reach grouped tree).faults ≡ [] → Sound sources reach.params grouped (typed_expr reach grouped tree)

    -- what holds of a level holds of its node
    by_level : (x : ExprTree-F ExprTree) (t : Typed) → typed_expr reach grouped (roll-ExprTree x) ≡ t → (t.faults ≡ [] → Sound sources reach.params grouped t) → IsSound (roll-ExprTree x)
    by_level x t is sound e = subst (Sound sources reach.params grouped) (sym is) (sound (subst (λ (z : Typed). z.faults ≡ []) is e))

    node_sound : (y : ExprTree-F ((t : ExprTree) × IsSound t)) → IsSound (roll-ExprTree (map-ExprTree ((t : ExprTree) × IsSound t) ExprTree (λ e. e.0) y))
    node_sound (ExprTree-F.Number at number) = by_level (ExprTree-F.Number at number) _ (fold-roll-ExprTree Typed (level reach grouped) (ExprTree-F.Number at number)) (λ e. record {
      kind = Int;
      known = refl;
      typed = fold_lit (Option ExprType) (level_type sources reach.params) (value.Int number.value);
      all = grouped_lit grouped (value.Int number.value);
    })
    node_sound (ExprTree-F.Text at text) = by_level (ExprTree-F.Text at text) _ (fold-roll-ExprTree Typed (level reach grouped) (ExprTree-F.Text at text)) (λ e. record {
      kind = Text;
      known = refl;
      typed = fold_lit (Option ExprType) (level_type sources reach.params) (value.Text text.value);
      all = grouped_lit grouped (value.Text text.value);
    })
    node_sound (ExprTree-F.Param at name) = by_level (ExprTree-F.Param at name) _ (fold-roll-ExprTree Typed (level reach grouped) (ExprTree-F.Param at name)) (param_sound at name (column_named reach.params name.name) refl)
    node_sound (ExprTree-F.Column at column) = by_level (ExprTree-F.Column at column) _ (fold-roll-ExprTree Typed (level reach grouped) (ExprTree-F.Column at column)) (column_sound at column (resolve reach column) refl)
    node_sound (ExprTree-F.Unary at op side) =
        let t = typed_expr reach grouped side.0 in
        by_level (ExprTree-F.Unary at op side.0) (level reach grouped (ExprTree-F.Unary at op t)) (fold-roll-ExprTree Typed (level reach grouped) (ExprTree-F.Unary at op side.0)) (λ e.
        unary_sound at op t (side.1 (empty_left t.faults (side_faults (sign_kind op) t) e)) (empty_right t.faults (side_faults (sign_kind op) t) e))
    node_sound (ExprTree-F.Binary at op left right) =
        let l = typed_expr reach grouped left.0 in
        let r = typed_expr reach grouped right.0 in
        by_level (ExprTree-F.Binary at op left.0 right.0) (level reach grouped (ExprTree-F.Binary at op l r)) (fold-roll-ExprTree Typed (level reach grouped) (ExprTree-F.Binary at op left.0 right.0)) (λ e.
        let rest = empty_right l.faults (r.faults ++ sides_faults op l r) e in
        binary_sound at op l r (left.1 (empty_left l.faults (r.faults ++ sides_faults op l r) e)) (right.1 (empty_left r.faults (sides_faults op l r) rest)) (empty_right r.faults (sides_faults op l r) rest))

    pub expr_sound : (tree : ExprTree) → IsSound tree
    expr_sound = ind-ExprTree IsSound (λ x y is. subst (λ (z : ExprTree-F ExprTree). IsSound (roll-ExprTree z)) is (node_sound y))
