-- A condition without faults is well typed.
use Rattle.std.proofs.Common.{◌≡◌, ℕ, refl, sym, ap, ◌∙◌, subst, Bool, true, List, [], ◌∷◌, ◌++◌, map, Option, Some, None, get_or, length}
use Rattle.std.specs.Prelude.{slice_get, ◌==◌}
use Rattle.ss_value.specs.declared.schema.Column.{Column}
use Rattle.ss_sql_lex.specs.declared.tree.ExprTree.{ExprTree, roll-ExprTree}
use Rattle.ss_sql_lex.specs.declared.tree.ExprTree.TheFolds.{fold-roll-ExprTree, ind-ExprTree}
use Rattle.ss_sql_lex.specs.declared.tree.ExprTree.TheOpen.{ExprTree-F}
use Rattle.ss_sql_lex.specs.declared.tree.ItemTree.{ItemTree}
use Rattle.ss_sql_lex.specs.declared.tree.ItemTree.TheVariants as tree
use Rattle.ss_sql_lex.specs.declared.tree.ConditionTree.{ConditionTree}
use Rattle.ss_sql_trees.specs.declared.typed.ColAt.{ColAt}
use Rattle.ss_sql_trees.specs.WellTyped.{ExprType, Schemas, is_type, are_comparable, expr_type, item_type, typed_when, query_types, condition_typed}
use Rattle.ss_sql_trees.specs.WellTyped.ExprType.{IntType}
use Rattle.ss_sql_type.specs.declared.scope.Scope.{Scope}
use Rattle.ss_sql_type.specs.declared.scope.TypeError.TheVariants.{WrongType, WrongCount}
use Rattle.ss_sql_type.specs.declared.kinds.Needs.{Needs}
use Rattle.ss_sql_type.specs.declared.kinds.Needs.TheVariants.{Value, Only}
use Rattle.ss_sql_type.specs.declared.kinds.ValueKind.{ValueKind}
use Rattle.ss_sql_type.specs.declared.kinds.ValueKind.TheVariants.{Int}
use Rattle.ss_sql_type.specs.Refusals.{fault_unless}
use Rattle.ss_sql_type.specs.Kinds.{fits, first_needs, others, may_be_value, may_compare, value_kind}
use Rattle.ss_sql_type.specs.Names.{Reach}
use Rattle.ss_sql_type.specs.Expressions.{Typed, level, typed_expr, expr_faults}
use Rattle.ss_sql_type.specs.Items.{item_kind, typed_item, given_faults, item_faults, items_faults, groups_faults, item_limit_faults, test_faults, order_faults}
use Rattle.ss_sql_type.specs.Queries.{query_reach, unknown_faults, join_faults, grouped_columns, query_faults, typed_query}
use Rattle.ss_sql_type.specs.Statements.{bare, first_kind, right_faults, condition_faults, typed_condition}
use Rattle.ss_sql_type.specs.Agrees.{Agrees}
use Rattle.ss_sql_type.proofs.Sound.{no_fault, type_of, compared, Covers, Sound, expr_sound}
use Rattle.ss_sql_type.proofs.SoundQueries.{placed_sound, value_known, long_map, sources_covered, sources_with, query_sound}
use Rattle.ss_sql_type.proofs.SoundStatements.{bare_covered}
use Rattle.std.specs.List.{flat_map}
use Rattle.ss_lemmas.proofs.Counts.{empty_left, empty_right}

-- whether columns have to be grouped does not change a type
module _ (reach : Reach) (grouped : Option (List ColAt)) where
  abbrev SameKind : ExprTree → Type 0
  SameKind t = (typed_expr reach grouped t).kind ≡ (typed_expr reach None t).kind

  at_level : (x : ExprTree-F ExprTree) (a b : Typed) → typed_expr reach grouped (roll-ExprTree x) ≡ a → typed_expr reach None (roll-ExprTree x) ≡ b → a.kind ≡ b.kind → SameKind (roll-ExprTree x)
  at_level x a b e f same = ap (λ (t : Typed). t.kind) e ∙ same ∙ sym (ap (λ (t : Typed). t.kind) f)

  rolled : (x : ExprTree-F ExprTree) → SameKind (roll-ExprTree x)
  rolled (ExprTree-F.Number at number) = at_level (ExprTree-F.Number at number) _ _ (fold-roll-ExprTree Typed (level reach grouped) (ExprTree-F.Number at number)) (fold-roll-ExprTree Typed (level reach None) (ExprTree-F.Number at number)) refl
  rolled (ExprTree-F.Text at text) = at_level (ExprTree-F.Text at text) _ _ (fold-roll-ExprTree Typed (level reach grouped) (ExprTree-F.Text at text)) (fold-roll-ExprTree Typed (level reach None) (ExprTree-F.Text at text)) refl
  rolled (ExprTree-F.Param at name) = at_level (ExprTree-F.Param at name) _ _ (fold-roll-ExprTree Typed (level reach grouped) (ExprTree-F.Param at name)) (fold-roll-ExprTree Typed (level reach None) (ExprTree-F.Param at name)) refl
  rolled (ExprTree-F.Column at column) = at_level (ExprTree-F.Column at column) _ _ (fold-roll-ExprTree Typed (level reach grouped) (ExprTree-F.Column at column)) (fold-roll-ExprTree Typed (level reach None) (ExprTree-F.Column at column)) refl
  rolled (ExprTree-F.Unary at op side) = at_level (ExprTree-F.Unary at op side) _ _ (fold-roll-ExprTree Typed (level reach grouped) (ExprTree-F.Unary at op side)) (fold-roll-ExprTree Typed (level reach None) (ExprTree-F.Unary at op side)) refl
  rolled (ExprTree-F.Binary at op left right) = at_level (ExprTree-F.Binary at op left right) _ _ (fold-roll-ExprTree Typed (level reach grouped) (ExprTree-F.Binary at op left right)) (fold-roll-ExprTree Typed (level reach None) (ExprTree-F.Binary at op left right)) refl

  same_kind_of : (t : ExprTree) → SameKind t
  same_kind_of = ind-ExprTree SameKind (λ x y is. rolled x)

-- an item with its type
record ItemKnown (sources : List (List Column)) (reach : Reach) (grouped : Option (List ColAt)) (item : ItemTree) : Type 0 where
  kind : ValueKind
  known : item_kind reach item ≡ Some kind
  typed : item_type sources reach.params (typed_item reach grouped item) ≡ Some (type_of kind)

module _ (sources : List (List Column)) (reach : Reach) (grouped : Option (List ColAt)) (covers : Covers sources reach) where
  own_sound : (g : Option (List ColAt)) (needs : Needs) (e : ExprTree) → expr_faults reach g needs e ≡ [] → Sound sources reach.params g (typed_expr reach g e)
  own_sound g needs e none = let t = typed_expr reach g e in expr_sound sources reach g covers e (empty_left t.faults (fault_unless (fits needs t.kind) (WrongType t.at)) none)

  own_value : (e : ExprTree) (k : ValueKind) → (typed_expr reach None e).kind ≡ Some k → expr_faults reach None Value e ≡ [] → value_kind (typed_expr reach None e).kind ≡ Some k
  own_value e k known none =
      let t = typed_expr reach None e in
      let may : may_be_value t.kind ≡ true = no_fault (fits Value t.kind) (WrongType t.at) (empty_right t.faults (fault_unless (fits Value t.kind) (WrongType t.at)) none) in
      ap value_kind known ∙ value_known k (subst (λ (o : Option ValueKind). may_be_value o ≡ true) known may)

  item_known : (needs : Needs) (item : ItemTree) → item_faults reach grouped needs item ≡ [] → ItemKnown sources reach grouped item
  item_known needs (tree.Count at) e = record { kind = Int; known = refl; typed = refl }
  item_known needs (tree.Sum at side) e =
      let int : is_type IntType (expr_type sources reach.params (typed_expr reach None side).expr) ≡ true = placed_sound sources reach None covers (Only Int) side (empty_left (expr_faults reach None (Only Int) side) (given_faults needs (Some Int) at) e) in
      record { kind = Int; known = refl; typed = ap (λ (b : Bool). typed_when b IntType) int }
  item_known needs (tree.Min at side) e =
      let own = empty_left (expr_faults reach None Value side) (given_faults needs (value_kind (typed_expr reach None side).kind) at) e in
      let s = own_sound None Value side own in
      record { kind = s.kind; known = own_value side s.kind s.known own; typed = s.typed }
  item_known needs (tree.Max at side) e =
      let own = empty_left (expr_faults reach None Value side) (given_faults needs (value_kind (typed_expr reach None side).kind) at) e in
      let s = own_sound None Value side own in
      record { kind = s.kind; known = own_value side s.kind s.known own; typed = s.typed }
  item_known needs (tree.Plain x) e =
      let s = own_sound grouped needs x e in
      record { kind = s.kind; known = sym (same_kind_of reach grouped x) ∙ s.known; typed = s.typed }

  -- the first item, and the only one, against a right side
  compare_first : (columns : List Column) (items : List ItemTree) (k : ValueKind) → (length items == 1) ≡ true → items_faults reach grouped columns items ≡ [] → may_compare (first_kind reach items) (Some k) ≡ true
      → are_comparable (get_or (map (item_type sources reach.params) (map (typed_item reach grouped) items)) 0 None) (Some (type_of k)) ≡ true
  compare_first columns [] k one e may = absurd cc
  compare_first columns (item ∷ items) k one e may =
      let i = item_known (first_needs columns) item (empty_left (item_faults reach grouped (first_needs columns) item) (items_faults reach grouped (others columns) items) e) in
      let kinds : may_compare (Some i.kind) (Some k) ≡ true = subst (λ (o : Option ValueKind). may_compare o (Some k) ≡ true) i.known may in
      subst (λ (o : Option ExprType). are_comparable o (Some (type_of k)) ≡ true) (sym i.typed) (compared i.kind k kinds)

module _ (scope : Scope) (s : Schemas) (agrees : Agrees scope s) where
  pub condition_sound : (c : ConditionTree) → condition_faults scope c ≡ [] → condition_typed s (typed_condition scope c) ≡ true
  condition_sound c e =
      let q = c.query in
      let reach = query_reach scope q in
      let g = grouped_columns reach q in
      let sources = sources_with scope s agrees q.from q.joined in
      let t = typed_expr (bare scope) None c.right in
      let kind = first_kind reach q.items in
      let f = query_faults scope None 0 q in
      let one = fault_unless (length q.items == 1) (WrongCount q.at) in
      let right = right_faults kind t in
      let differ = fault_unless (may_compare kind t.kind) (WrongType t.at) in
      let e0 = empty_left f (one ++ right) e in
      let e1 = empty_right f (one ++ right) e in
      let e2 = empty_right one right e1 in
      let single : (length q.items == 1) ≡ true = no_fault (length q.items == 1) (WrongCount q.at) (empty_left one right e1) in
      let r = expr_sound [] (bare scope) None (bare_covered scope s agrees) c.right (empty_left t.faults differ e2) in
      let may : may_compare kind t.kind ≡ true = no_fault (may_compare kind t.kind) (WrongType t.at) (empty_right t.faults differ e2) in
      let known : may_compare kind (Some r.kind) ≡ true = subst (λ (o : Option ValueKind). may_compare kind o ≡ true) r.known may in
      let f1 = unknown_faults reach.first q.from.at in
      let f2 = join_faults reach q.from q.joined in
      let f3 = groups_faults reach q.groups in
      let f5 = items_faults reach g [] q.items in
      let rest = item_limit_faults (slice_get q.items 16) ++ (test_faults reach q.test ++ flat_map (order_faults (length q.items)) q.order) in
      let h1 = empty_right f1 (f2 ++ (f3 ++ (f5 ++ rest))) e0 in
      let h2 = empty_right f2 (f3 ++ (f5 ++ rest)) h1 in
      let h3 = empty_right f3 (f5 ++ rest) h2 in
      let covers = sources_covered scope s agrees q.from q.joined (empty_left f1 (f2 ++ (f3 ++ (f5 ++ rest))) e0) (empty_left f2 (f3 ++ (f5 ++ rest)) h1) in
      let first = compare_first sources reach g covers [] q.items r.kind single (empty_left f5 rest h3) known in
      let items = map (typed_item reach g) q.items in
      let typed_right : are_comparable (get_or (map (item_type sources scope.params) items) 0 None) (expr_type [] scope.params t.expr) ≡ true = subst (λ (o : Option ExprType). are_comparable (get_or (map (item_type sources scope.params) items) 0 None) o ≡ true) (sym r.typed) first in
      let sides : are_comparable (get_or (query_types s (typed_query scope q)) 0 None) (expr_type [] s.params t.expr) ≡ true = subst (λ (p : List Column). are_comparable (get_or (map (item_type sources p) items) 0 None) (expr_type [] p t.expr) ≡ true) (sym agrees.params) typed_right in
      let count : (length items == 1) ≡ true = subst (λ (n : ℕ). (n == 1) ≡ true) (sym (long_map (typed_item reach g) q.items)) single in
      let all = query_sound scope s agrees None 0 q e0 in
      rw (all, count, sides) refl
