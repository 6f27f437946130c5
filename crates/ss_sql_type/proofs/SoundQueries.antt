-- A query without faults is well typed.
use Rattle.std.proofs.Common.{◌≡◌, ℕ, zero, suc, refl, sym, ap, ◌∙◌, subst, arith, Bool, true, false, List, [], ◌∷◌, ◌++◌, map, Option, Some, None, get_or, length, inl, inr, eqb-true}
use Rattle.std.specs.Prelude.{slice_get, find, Contains, ◌&&◌, ◌||◌, ◌==◌, not, nat_le, Result, Ok, Err, cond, min}
use Rattle.std.specs.Option.{option_map}
use Rattle.std.specs.List.{list_any, list_all, flat_map, cons_option}
use Rattle.std.proofs.lemmas.Bool.Decides.{nat_tests}
use Rattle.std.proofs.lemmas.Bool.{and_from, or_parts, or_right}
use Rattle.ss_lemmas.proofs.Counts.{empty_left, empty_right}
use Rattle.ss_value.specs.declared.schema.Column.{Column}
use Rattle.ss_value.specs.declared.schema.ColType.{ColType}
use Rattle.ss_value.specs.declared.schema.ColType.TheVariants as column
use Rattle.ss_sql_lex.specs.declared.tree.NameTree.{NameTree}
use Rattle.ss_sql_lex.specs.declared.tree.ColumnTree.{ColumnTree}
use Rattle.ss_sql_lex.specs.declared.tree.ExprTree.{ExprTree}
use Rattle.ss_sql_lex.specs.declared.tree.ItemTree.{ItemTree}
use Rattle.ss_sql_lex.specs.declared.tree.ItemTree.TheVariants as tree
use Rattle.ss_sql_lex.specs.declared.tree.JoinTree.{JoinTree}
use Rattle.ss_sql_lex.specs.declared.tree.OrderTree.{OrderTree}
use Rattle.ss_sql_lex.specs.declared.tree.QueryTree.{QueryTree}
use Rattle.ss_sql_trees.specs.declared.typed.ColAt.{ColAt}
use Rattle.ss_sql_trees.specs.WellTyped.{ExprType, Schemas, is_type, is_value_type, are_comparable, schema_type, typed_when, expr_type, test_typed, item_type, query_aggregated, item_grouped, types_fit, query_sources, column_at, join_typed, query_types, order_typed, query_typed, column_type, is_aggregate as is_typed_aggregate}
use Rattle.ss_sql_trees.specs.WellTyped.ExprType.{IntType, TextType, BoolType}
use Rattle.ss_sql_type.specs.declared.scope.Named.{Named}
use Rattle.ss_sql_type.specs.declared.scope.Scope.{Scope}
use Rattle.ss_sql_type.specs.declared.scope.TypeError.{TypeError}
use Rattle.ss_sql_type.specs.declared.scope.TypeError.TheVariants.{UnknownName, WrongType, WrongCount}
use Rattle.ss_sql_type.specs.declared.kinds.Needs.{Needs}
use Rattle.ss_sql_type.specs.declared.kinds.Needs.TheVariants.{Value, Only}
use Rattle.ss_sql_type.specs.declared.kinds.ValueKind.{ValueKind}
use Rattle.ss_sql_type.specs.declared.kinds.ValueKind.TheVariants.{Int, Text, Bool as Truth}
use Rattle.ss_sql_type.specs.Refusals.{fault_unless}
use Rattle.ss_sql_type.specs.Kinds.{kind_of, may_be_value, may_compare, fits, first_needs, others, value_kind}
use Rattle.ss_sql_type.specs.Names.{Reach, same_name, source_named, columns_of, resolve, column_meant, name_faults, known_kind, source_columns, column_offset}
use Rattle.ss_sql_type.specs.Expressions.{typed_expr, expr_faults}
use Rattle.ss_sql_type.specs.Items.{typed_item, given_faults, item_faults, items_faults, item_limit_faults, is_aggregate, typed_value, values_faults, test_faults, typed_groups, groups_faults, nat_of, typed_order, order_faults}
use Rattle.ss_sql_type.specs.Queries.{joined_source, query_reach, source_id, unknown_faults, column_or_first, typed_join, join_faults, is_aggregated, grouped_columns, count_faults, wanted_columns, faults_within, typed_within}
use Rattle.ss_sql_type.specs.Agrees.{Agrees, out_fits}
use Rattle.ss_sql_type.proofs.Sound.{no_fault, type_of, same_kind, compared, HasKind, resolved, Covers, all_grouped, expr_sound}

-- ---- what a context needs

-- the type that a context needs
abbrev pub is_needed : Needs → Option ExprType → Bool
is_needed Value t = is_value_type t
is_needed (Only k) t = is_type (type_of k) t

own_type : (k : ValueKind) → is_type (type_of k) (Some (type_of k)) ≡ true
own_type Int = refl
own_type Text = refl
own_type Truth = refl

value_needed : (k : ValueKind) → may_be_value (Some k) ≡ true → is_value_type (Some (type_of k)) ≡ true
value_needed Int e = refl
value_needed Text e = refl
value_needed Truth e = absurd cc

needed : (needs : Needs) (k : ValueKind) → fits needs (Some k) ≡ true → is_needed needs (Some (type_of k)) ≡ true
needed Value k e = value_needed k e
needed (Only wanted_columns) k e = subst (λ (x : ValueKind). is_type (type_of wanted_columns) (Some (type_of x)) ≡ true) (same_kind wanted_columns k e) (own_type wanted_columns)

-- a type that a column needs is that of a value
column_needed : (k : ColType) (t : Option ExprType) → is_needed (Only (kind_of k)) t ≡ true → is_type (column_type k) t ≡ true
column_needed column.Int t e = e
column_needed column.Text t e = e

module _ (sources : List (List Column)) (reach : Reach) (grouped : Option (List ColAt)) (covers : Covers sources reach) where
  -- an expression at its offset
  pub placed_sound : (needs : Needs) (e : ExprTree) → expr_faults reach grouped needs e ≡ [] → is_needed needs (expr_type sources reach.params (typed_expr reach grouped e).expr) ≡ true
  placed_sound needs e none =
      let t = typed_expr reach grouped e in
      let s = expr_sound sources reach grouped covers e (empty_left t.faults (fault_unless (fits needs t.kind) (WrongType t.at)) none) in
      let fit : fits needs t.kind ≡ true = no_fault (fits needs t.kind) (WrongType t.at) (empty_right t.faults (fault_unless (fits needs t.kind) (WrongType t.at)) none) in
      subst (λ (o : Option ExprType). is_needed needs o ≡ true) (sym s.typed) (needed needs s.kind (subst (λ (o : Option ValueKind). fits needs o ≡ true) s.known fit))

  -- where columns have to be grouped, they are
  placed_grouped : (needs : Needs) (e : ExprTree) → expr_faults reach grouped needs e ≡ [] → all_grouped grouped (typed_expr reach grouped e).expr ≡ true
  placed_grouped needs e none =
      let t = typed_expr reach grouped e in
      (expr_sound sources reach grouped covers e (empty_left t.faults (fault_unless (fits needs t.kind) (WrongType t.at)) none)).all

module _ (sources : List (List Column)) (reach : Reach) (covers : Covers sources reach) where
  pub test_sound : (test : Option ExprTree) → test_faults reach test ≡ [] → test_typed sources reach.params (option_map (typed_value reach) test) ≡ true
  test_sound None e = refl
  test_sound (Some t) e = placed_sound sources reach None covers (Only Truth) t e

  given_int : (needs : Needs) (at : ℕ) → given_faults needs (Some Int) at ≡ [] → is_needed needs (Some IntType) ≡ true
  given_int needs at e = needed needs Int (no_fault (fits needs (Some Int)) (WrongType at) e)

pub value_known : (k : ValueKind) → may_be_value (Some k) ≡ true → value_kind (Some k) ≡ Some k
value_known Int e = refl
value_known Text e = refl
value_known Truth e = absurd cc

value_of : (k : ColType) (t : Option ExprType) → is_needed (Only (kind_of k)) t ≡ true → is_value_type t ≡ true
value_of column.Int t e = rw e refl
value_of column.Text (Some TextType) e = refl
value_of column.Text (Some IntType) e = absurd cc
value_of column.Text (Some BoolType) e = absurd cc
value_of column.Text None e = absurd cc

-- what a column needs is a value
needs_value : (columns : List Column) (t : Option ExprType) → is_needed (first_needs columns) t ≡ true → is_value_type t ≡ true
needs_value [] t e = e
needs_value (c ∷ cs) t e = value_of c.kind t e

module _ (sources : List (List Column)) (reach : Reach) (grouped : Option (List ColAt)) (covers : Covers sources reach) where
  side_sound : (needs : Needs) (at : ℕ) (side : ExprTree) → expr_faults reach None Value side ++ given_faults needs (value_kind (typed_expr reach None side).kind) at ≡ [] → is_needed needs (expr_type sources reach.params (typed_expr reach None side).expr) ≡ true
  side_sound needs at side e =
      let t = typed_expr reach None side in
      let own = empty_left (expr_faults reach None Value side) (given_faults needs (value_kind t.kind) at) e in
      let given = empty_right (expr_faults reach None Value side) (given_faults needs (value_kind t.kind) at) e in
      let s = expr_sound sources reach None covers side (empty_left t.faults (fault_unless (fits Value t.kind) (WrongType t.at)) own) in
      let may : may_be_value t.kind ≡ true = no_fault (fits Value t.kind) (WrongType t.at) (empty_right t.faults (fault_unless (fits Value t.kind) (WrongType t.at)) own) in
      let fit : fits needs (value_kind t.kind) ≡ true = no_fault (fits needs (value_kind t.kind)) (WrongType at) given in
      let same : value_kind t.kind ≡ Some s.kind = ap value_kind s.known ∙ value_known s.kind (subst (λ (o : Option ValueKind). may_be_value o ≡ true) s.known may) in
      subst (λ (o : Option ExprType). is_needed needs o ≡ true) (sym s.typed) (needed needs s.kind (subst (λ (o : Option ValueKind). fits needs o ≡ true) same fit))

  item_sound : (needs : Needs) (item : ItemTree) → item_faults reach grouped needs item ≡ [] → is_needed needs (item_type sources reach.params (typed_item reach grouped item)) ≡ true
  item_sound needs (tree.Count at) e = given_int sources reach covers needs at e
  item_sound needs (tree.Sum at side) e =
      let own = empty_left (expr_faults reach None (Only Int) side) (given_faults needs (Some Int) at) e in
      let given = empty_right (expr_faults reach None (Only Int) side) (given_faults needs (Some Int) at) e in
      let int : is_type IntType (expr_type sources reach.params (typed_expr reach None side).expr) ≡ true = placed_sound sources reach None covers (Only Int) side own in
      subst (λ (b : Bool). is_needed needs (typed_when b IntType) ≡ true) (sym int) (given_int sources reach covers needs at given)
  item_sound needs (tree.Min at side) e = side_sound needs at side e
  item_sound needs (tree.Max at side) e = side_sound needs at side e
  item_sound needs (tree.Plain x) e = placed_sound sources reach grouped covers needs x e

  -- the types of these items
  abbrev types_of : List ItemTree → List (Option ExprType)
  types_of items = map (item_type sources reach.params) (map (typed_item reach grouped) items)

  items_values : (columns : List Column) (items : List ItemTree) → items_faults reach grouped columns items ≡ [] → list_all is_value_type (types_of items) ≡ true
  items_values columns [] e = refl
  items_values columns (item ∷ items) e =
      and_from (is_value_type (item_type sources reach.params (typed_item reach grouped item))) (list_all is_value_type (types_of items))
      (needs_value columns _ (item_sound (first_needs columns) item (empty_left (item_faults reach grouped (first_needs columns) item) (items_faults reach grouped (others columns) items) e)))
      (items_values (others columns) items (empty_right (item_faults reach grouped (first_needs columns) item) (items_faults reach grouped (others columns) items) e))

  items_fit : (columns : List Column) (items : List ItemTree) → length items ≡ length columns → items_faults reach grouped columns items ≡ [] → types_fit (types_of items) columns ≡ true
  items_fit [] [] n e = refl
  items_fit (c ∷ columns) [] n e = absurd (omega arith)
  items_fit [] (item ∷ items) n e = absurd (omega arith)
  items_fit (c ∷ columns) (item ∷ items) n e =
      and_from (is_type (column_type c.kind) (item_type sources reach.params (typed_item reach grouped item))) (types_fit (types_of items) columns)
      (column_needed c.kind _ (item_sound (Only (kind_of c.kind)) item (empty_left (item_faults reach grouped (Only (kind_of c.kind)) item) (items_faults reach grouped columns items) e)))
      (items_fit columns items (omega arith) (empty_right (item_faults reach grouped (Only (kind_of c.kind)) item) (items_faults reach grouped columns items) e))

  pub values_fit : (columns : List Column) (values : List ExprTree) → length values ≡ length columns → values_faults reach columns values ≡ [] → types_fit (map (expr_type sources reach.params) (map (typed_value reach) values)) columns ≡ true
  values_fit [] [] n e = refl
  values_fit (c ∷ columns) [] n e = absurd (omega arith)
  values_fit [] (x ∷ values) n e = absurd (omega arith)
  values_fit (c ∷ columns) (x ∷ values) n e =
      and_from (is_type (column_type c.kind) (expr_type sources reach.params (typed_value reach x))) (types_fit (map (expr_type sources reach.params) (map (typed_value reach) values)) columns)
      (column_needed c.kind _ (placed_sound sources reach None covers (Only (kind_of c.kind)) x (empty_left (expr_faults reach None (Only (kind_of c.kind)) x) (values_faults reach columns values) e)))
      (values_fit columns values (omega arith) (empty_right (expr_faults reach None (Only (kind_of c.kind)) x) (values_faults reach columns values) e))

-- items of an aggregated query
module _ (sources : List (List Column)) (reach : Reach) (groups : List ColAt) (covers : Covers sources reach) where
  item_is_grouped : (needs : Needs) (item : ItemTree) → item_faults reach (Some groups) needs item ≡ [] → item_grouped groups (typed_item reach (Some groups) item) ≡ true
  item_is_grouped needs (tree.Count at) e = refl
  item_is_grouped needs (tree.Sum at side) e = refl
  item_is_grouped needs (tree.Min at side) e = refl
  item_is_grouped needs (tree.Max at side) e = refl
  item_is_grouped needs (tree.Plain x) e = placed_grouped sources reach (Some groups) covers needs x e

  items_grouped : (columns : List Column) (items : List ItemTree) → items_faults reach (Some groups) columns items ≡ [] → list_all (item_grouped groups) (map (typed_item reach (Some groups)) items) ≡ true
  items_grouped columns [] e = refl
  items_grouped columns (item ∷ items) e =
      and_from (item_grouped groups (typed_item reach (Some groups) item)) (list_all (item_grouped groups) (map (typed_item reach (Some groups)) items))
      (item_is_grouped (first_needs columns) item (empty_left (item_faults reach (Some groups) (first_needs columns) item) (items_faults reach (Some groups) (others columns) items) e))
      (items_grouped (others columns) items (empty_right (item_faults reach (Some groups) (first_needs columns) item) (items_faults reach (Some groups) (others columns) items) e))

-- ---- GROUP BY, ORDER BY and the number of items

same_aggregate : (reach : Reach) (g : Option (List ColAt)) (item : ItemTree) → is_typed_aggregate (typed_item reach g item) ≡ is_aggregate item
same_aggregate reach g (tree.Count at) = refl
same_aggregate reach g (tree.Sum at side) = refl
same_aggregate reach g (tree.Min at side) = refl
same_aggregate reach g (tree.Max at side) = refl
same_aggregate reach g (tree.Plain x) = refl

same_aggregates : (reach : Reach) (g : Option (List ColAt)) (items : List ItemTree) → list_any is_typed_aggregate (map (typed_item reach g) items) ≡ list_any is_aggregate items
same_aggregates reach g [] = refl
same_aggregates reach g (item ∷ items) = rw (same_aggregate reach g item, same_aggregates reach g items) refl

no_groups : (reach : Reach) (groups : List ColumnTree) → nat_le 1 (length groups) ≡ false → nat_le 1 (length (typed_groups reach groups)) ≡ false
no_groups reach [] e = refl
no_groups reach (g ∷ groups) e = absurd (grind (arith, nat_tests))

pub long_map : {X Y : Type 0} (f : X → Y) (xs : List X) → length (map f xs) ≡ length xs
long_map f [] = refl
long_map f (x ∷ xs) = ap suc (long_map f xs)

within : (n count : ℕ) → (nat_le 1 n && nat_le n count) ≡ true → (nat_le 1 (min n 255) && nat_le (min n 255) count) ≡ true
within n count e = grind (arith, nat_tests)

one_order : (count : ℕ) (o : OrderTree) → order_faults count o ≡ [] → order_typed count (typed_order o) ≡ true
one_order count o e =
    let right = no_fault (nat_le 1 (nat_of o.number.value) && nat_le (nat_of o.number.value) count) (WrongCount o.number.at) e in
    within (nat_of o.number.value) count right

orders_sound : (count : ℕ) (orders : List OrderTree) → flat_map (order_faults count) orders ≡ [] → list_all (order_typed count) (map typed_order orders) ≡ true
orders_sound count [] e = refl
orders_sound count (o ∷ orders) e =
    and_from (order_typed count (typed_order o)) (list_all (order_typed count) (map typed_order orders))
    (one_order count o (empty_left (order_faults count o) (flat_map (order_faults count) orders) e))
    (orders_sound count orders (empty_right (order_faults count o) (flat_map (order_faults count) orders) e))

not_crowded : {X : Type 0} (n : ℕ) (items : List X) → slice_get items n ≡ None → nat_le (length items) n ≡ true
not_crowded zero [] e = refl
not_crowded (suc n) [] e = grind (arith, nat_tests)
not_crowded zero (x ∷ items) e = absurd cc
not_crowded (suc n) (x ∷ items) e = let h = not_crowded n items e in grind (arith, nat_tests)

within_item_limit : (o : Option ItemTree) → item_limit_faults o ≡ [] → o ≡ None
within_item_limit None e = refl
within_item_limit (Some item) e = absurd cc

-- ---- sources

front_there : (x n : Named) (list : List Named) → x ≡ n → Contains (x ∷ list) n
front_there x n list e = (0, omega arith, e)

behind_there : (x n : Named) (list : List Named) → Contains list n → Contains (x ∷ list) n
behind_there x n list (k, h, e) = (suc k, omega arith, e)

found_step : (b : Bool) (x n : Named) (list : List Named) (o : Option Named) → (o ≡ Some n → Contains list n) → cond b (Some x) o ≡ Some n → Contains (x ∷ list) n
found_step true x n list o rest e = front_there x n list cc
found_step false x n list o rest e = behind_there x n list (rest e)

-- what a search finds is there
pub found_there : (list : List Named) (test : Named → Bool) (n : Named) → find test list ≡ Some n → Contains list n
found_there [] test n e = absurd cc
found_there (x ∷ list) test n e = found_step (test x) x n list (find test list) (found_there list test n) e

-- a known source has its columns
pub record Known (scope : Scope) (s : Schemas) (o : Option Named) : Type 0 where
  pub columns : s.sources (source_id o) ≡ columns_of o

pub known_source : (o : Option Named) (at : ℕ) → unknown_faults o at ≡ [] → (n : Named) × (o ≡ Some n)
known_source None at e = absurd cc
known_source (Some n) at e = (n, refl)

source_known : (scope : Scope) (s : Schemas) → Agrees scope s → (name : List ℕ) (at : ℕ) → unknown_faults (source_named scope.sources name) at ≡ [] → s.sources (source_id (source_named scope.sources name)) ≡ columns_of (source_named scope.sources name)
source_known scope s agrees name at e =
    let k = known_source (source_named scope.sources name) at e in
    let there = found_there scope.sources (λ (n : Named). same_name n.name name) k.0 k.1 in
    ap (λ (o : Option Named). s.sources (source_id o)) k.1 ∙ agrees.sources k.0 there ∙ sym (ap columns_of k.1)

-- the columns that a query's sources have are those that its names may refer to
two_covered : (first second : List Column) (reach : Reach) → first ≡ columns_of reach.first → second ≡ columns_of reach.second → Covers (first ∷ second ∷ []) reach
two_covered first second reach e f = record { source = λ s which. elim which [ inl zero_is ↦ subst (λ (n : ℕ). get_or (first ∷ second ∷ []) n [] ≡ source_columns reach n) (sym zero_is) e | inr one_is ↦ subst (λ (n : ℕ). get_or (first ∷ second ∷ []) n [] ≡ source_columns reach n) (sym one_is) f ] }

pub one_covered : (first : List Column) (reach : Reach) → first ≡ columns_of reach.first → columns_of reach.second ≡ [] → Covers (first ∷ []) reach
one_covered first reach e f = record { source = λ s which. elim which [ inl zero_is ↦ subst (λ (n : ℕ). get_or (first ∷ []) n [] ≡ source_columns reach n) (sym zero_is) e | inr one_is ↦ subst (λ (n : ℕ). get_or (first ∷ []) n [] ≡ source_columns reach n) (sym one_is) (sym f) ] }

-- ---- JOIN

column_known : (reach : Reach) (tree : ColumnTree) (found : Result ColAt TypeError) → resolve reach tree ≡ found → name_faults found ≡ [] → (c : ColAt) × (found ≡ Ok c)
column_known reach tree (Ok c) is e = (c, refl)
column_known reach tree (Err f) is e = absurd cc

record Column-is (sources : List (List Column)) (reach : Reach) (tree : ColumnTree) : Type 0 where
  kind : ValueKind
  known_as : known_kind reach (resolve reach tree) ≡ Some kind
  typed : column_at sources (column_or_first (column_meant (resolve reach tree))) ≡ Some (type_of kind)

column_is : (sources : List (List Column)) (reach : Reach) → Covers sources reach → (tree : ColumnTree) → name_faults (resolve reach tree) ≡ [] → Column-is sources reach tree
column_is sources reach covers tree e =
    let k = column_known reach tree (resolve reach tree) refl e in
    let stands = resolved reach tree k.0 k.1 in
    record {
      kind = stands.has.kind;
      known_as = ap (known_kind reach) k.1 ∙ stands.has.known;
      typed = ap (λ (r : Result ColAt TypeError). column_at sources (column_or_first (column_meant r))) k.1 ∙ ap (λ (l : List Column). schema_type l k.0.column) (covers.source k.0.source stands.which) ∙ stands.has.typed;
    }

join_sound : (sources : List (List Column)) (reach : Reach) → Covers sources reach → (j : JoinTree)
    → name_faults (resolve reach j.left) ≡ [] → name_faults (resolve reach j.right) ≡ []
    → may_compare (known_kind reach (resolve reach j.left)) (known_kind reach (resolve reach j.right)) ≡ true
    → join_typed sources (Some (typed_join reach j)) ≡ true
join_sound sources reach covers j el er may =
    let l = column_is sources reach covers j.left el in
    let r = column_is sources reach covers j.right er in
    let kinds : may_compare (Some l.kind) (Some r.kind) ≡ true = subst (λ (o : Option ValueKind). may_compare (Some l.kind) o ≡ true) r.known_as (subst (λ (o : Option ValueKind). may_compare o (known_kind reach (resolve reach j.right)) ≡ true) l.known_as may) in
    subst (λ (o : Option ExprType). are_comparable o (column_at sources (column_or_first (column_meant (resolve reach j.right)))) ≡ true) (sym l.typed) (subst (λ (o : Option ExprType). are_comparable (Some (type_of l.kind)) o ≡ true) (sym r.typed) (compared l.kind r.kind kinds))

-- ---- GROUP BY

pub column_kind_value : (k : ColType) → is_value_type (Some (column_type k)) ≡ true
column_kind_value column.Int = refl
column_kind_value column.Text = refl

-- the type of a column is that of a value
value_column : (o : Option Column) (k : ValueKind) → option_map (λ (c : Column). kind_of c.kind) o ≡ Some k → is_value_type (option_map (λ (d : Column). column_type d.kind) o) ≡ true
value_column None k e = absurd cc
value_column (Some c) k e = column_kind_value c.kind

pub column_value : (c : List Column) (n : ℕ) → HasKind c n → is_value_type (schema_type c n) ≡ true
column_value c n has = value_column (slice_get c n) has.kind has.known

group_step : (sources : List (List Column)) (reach : Reach) → Covers sources reach → (tree : ColumnTree) (rest : List ColAt) (found : Result ColAt TypeError) → resolve reach tree ≡ found → list_all (λ c. is_value_type (column_at sources c)) rest ≡ true → list_all (λ c. is_value_type (column_at sources c)) (cons_option (column_meant found) rest) ≡ true
group_step sources reach covers tree rest (Err f) is h = h
group_step sources reach covers tree rest (Ok c) is h =
    let stands = resolved reach tree c is in
    and_from (is_value_type (column_at sources c)) (list_all (λ c. is_value_type (column_at sources c)) rest)
    (ap (λ (l : List Column). is_value_type (schema_type l c.column)) (covers.source c.source stands.which) ∙ column_value (source_columns reach c.source) c.column stands.has) h

groups_sound : (sources : List (List Column)) (reach : Reach) → Covers sources reach → (groups : List ColumnTree) → list_all (λ c. is_value_type (column_at sources c)) (typed_groups reach groups) ≡ true
groups_sound sources reach covers [] = refl
groups_sound sources reach covers (g ∷ groups) = group_step sources reach covers g (typed_groups reach groups) (resolve reach g) refl (groups_sound sources reach covers groups)

-- ---- queries

not_aggregated : (a b c : Bool) → a ≡ false → b ≡ false → (not (a || b) || c) ≡ true
not_aggregated a b c e f = rw (e, f) refl

-- in an aggregated query items are grouped
items_are_grouped : (sources : List (List Column)) (reach : Reach) → Covers sources reach → (columns : List Column) (items : List ItemTree) (groups : List ColumnTree) (b : Bool)
    → (list_any is_aggregate items || nat_le 1 (length groups)) ≡ b
    → items_faults reach (cond b (Some (typed_groups reach groups)) None) columns items ≡ []
    → (not (list_any is_typed_aggregate (map (typed_item reach (cond b (Some (typed_groups reach groups)) None)) items) || nat_le 1 (length (typed_groups reach groups))) || list_all (item_grouped (typed_groups reach groups)) (map (typed_item reach (cond b (Some (typed_groups reach groups)) None)) items)) ≡ true
items_are_grouped sources reach covers columns items groups true is e = or_right _ _ (items_grouped sources reach (typed_groups reach groups) covers columns items e)
items_are_grouped sources reach covers columns items groups false is e =
    let parts = or_parts (list_any is_aggregate items) (nat_le 1 (length groups)) is in
    not_aggregated _ _ _ (same_aggregates reach None items ∙ parts.0) (no_groups reach groups parts.1)

module _ (scope : Scope) (s : Schemas) (agrees : Agrees scope s) where
  abbrev pub reach_with : NameTree → Option JoinTree → Reach
  reach_with from j = record { first = source_named scope.sources from.name; second = joined_source scope.sources j; params = scope.params }

  abbrev pub sources_with : NameTree → Option JoinTree → List (List Column)
  sources_with from j = query_sources s (source_id (source_named scope.sources from.name)) (option_map (typed_join (reach_with from j)) j)

  pub sources_covered : (from : NameTree) (j : Option JoinTree) → unknown_faults (source_named scope.sources from.name) from.at ≡ [] → join_faults (reach_with from j) from j ≡ [] → Covers (sources_with from j) (reach_with from j)
  sources_covered from None e f = one_covered (s.sources (source_id (source_named scope.sources from.name))) (reach_with from None) (source_known scope s agrees from.name from.at e) refl
  sources_covered from (Some j) e f =
      two_covered (s.sources (source_id (source_named scope.sources from.name))) (s.sources (source_id (source_named scope.sources j.name.name))) (reach_with from (Some j))
      (source_known scope s agrees from.name from.at e)
      (source_known scope s agrees j.name.name j.name.at (empty_left (unknown_faults (source_named scope.sources j.name.name) j.name.at) _ f))

  joined_sound : (sources : List (List Column)) (reach : Reach) → Covers sources reach → (from : NameTree) (j : Option JoinTree) → join_faults reach from j ≡ [] → join_typed sources (option_map (typed_join reach) j) ≡ true
  joined_sound sources reach covers from None e = refl
  joined_sound sources reach covers from (Some j) e =
      let l = name_faults (resolve reach j.left) in
      let r = name_faults (resolve reach j.right) in
      let may = may_compare (known_kind reach (resolve reach j.left)) (known_kind reach (resolve reach j.right)) in
      let last = fault_unless may (WrongType (column_offset j.right)) in
      let other = fault_unless (not (same_name from.name j.name.name)) (UnknownName j.name.at) in
      let e1 = empty_right (unknown_faults reach.second j.name.at) (other ++ (l ++ (r ++ last))) e in
      let e2 = empty_right other (l ++ (r ++ last)) e1 in
      let e3 = empty_right l (r ++ last) e2 in
      join_sound sources reach covers j (empty_left l (r ++ last) e2) (empty_left r last e3) (no_fault may (WrongType (column_offset j.right)) (empty_right r last e3))

  -- a query that breaks no rule is well typed, and fits the columns that it goes into
  pub query_sound : (columns : Option (List Column)) (at : ℕ) (q : QueryTree) → faults_within (query_reach scope q) columns at q ≡ [] → query_typed s (typed_within (query_reach scope q) q) ≡ true
  query_sound columns at q e =
      let reach = query_reach scope q in
      let sources = sources_with q.from q.joined in
      let g = grouped_columns reach q in
      let f1 = unknown_faults reach.first q.from.at in
      let f2 = join_faults reach q.from q.joined in
      let f3 = groups_faults reach q.groups in
      let f4 = count_faults columns (length q.items) at in
      let f5 = items_faults reach g (wanted_columns columns) q.items in
      let f6 = item_limit_faults (slice_get q.items 16) in
      let f7 = test_faults reach q.test in
      let f8 = flat_map (order_faults (length q.items)) q.order in
      let e1 = empty_right f1 (f2 ++ (f3 ++ (f4 ++ (f5 ++ (f6 ++ (f7 ++ f8)))))) e in
      let e2 = empty_right f2 (f3 ++ (f4 ++ (f5 ++ (f6 ++ (f7 ++ f8))))) e1 in
      let e3 = empty_right f3 (f4 ++ (f5 ++ (f6 ++ (f7 ++ f8)))) e2 in
      let e4 = empty_right f4 (f5 ++ (f6 ++ (f7 ++ f8))) e3 in
      let e5 = empty_right f5 (f6 ++ (f7 ++ f8)) e4 in
      let e6 = empty_right f6 (f7 ++ f8) e5 in
      let n1 = empty_left f1 (f2 ++ (f3 ++ (f4 ++ (f5 ++ (f6 ++ (f7 ++ f8)))))) e in
      let n2 = empty_left f2 (f3 ++ (f4 ++ (f5 ++ (f6 ++ (f7 ++ f8))))) e1 in
      let n5 = empty_left f5 (f6 ++ (f7 ++ f8)) e4 in
      let n6 = empty_left f6 (f7 ++ f8) e5 in
      let n7 = empty_left f7 f8 e6 in
      let n8 = empty_right f7 f8 e6 in
      let covers = sources_covered q.from q.joined n1 n2 in
      let t = typed_within reach q in
      let joins : join_typed sources t.joined ≡ true = joined_sound sources reach covers q.from q.joined n2 in
      let tests : test_typed sources s.params t.test ≡ true = subst (λ (p : List Column). test_typed sources p t.test ≡ true) (sym agrees.params) (test_sound sources reach covers q.test n7) in
      let values : list_all is_value_type (query_types s t) ≡ true = subst (λ (p : List Column). list_all is_value_type (map (item_type sources p) t.items) ≡ true) (sym agrees.params) (items_values sources reach g covers (wanted_columns columns) q.items n5) in
      let groups : list_all (λ c. is_value_type (column_at sources c)) t.groups ≡ true = groups_sound sources reach covers q.groups in
      let grouped : (not (query_aggregated t) || list_all (item_grouped t.groups) t.items) ≡ true = items_are_grouped sources reach covers (wanted_columns columns) q.items q.groups (is_aggregated q) refl n5 in
      let orders : list_all (order_typed (length t.items)) t.order ≡ true = subst (λ (n : ℕ). list_all (order_typed n) t.order ≡ true) (sym (long_map (typed_item reach g) q.items)) (orders_sound (length q.items) q.order n8) in
      let few : nat_le (length t.items) 16 ≡ true = subst (λ (n : ℕ). nat_le n 16 ≡ true) (sym (long_map (typed_item reach g) q.items)) (not_crowded 16 q.items (within_item_limit (slice_get q.items 16) n6)) in
      rw (joins, tests, values, groups, grouped, orders, few) refl

  pub query_fits : (cs : List Column) (at : ℕ) (q : QueryTree) → faults_within (query_reach scope q) (Some cs) at q ≡ [] → types_fit (query_types s (typed_within (query_reach scope q) q)) cs ≡ true
  query_fits cs at q e =
      let reach = query_reach scope q in
      let sources = sources_with q.from q.joined in
      let g = grouped_columns reach q in
      let f1 = unknown_faults reach.first q.from.at in
      let f2 = join_faults reach q.from q.joined in
      let f3 = groups_faults reach q.groups in
      let f4 = count_faults (Some cs) (length q.items) at in
      let f5 = items_faults reach g cs q.items in
      let rest = item_limit_faults (slice_get q.items 16) ++ (test_faults reach q.test ++ flat_map (order_faults (length q.items)) q.order) in
      let e1 = empty_right f1 (f2 ++ (f3 ++ (f4 ++ (f5 ++ rest)))) e in
      let e2 = empty_right f2 (f3 ++ (f4 ++ (f5 ++ rest))) e1 in
      let e3 = empty_right f3 (f4 ++ (f5 ++ rest)) e2 in
      let e4 = empty_right f4 (f5 ++ rest) e3 in
      let covers = sources_covered q.from q.joined (empty_left f1 (f2 ++ (f3 ++ (f4 ++ (f5 ++ rest)))) e) (empty_left f2 (f3 ++ (f4 ++ (f5 ++ rest))) e1) in
      let same : length q.items ≡ length cs = eqb-true (length q.items) (length cs) (no_fault (length q.items == length cs) (WrongCount at) (empty_left f4 (f5 ++ rest) e3)) in
      subst (λ (p : List Column). types_fit (map (item_type sources p) (map (typed_item reach g) q.items)) cs ≡ true) (sym agrees.params) (items_fit sources reach g covers cs q.items same (empty_left f5 rest e4))

  -- the rows fit the columns that they go into
  pub query_out : (columns : Option (List Column)) (at : ℕ) (q : QueryTree) → faults_within (query_reach scope q) columns at q ≡ [] → out_fits s columns (typed_within (query_reach scope q) q) ≡ true
  query_out None at q e = refl
  query_out (Some cs) at q e = query_fits cs at q e
