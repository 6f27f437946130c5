-- A well typed expression gives a value that fits its column.
use Rattle.std.proofs.Common.{◌≡◌, ℕ, zero, suc, Bool, true, false, List, [], ◌∷◌, set, length, slice_get, refl, sym, ap, ◌∙◌, subst, Some, Ok, Err, arith}
use Rattle.std.proofs.lemmas.Bool.Decides.{Decides-eqb}
use Rattle.std.specs.declared.option.Option.{Option}
use Rattle.std.specs.List.{list_all, zip}
use Rattle.std.proofs.lemmas.Bool.{and_from}
use Rattle.ss_value.specs.declared.value.Value.{Value}
use Rattle.ss_value.specs.declared.value.Value.TheVariants.{Int, Text}
use Rattle.ss_value.specs.declared.schema.ColType.{ColType}
use Rattle.ss_value.specs.declared.schema.ColType.TheVariants.{Int as IntColumn, Text as TextColumn}
use Rattle.ss_value.specs.declared.schema.Column.{Column}
use Rattle.ss_value.specs.Fit.{fits_kind, fits_schema}
use Rattle.ss_value.specs.Rows.{Row, Rows}
use Rattle.ss_sql_trees.specs.declared.typed.UnaryOp.{UnaryOp}
use Rattle.ss_sql_trees.specs.declared.typed.UnaryOp.TheVariants.{Not, Negate}
use Rattle.ss_sql_trees.specs.declared.typed.BinaryOp.{BinaryOp}
use Rattle.ss_sql_trees.specs.declared.typed.BinaryOp.TheVariants.{Or, And, Compare, Add, Sub, Concat, Mul, Div, Rem}
use Rattle.ss_sql_trees.specs.declared.typed.Expr.{Expr, fold-Expr, roll-Expr}
use Rattle.ss_sql_trees.specs.declared.typed.Expr.TheFolds.{fold-roll-Expr, ind-Expr, map-Expr}
use Rattle.ss_sql_trees.specs.declared.typed.Expr.TheOpen.{Expr-F}
use Rattle.ss_model.specs.Results.{OrAbort, WhenOk}
use Rattle.ss_model.specs.Expressions.{Meaning, expr_value}
use Rattle.ss_model.specs.Soundness.{Asking, asking, gives_int, gives_text, has_type, rows_fit}
use Rattle.ss_sql_trees.specs.WellTyped.{ExprType, is_type, column_type, level_type, expr_type, level_grouped}
use Rattle.ss_lemmas.proofs.Bools.{first_of_two, second_of_two}
use Rattle.ss_model_laws.proofs.Sound.{type_is, typing_is_sound}

-- a value of this kind, or an abort
abbrev pub GivesKind : ColType → OrAbort Value → Type 0
GivesKind k = WhenOk (λ v. fits_kind k v ≡ true)

int_kind : (x : OrAbort Value) → gives_int x ≡ true → GivesKind IntColumn x
int_kind (Ok (Int n)) e = refl
int_kind (Ok (Text s)) e = cc
int_kind (Err r) e = tt

text_kind : (x : OrAbort Value) → gives_text x ≡ true → GivesKind TextColumn x
text_kind (Ok (Int n)) e = cc
text_kind (Ok (Text s)) e = refl
text_kind (Err r) e = tt

typed_kind : (k : ColType) (a : Asking) → has_type (column_type k) a ≡ true → GivesKind k a.meaning.value
typed_kind IntColumn a e = int_kind a.meaning.value (second_of_two _ _ e)
typed_kind TextColumn a e = text_kind a.meaning.value (second_of_two _ _ e)

pub value_sound : (sources : List (List Column)) (columns : List Column) (here : Rows) (params : Row) → rows_fit sources here ≡ true → fits_schema columns params ≡ true → (k : ColType) (e : Expr) → is_type (column_type k) (expr_type sources columns e) ≡ true → GivesKind k (expr_value here params e)
value_sound sources columns here params rows args k e is =
    let sound = typing_is_sound sources columns here params rows args e (column_type k) (type_is (column_type k) (expr_type sources columns e) is) in
    subst (λ (m : Meaning). GivesKind k m.value) sound.same (typed_kind k (asking here params e) sound.typed)

-- ---- expressions with no column

module _ (sources : List (List Column)) (columns : List Column) where
  -- without a column it has the same type whatever the sources are
  abbrev SameWithout : Expr → Type 0
  SameWithout e = fold-Expr Bool (level_grouped []) e ≡ true → expr_type sources columns e ≡ expr_type [] columns e

  abbrev Such : Type 0
  Such = (e : Expr) × SameWithout e

  same_unary : (op : UnaryOp) (t : Option ExprType) → level_type sources columns (Expr-F.Unary op t) ≡ level_type [] columns (Expr-F.Unary op t)
  same_unary Not t = refl
  same_unary Negate t = refl

  same_binary : (op : BinaryOp) (t u : Option ExprType) → level_type sources columns (Expr-F.Binary op t u) ≡ level_type [] columns (Expr-F.Binary op t u)
  same_binary Or t u = refl
  same_binary And t u = refl
  same_binary (Compare c) t u = refl
  same_binary Add t u = refl
  same_binary Sub t u = refl
  same_binary Concat t u = refl
  same_binary Mul t u = refl
  same_binary Div t u = refl
  same_binary Rem t u = refl

  abbrev types : List (List Column) → Expr → Option ExprType
  types from = expr_type from columns

  at_level : (from : List (List Column)) (x : Expr-F Expr) → types from (roll-Expr x) ≡ level_type from columns (map-Expr Expr (Option ExprType) (types from) x)
  at_level from x = fold-roll-Expr (Option ExprType) (level_type from columns) x

  grouped_level : (x : Expr-F Expr) → fold-Expr Bool (level_grouped []) (roll-Expr x) ≡ true → level_grouped [] (map-Expr Expr Bool (fold-Expr Bool (level_grouped [])) x) ≡ true
  grouped_level x e = sym (fold-roll-Expr Bool (level_grouped []) x) ∙ e

  same_level : (y : Expr-F Such) → SameWithout (roll-Expr (map-Expr Such Expr (λ e. e.0) y))
  same_level (Expr-F.Lit v) g = at_level sources (Expr-F.Lit v) ∙ sym (at_level [] (Expr-F.Lit v))
  same_level (Expr-F.Param n) g = at_level sources (Expr-F.Param n) ∙ sym (at_level [] (Expr-F.Param n))
  same_level (Expr-F.Col source column) g = let no : false ≡ true = grouped_level (Expr-F.Col source column) g in cc
  same_level (Expr-F.Unary op s) g =
      at_level sources (Expr-F.Unary op s.0) ∙ same_unary op (types sources s.0) ∙ ap (λ t. level_type [] columns (Expr-F.Unary op t)) (s.1 (grouped_level (Expr-F.Unary op s.0) g)) ∙ sym (at_level [] (Expr-F.Unary op s.0))
  same_level (Expr-F.Binary op l r) g =
      let sides = grouped_level (Expr-F.Binary op l.0 r.0) g in
      at_level sources (Expr-F.Binary op l.0 r.0) ∙ same_binary op (types sources l.0) (types sources r.0)
      ∙ (λ i. level_type [] columns (Expr-F.Binary op (l.1 (first_of_two _ _ sides) i) (r.1 (second_of_two _ _ sides) i))) ∙ sym (at_level [] (Expr-F.Binary op l.0 r.0))

  pub same_without : (e : Expr) → SameWithout e
  same_without = ind-Expr SameWithout (λ x y is. subst (λ x. SameWithout (roll-Expr x)) is (same_level y))

-- such an expression gives a value that fits, whatever rows there are
pub constant_sound : (sources : List (List Column)) (columns : List Column) (params : Row) → fits_schema columns params ≡ true → (k : ColType) (e : Expr) → fold-Expr Bool (level_grouped []) e ≡ true → is_type (column_type k) (expr_type sources columns e) ≡ true → GivesKind k (expr_value [] params e)
constant_sound sources columns params args k e grouped is =
    value_sound [] columns [] params refl args k e (subst (λ t. is_type (column_type k) t ≡ true) (same_without sources columns e grouped) is)

-- ---- rows that fit

pub fits_cons : (c : Column) (cs : List Column) (v : Value) (vs : Row) → fits_kind c.kind v ≡ true → fits_schema cs vs ≡ true → fits_schema (c ∷ cs) (v ∷ vs) ≡ true
fits_cons c cs v vs one others =
    let same : length cs ≡ length vs = (Decides-eqb _ _).0 (first_of_two _ _ others) in
    and_from _ _ ((Decides-eqb _ _).1 (ap suc same)) (and_from _ _ one (second_of_two _ _ others))

zip_set : (cs : List Column) (vs : Row) (n : ℕ) (v : Value) → length cs ≡ length vs → list_all (λ p. fits_kind p.0.kind p.1) (zip cs vs) ≡ true → ((c : Column) → slice_get cs n ≡ Some c → fits_kind c.kind v ≡ true) → (length cs ≡ length (set vs n v)) × (list_all (λ p. fits_kind p.0.kind p.1) (zip cs (set vs n v)) ≡ true)
zip_set [] [] n v l h k = (refl, refl)
zip_set [] (x ∷ vs) n v l h k = absurd (omega arith)
zip_set (c ∷ cs) [] n v l h k = absurd (omega arith)
zip_set (c ∷ cs) (x ∷ vs) zero v l h k = (l, and_from _ _ (k c refl) (second_of_two _ _ h))
zip_set (c ∷ cs) (x ∷ vs) (suc n) v l h k =
    let later = zip_set cs vs n v (omega arith) (second_of_two _ _ h) k in
    (ap suc later.0, and_from _ _ (first_of_two _ _ h) later.1)

-- with a value that fits in place of another
pub fits_set : (cs : List Column) (vs : Row) (n : ℕ) (v : Value) → fits_schema cs vs ≡ true → ((c : Column) → slice_get cs n ≡ Some c → fits_kind c.kind v ≡ true) → fits_schema cs (set vs n v) ≡ true
fits_set cs vs n v h k =
    let parts = zip_set cs vs n v ((Decides-eqb _ _).0 (first_of_two _ _ h)) (second_of_two _ _ h) k in
    and_from _ _ ((Decides-eqb _ _).1 parts.0) parts.1
