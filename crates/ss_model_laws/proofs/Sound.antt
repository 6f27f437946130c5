-- A well typed expression gives a value of its type or aborts.
use Rattle.std.proofs.Common.{◌≡◌, ℕ, ℤ, pos, negsuc, zero, suc, Bool, true, false, cond, not, ◌&&◌, ◌||◌, ◌⊎◌, inl, inr, List, [], ◌∷◌, length, get_or, refl, sym, ap, subst, Some, None, Ok, Err, arith}
use Rattle.std.proofs.lemmas.Bool.Decides.{Decides-eqb}
use Rattle.std.specs.declared.option.Option.{Option}
use Rattle.std.specs.Prelude.{neg_ℤ}
use Rattle.std.specs.List.{list_all, zip}
use Rattle.ss_value.specs.declared.value.Value.{Value}
use Rattle.ss_value.specs.declared.value.Value.TheVariants.{Int, Text}
use Rattle.ss_value.specs.declared.schema.ColType.{ColType}
use Rattle.ss_value.specs.declared.schema.ColType.TheVariants.{Int as IntColumn, Text as TextColumn}
use Rattle.ss_value.specs.declared.schema.Column.{Column}
use Rattle.ss_value.specs.Fit.{fits_kind, fits_schema}
use Rattle.ss_value.specs.Rows.{Row, Rows, column_value}
use Rattle.ss_sql_trees.specs.declared.typed.UnaryOp.TheVariants.{Not, Negate}
use Rattle.ss_sql_trees.specs.declared.typed.BinaryOp.{BinaryOp}
use Rattle.ss_sql_trees.specs.declared.typed.BinaryOp.TheVariants.{Or, And, Compare, Add, Sub, Concat, Mul, Div, Rem}
use Rattle.ss_sql_trees.specs.declared.typed.Expr.{Expr, roll-Expr}
use Rattle.ss_sql_trees.specs.declared.typed.Expr.TheFolds.{fold-roll-Expr, ind-Expr, map-Expr}
use Rattle.ss_sql_trees.specs.declared.typed.Expr.TheOpen.{Expr-F}
use Rattle.ss_model.specs.declared.entry.Reason.TheVariants.{Overflow, TextTooLong}
use Rattle.ss_model.specs.Results.{OrAbort, ◌>>=◌}
use Rattle.ss_model.specs.Expressions.{Meaning, fits_i64, checked_int, checked_div, apply_binary, int_of, level_meaning, meaning}
use Rattle.ss_sql_trees.specs.WellTyped.{ExprType, IntType, TextType, BoolType, is_type, are_comparable, typed_when, value_type, column_type, schema_type, level_type, expr_type}
use Rattle.ss_lemmas.proofs.Bools.{first_of_two, second_of_two, either_so, some_same}
use Rattle.ss_model.specs.Soundness.{gives_int, gives_text, Asking, int_side, text_side, level_asking, asking, has_type, rows_fit, TypingIsSound}
use Rattle.std.proofs.lemmas.Bool.{and_from, or_right, or_left}

-- ---- types

when_typed : (b : Bool) (u t : ExprType) → typed_when b u ≡ Some t → (b ≡ true) × (u ≡ t)
when_typed true u t e = (refl, some_same u t e)
when_typed false u t e = cc

pub type_is : (u : ExprType) (o : Option ExprType) → is_type u o ≡ true → o ≡ Some u
type_is IntType (Some IntType) e = refl
type_is IntType (Some TextType) e = cc
type_is IntType (Some BoolType) e = cc
type_is IntType None e = cc
type_is TextType (Some IntType) e = cc
type_is TextType (Some TextType) e = refl
type_is TextType (Some BoolType) e = cc
type_is TextType None e = cc
type_is BoolType (Some IntType) e = cc
type_is BoolType (Some TextType) e = cc
type_is BoolType (Some BoolType) e = refl
type_is BoolType None e = cc

-- a plain value of this type
abbrev of_value : Value → Asking
of_value v = record { meaning = record { value = Ok v; test = Ok false }; is_test = false; right = true }

written : (v : Value) → has_type (value_type v) (of_value v) ≡ true
written (Int n) = refl
written (Text s) = refl

of_kind : (k : ColType) (v : Value) → fits_kind k v ≡ true → has_type (column_type k) (of_value v) ≡ true
of_kind IntColumn (Int n) e = refl
of_kind IntColumn (Text s) e = cc
of_kind TextColumn (Int n) e = cc
of_kind TextColumn (Text s) e = refl

-- the value at a column of a row that fits
at_column : (cs : List Column) (vs : Row) (n : ℕ) (t : ExprType) → length cs ≡ length vs → list_all (λ p. fits_kind p.0.kind p.1) (zip cs vs) ≡ true → schema_type cs n ≡ Some t → has_type t (of_value (column_value vs n)) ≡ true
at_column [] vs n t l h e = cc
at_column (c ∷ cs) [] n t l h e = absurd (omega arith)
at_column (c ∷ cs) (v ∷ vs) zero t l h e = subst (λ t. has_type t (of_value v) ≡ true) (some_same _ t e) (of_kind c.kind v (first_of_two _ _ h))
at_column (c ∷ cs) (v ∷ vs) (suc n) t l h e = at_column cs vs n t (omega arith) (second_of_two _ _ h) e

in_row : (cs : List Column) (vs : Row) (n : ℕ) (t : ExprType) → fits_schema cs vs ≡ true → schema_type cs n ≡ Some t → has_type t (of_value (column_value vs n)) ≡ true
in_row cs vs n t h e = at_column cs vs n t ((Decides-eqb _ _).0 (first_of_two _ _ h)) (second_of_two _ _ h) e

in_source : (sources : List (List Column)) (here : Rows) (source n : ℕ) (t : ExprType) → length sources ≡ length here → list_all (λ p. fits_schema p.0 p.1) (zip sources here) ≡ true → schema_type (get_or sources source []) n ≡ Some t → has_type t (of_value (column_value (get_or here source []) n)) ≡ true
in_source [] here source n t l h e = cc
in_source (cs ∷ sources) [] source n t l h e = absurd (omega arith)
in_source (cs ∷ sources) (vs ∷ here) zero n t l h e = in_row cs vs n t (first_of_two _ _ h) e
in_source (cs ∷ sources) (vs ∷ here) (suc source) n t l h e = in_source sources here source n t (omega arith) (second_of_two _ _ h) e

-- ---- values

checked_gives : (z : ℤ) (b : Bool) → gives_int (cond b (Ok (Int z)) (Err Overflow)) ≡ true
checked_gives z true = refl
checked_gives z false = refl

int_then : (x : OrAbort Value) (f : Value → OrAbort Value) → ((v : Value) → gives_int (f v) ≡ true) → gives_int (x >>= f) ≡ true
int_then (Ok v) f h = h v
int_then (Err r) f h = refl

div_gives : (a b : ℤ) → gives_int (checked_div a b) ≡ true
div_gives a (pos zero) = refl
div_gives a (pos (suc n)) = checked_gives _ _
div_gives a (negsuc n) = checked_gives _ _

two_ints : (x y : OrAbort Value) (op : BinaryOp) → ((a b : Value) → gives_int (apply_binary op a b) ≡ true) → gives_int (x >>= λ a. y >>= λ b. apply_binary op a b) ≡ true
two_ints x y op h = int_then x _ (λ a. int_then y _ (h a))

text_gives : (s : List ℕ) (b : Bool) → gives_text (cond b (Ok (Text s)) (Err TextTooLong)) ≡ true
text_gives s true = refl
text_gives s false = refl

two_texts : (x y : OrAbort Value) → gives_text x ≡ true → gives_text y ≡ true → gives_text (x >>= λ a. y >>= λ b. apply_binary Concat a b) ≡ true
two_texts (Err r) y e f = refl
two_texts (Ok (Int n)) y e f = cc
two_texts (Ok (Text s)) (Err r) e f = refl
two_texts (Ok (Text s)) (Ok (Int n)) e f = cc
two_texts (Ok (Text s)) (Ok (Text t)) e f = text_gives _ _

-- ---- one level

-- what is known of an expression: its type, its meaning, and what it asks
record Sound (o : Option ExprType) (m : Meaning) (a : Asking) : Type 0 where
  same : a.meaning ≡ m
  typed : (t : ExprType) → o ≡ Some t → has_type t a ≡ true

-- a side of this type
side_of : (o : Option ExprType) (m : Meaning) (a : Asking) (t : ExprType) → Sound o m a → is_type t o ≡ true → has_type t a ≡ true
side_of o m a t k e = k.typed t (type_is t o e)

module _ (sources : List (List Column)) (columns : List Column) (here : Rows) (params : Row) where
  abbrev SoundAt : Expr → Type 0
  SoundAt e = Sound (expr_type sources columns e) (meaning here params e) (asking here params e)

  abbrev Such : Type 0
  Such = (e : Expr) × SoundAt e

  -- the level of an expression whose sides are sound
  abbrev SoundLevel : Expr-F Such → Type 0
  SoundLevel y =
      Sound (level_type sources columns (map-Expr Such (Option ExprType) (λ e. expr_type sources columns e.0) y))
      (level_meaning here params (map-Expr Such Meaning (λ e. meaning here params e.0) y))
      (level_asking here params (map-Expr Such Asking (λ e. asking here params e.0) y))

  -- two sides of one type
  two_sides : (l r : Such) (u t : ExprType) → is_type u (expr_type sources columns l.0) && is_type u (expr_type sources columns r.0) ≡ true → (has_type u (asking here params l.0) ≡ true) × (has_type u (asking here params r.0) ≡ true)
  two_sides l r u t e = (side_of _ _ _ u l.1 (first_of_two _ _ e), side_of _ _ _ u r.1 (second_of_two _ _ e))

  -- an operator on two Ints
  ints_sound : (op : BinaryOp) (l r : Such) → ((a b : Value) → gives_int (apply_binary op a b) ≡ true) → (t : ExprType) → typed_when (is_type IntType (expr_type sources columns l.0) && is_type IntType (expr_type sources columns r.0)) IntType ≡ Some t →
      ((int_side (asking here params l.0) && int_side (asking here params r.0)) ≡ true) × (gives_int ((asking here params l.0).meaning.value >>= λ a. (asking here params r.0).meaning.value >>= λ b. apply_binary op a b) ≡ true) × (IntType ≡ t)
  ints_sound op l r gives t e =
      let k = when_typed _ IntType t e in
      let sides = two_sides l r IntType t k.0 in
      (and_from _ _ sides.0 sides.1, two_ints _ _ op gives, k.1)

  int_result : (a : Asking) (t : ExprType) → IntType ≡ t → a.right ≡ true → not a.is_test ≡ true → gives_int a.meaning.value ≡ true → has_type t a ≡ true
  int_result a t e right value gives = subst (λ t. has_type t a ≡ true) e (and_from _ _ (and_from _ _ right value) gives)

  text_result : (a : Asking) (t : ExprType) → TextType ≡ t → a.right ≡ true → not a.is_test ≡ true → gives_text a.meaning.value ≡ true → has_type t a ≡ true
  text_result a t e right value gives = subst (λ t. has_type t a ≡ true) e (and_from _ _ (and_from _ _ right value) gives)

  test_result : (a : Asking) (t : ExprType) → BoolType ≡ t → a.right ≡ true → a.is_test ≡ true → has_type t a ≡ true
  test_result a t e right test = subst (λ t. has_type t a ≡ true) e (and_from _ _ right test)

  gives_texts : (a : Asking) → text_side a ≡ true → gives_text a.meaning.value ≡ true
  gives_texts a e = second_of_two _ _ e

  -- two sides that may be compared
  compared : (l r : Such) → are_comparable (expr_type sources columns l.0) (expr_type sources columns r.0) ≡ true →
      ((int_side (asking here params l.0) && int_side (asking here params r.0)) || (text_side (asking here params l.0) && text_side (asking here params r.0))) ≡ true
  compared l r e = by (either_so _ _ e)
    where
      by : ((is_type IntType (expr_type sources columns l.0) && is_type IntType (expr_type sources columns r.0)) ≡ true) ⊎ ((is_type TextType (expr_type sources columns l.0) && is_type TextType (expr_type sources columns r.0)) ≡ true) →
          ((int_side (asking here params l.0) && int_side (asking here params r.0)) || (text_side (asking here params l.0) && text_side (asking here params r.0))) ≡ true
      by (inl ints) = let sides = two_sides l r IntType IntType ints in or_left _ _ (and_from _ _ sides.0 sides.1)
      by (inr texts) = let sides = two_sides l r TextType TextType texts in or_right _ _ (and_from _ _ sides.0 sides.1)

  -- what an operator gives, typed
  binary_typed : (op : BinaryOp) (l r : Such) (t : ExprType) → level_type sources columns (Expr-F.Binary op (expr_type sources columns l.0) (expr_type sources columns r.0)) ≡ Some t →
      has_type t (level_asking here params (Expr-F.Binary op (asking here params l.0) (asking here params r.0))) ≡ true
  binary_typed Or l r t e = let k = when_typed _ BoolType t e in let sides = two_sides l r BoolType t k.0 in test_result _ t k.1 (and_from _ _ sides.0 sides.1) refl
  binary_typed And l r t e = let k = when_typed _ BoolType t e in let sides = two_sides l r BoolType t k.0 in test_result _ t k.1 (and_from _ _ sides.0 sides.1) refl
  binary_typed (Compare c) l r t e = let k = when_typed _ BoolType t e in test_result _ t k.1 (compared l r k.0) refl
  binary_typed Concat l r t e =
      let k = when_typed _ TextType t e in
      let sides = two_sides l r TextType t k.0 in
      text_result _ t k.1 (and_from _ _ sides.0 sides.1) refl (two_texts _ _ (gives_texts (asking here params l.0) sides.0) (gives_texts (asking here params r.0) sides.1))
  binary_typed Add l r t e = let k = ints_sound Add l r (λ a b. checked_gives _ _) t e in int_result _ t k.2 k.0 refl k.1
  binary_typed Sub l r t e = let k = ints_sound Sub l r (λ a b. checked_gives _ _) t e in int_result _ t k.2 k.0 refl k.1
  binary_typed Mul l r t e = let k = ints_sound Mul l r (λ a b. checked_gives _ _) t e in int_result _ t k.2 k.0 refl k.1
  binary_typed Div l r t e = let k = ints_sound Div l r (λ a b. div_gives (int_of a) (int_of b)) t e in int_result _ t k.2 k.0 refl k.1
  binary_typed Rem l r t e = let k = ints_sound Rem l r (λ a b. int_then (checked_div (int_of a) (int_of b)) _ (λ v. refl)) t e in int_result _ t k.2 k.0 refl k.1

  level_sound : rows_fit sources here ≡ true → fits_schema columns params ≡ true → (y : Expr-F Such) → SoundLevel y
  level_sound rows args (Expr-F.Lit v) = record { same = refl; typed = λ t e. subst (λ t. has_type t (of_value v) ≡ true) (some_same _ t e) (written v) }
  level_sound rows args (Expr-F.Param n) = record { same = refl; typed = λ t e. in_row columns params n t args e }
  level_sound rows args (Expr-F.Col source column) = record { same = refl; typed = λ t e. in_source sources here source column t ((Decides-eqb _ _).0 (first_of_two _ _ rows)) (second_of_two _ _ rows) e }
  level_sound rows args (Expr-F.Unary Not s) = record {
    same = ap (λ m. level_meaning here params (Expr-F.Unary Not m)) s.1.same;
    typed = λ t e. let k = when_typed _ BoolType t e in test_result _ t k.1 (side_of _ _ _ BoolType s.1 k.0) refl;
  }
  level_sound rows args (Expr-F.Unary Negate s) = record {
    same = ap (λ m. level_meaning here params (Expr-F.Unary Negate m)) s.1.same;
    typed = λ t e. let k = when_typed _ IntType t e in int_result _ t k.1 (side_of _ _ _ IntType s.1 k.0) refl (int_then (asking here params s.0).meaning.value (λ v. checked_int (neg_ℤ (int_of v))) (λ v. checked_gives (neg_ℤ (int_of v)) (fits_i64 (neg_ℤ (int_of v)))));
  }
  level_sound rows args (Expr-F.Binary op l r) = record {
    same = λ i. level_meaning here params (Expr-F.Binary op (l.1.same i) (r.1.same i));
    typed = λ t e. binary_typed op l r t e;
  }

  -- an expression, from its level
  made : (x : Expr-F Expr) →
      Sound (level_type sources columns (map-Expr Expr (Option ExprType) (expr_type sources columns) x)) (level_meaning here params (map-Expr Expr Meaning (meaning here params) x)) (level_asking here params (map-Expr Expr Asking (asking here params) x)) →
      SoundAt (roll-Expr x)
  made x k =
      subst (λ o. Sound o (meaning here params (roll-Expr x)) (asking here params (roll-Expr x))) (sym (fold-roll-Expr (Option ExprType) (level_type sources columns) x))
      (subst (λ m. Sound (level_type sources columns (map-Expr Expr (Option ExprType) (expr_type sources columns) x)) m (asking here params (roll-Expr x))) (sym (fold-roll-Expr Meaning (level_meaning here params) x))
      (subst (λ a. Sound (level_type sources columns (map-Expr Expr (Option ExprType) (expr_type sources columns) x)) (level_meaning here params (map-Expr Expr Meaning (meaning here params) x)) a) (sym (fold-roll-Expr Asking (level_asking here params) x)) k))

  -- a level of sound sides
  made_of : (y : Expr-F Such) → SoundLevel y → SoundAt (roll-Expr (map-Expr Such Expr (λ e. e.0) y))
  made_of (Expr-F.Lit v) k = made (Expr-F.Lit v) k
  made_of (Expr-F.Param n) k = made (Expr-F.Param n) k
  made_of (Expr-F.Col source column) k = made (Expr-F.Col source column) k
  made_of (Expr-F.Unary op s) k = made (Expr-F.Unary op s.0) k
  made_of (Expr-F.Binary op l r) k = made (Expr-F.Binary op l.0 r.0) k

  sound_at : rows_fit sources here ≡ true → fits_schema columns params ≡ true → (e : Expr) → SoundAt e
  sound_at rows args = ind-Expr SoundAt (λ x y is. subst (λ x. SoundAt (roll-Expr x)) is (made_of y (level_sound rows args y)))

  pub typing_is_sound : rows_fit sources here ≡ true → fits_schema columns params ≡ true → (e : Expr) (t : ExprType) → expr_type sources columns e ≡ Some t → TypingIsSound sources columns here params e t
  typing_is_sound rows args e t is = let k = sound_at rows args e in record { typed = k.typed t is; same = k.same }
