-- A value that is read as an outline has no float.
use Rattle.std.proofs.Common.{◌≡◌, ℕ, ℤ, List, [], ◌∷◌, Bool, true, false, refl, Ok, IfOk}
use Rattle.std.specs.Prelude.{⊤, codes, cond}
use Rattle.std.specs.Str.{bytes_eq}
use Rattle.std.proofs.lemmas.Bool.{cond_both}
use Rattle.serde_json.specs.Data.{unsigned, negative, float, Data, null, boolean, number, string, array, object, Items, no_items, item}
use Rattle.ss_value.specs.declared.schema.ColType.{ColType}
use Rattle.ss_value.specs.declared.schema.Column.{Column}
use Rattle.ss_model.specs.declared.catalog.ProcedureKind.{ProcedureKind}
use Rattle.ss_model.specs.declared.catalog.ProcedureKind.TheVariants.{Call, Border, Interior}
use Rattle.ss_model.specs.Database.{is_call}
use Rattle.ss_catalog_outline.specs.declared.types.PlacementOutline.{PlacementOutline}
use Rattle.ss_catalog_outline.specs.declared.types.PlacementOutline.TheVariants.{Part as PartPlace, By}
use Rattle.ss_catalog_outline.specs.declared.types.TouchOutline.{TouchOutline}
use Rattle.ss_catalog_outline.specs.declared.types.TouchOutline.TheVariants.{Arg, All}
use Rattle.ss_catalog_outline.specs.declared.types.GivenOutline.{GivenOutline}
use Rattle.ss_catalog_outline.specs.declared.types.InnerOutline.{InnerOutline}
use Rattle.ss_catalog_outline.specs.declared.types.InnerOutline.TheVariants.{Sql as InnerSql, AbortIf as InnerAbortIf}
use Rattle.ss_catalog_outline.specs.declared.types.StepOutline.{StepOutline}
use Rattle.ss_catalog_outline.specs.declared.types.StepOutline.TheVariants.{ReturnAll, Sql, AbortIf, Return}
use Rattle.ss_catalog_outline.specs.declared.types.Outline.{Outline}
use Rattle.ss_catalog_outline.specs.declared.steps.StepForm.{StepForm}
use Rattle.ss_catalog_outline.specs.declared.steps.StepForm.TheVariants.{Insert as InsertForm, ReturnAll as ReturnAllForm, Emit as EmitForm, Sql as SqlForm, AbortIf as AbortIfForm, ForEach as ForEachForm, Return as ReturnForm}
use Rattle.ss_catalog_json.specs.declared.json_readers.ItemCount.TheVariants.{Any, AtLeastOne, JustOne}
use Rattle.ss_catalog_json.specs.Readings.{Reading, ◌>>=◌, inside, item_step, or_here, read_word, read_name, read_between, read_array_of, has_key, object_of, read_key, no_key}
use Rattle.ss_catalog_outline.specs.Tables.{kind_of, read_kind, read_pair, read_column, read_columns, read_words, read_part, read_placement, part_keys, by_keys, table_object, read_table, stream_keys, read_stream, unit_of, read_unit, window_keys, read_window, trigger_keys, read_trigger}
use Rattle.ss_catalog_outline.specs.Steps.{read_given_arg, given_text, read_given, form_of, may_stand, read_alone, read_int, read_test, read_inner_as, read_inner, read_insert, read_for_each, read_emit, read_step_as, read_step, read_steps}
use Rattle.ss_catalog_outline.specs.Procedures.{read_touch_part, read_touch_multi, read_touch_form, read_touch, kind_word, read_procedure_kind, read_args, read_inputs, procedure_keys, read_procedure}
use Rattle.ss_catalog_outline.specs.Outlines.{section_keys, read_outline}
use Rattle.ss_catalog_laws.proofs.CallerLemmas.{then_any, then_with, inside_holds, where_holds, any_holds, holds_with, of_read}
use Rattle.ss_catalog.proofs.InOrder.{IsInOrder, AreInOrder}
use Rattle.ss_catalog.proofs.NoFloats.{HasNoFloat, ReadsNoFloat, HaveNoFloat, one_more, word_none, word_of_none, name_none, between_none, signed_none, array_none, HasNoneAt, HasNoneIfAt, object_none, key_none, key_or_none, no_key_none, then_object, then_key, then_key_or}

-- ---- columns

kind_none : ReadsNoFloat read_kind
kind_none = word_of_none kind_of

pair_none : (ds : Items) → AreInOrder ds → IfOk (read_pair ds) (λ (c : Column). HaveNoFloat ds)
pair_none no_items so = tt
pair_none (item name no_items) so = tt
pair_none (item name (item kind no_items)) so =
    let two : Column → Type 0 = λ c. HaveNoFloat (item name (item kind no_items)) in
    then_with (List ℕ) two (λ x. HasNoFloat name) (inside (item_step 0) (read_name name)) _ (inside_holds (λ x. HasNoFloat name) (item_step 0) (read_name name) (name_none name so.0)) (λ n first.
    then_with ColType two (λ x. HasNoFloat kind) (inside (item_step 1) (read_kind kind)) _ (inside_holds (λ x. HasNoFloat kind) (item_step 1) (read_kind kind) (kind_none kind so.1.0)) (λ k second.
    one_more name (item kind no_items) first (one_more kind no_items second refl)))
pair_none (item name (item kind (item other ds))) so = tt

column_none : ReadsNoFloat read_column
column_none null so = tt
column_none (boolean b) so = tt
column_none (number n) so = tt
column_none (string s) so = tt
column_none (array ds) so = pair_none ds so
column_none (object ms) so = tt

columns_none : ReadsNoFloat read_columns
columns_none = array_none read_column column_none AtLeastOne

words_none : ReadsNoFloat read_words
words_none = array_none read_word word_none AtLeastOne

-- ---- tables

part_none : ReadsNoFloat read_part
part_none = between_none 0 7

-- the key of a table's placement, and its keys
abbrev placement_key : Bool → List ℕ
placement_key b = cond b (codes "part") (codes "by")

abbrev table_keys : Bool → List (List ℕ)
table_keys b = codes "name" ∷ codes "columns" ∷ codes "key" ∷ placement_key b ∷ codes "indexes" ∷ []

module _ (d : Data) (so : IsInOrder d) where
  placement_by : (b : Bool) → IfOk (cond b (read_key (codes "part") read_part d >>= λ p. Ok (PartPlace p)) (read_key (codes "by") read_word d >>= λ c. Ok (By c))) (λ (x : PlacementOutline). HasNoneAt d (placement_key b))
  placement_by true = then_with ℕ (λ (x : PlacementOutline). HasNoneAt d (codes "part")) (λ x. HasNoneAt d (codes "part")) (read_key (codes "part") read_part d) (λ p. Ok (PartPlace p)) (key_none read_part part_none (codes "part") d so) (λ p none. none)
  placement_by false = then_with (List ℕ) (λ (x : PlacementOutline). HasNoneAt d (codes "by")) (λ x. HasNoneAt d (codes "by")) (read_key (codes "by") read_word d) (λ c. Ok (By c)) (key_none read_word word_none (codes "by") d so) (λ c none. none)

  table_by : (b : Bool) → IfOk (cond b (object_of part_keys d) (object_of by_keys d)) (λ (u : ⊤). HasNoneIfAt d (table_keys b))
  table_by true = object_none part_keys d so
  table_by false = object_none by_keys d so

indexes_none : ReadsNoFloat (read_array_of Any read_words)
indexes_none = array_none read_words words_none Any

table_none : ReadsNoFloat read_table
table_none d so =
    then_with ⊤ (λ x. HasNoFloat d) (λ u. HasNoneIfAt d (table_keys (has_key (codes "part") d))) (table_object d) _ (table_by d so (has_key (codes "part") d)) (λ u whole.
    then_key d so (codes "name") read_name name_none _ (λ name a.
    then_key d so (codes "columns") read_columns columns_none _ (λ columns b.
    then_key d so (codes "key") read_words words_none _ (λ key c.
    then_with PlacementOutline (λ x. HasNoFloat d) (λ x. HasNoneAt d (placement_key (has_key (codes "part") d))) (read_placement d) _ (placement_by d so (has_key (codes "part") d)) (λ placement p.
    then_key_or d so (codes "indexes") (read_array_of Any read_words) indexes_none [] _ (λ indexes i. whole (a, (b, (c, (p, (i, tt)))))))))))

-- ---- streams, windows and triggers

stream_none : ReadsNoFloat read_stream
stream_none d so =
    then_object d so stream_keys _ (λ u whole.
    then_key d so (codes "name") read_name name_none _ (λ name a.
    then_key d so (codes "columns") read_columns columns_none _ (λ columns b. whole (a, (b, tt)))))

unit_none : ReadsNoFloat read_unit
unit_none = word_of_none unit_of

window_none : ReadsNoFloat read_window
window_none d so =
    then_object d so window_keys _ (λ u whole.
    then_key d so (codes "name") read_name name_none _ (λ name a.
    then_key d so (codes "columns") read_columns columns_none _ (λ columns b.
    then_key d so (codes "owner") read_word word_none _ (λ owner c.
    then_key d so (codes "unit") read_unit unit_none _ (λ unit e.
    then_key d so (codes "size") (read_between 1 65536) (between_none 1 65536) _ (λ size f.
    then_key d so (codes "slide") (read_between 1 size) (between_none 1 size) _ (λ slide g. whole (a, (b, (c, (e, (f, (g, tt)))))))))))))

trigger_none : ReadsNoFloat read_trigger
trigger_none d so =
    then_object d so trigger_keys _ (λ u whole.
    then_key d so (codes "name") read_name name_none _ (λ name a.
    then_key d so (codes "on") read_word word_none _ (λ on b.
    then_key d so (codes "sql") read_words words_none _ (λ statements c. whole (a, (b, (c, tt)))))))

-- ---- steps

alone_none : (key : List ℕ) → ReadsNoFloat (read_alone key)
alone_none key d so =
    then_object d so (key ∷ []) _ (λ u whole.
    holds_with (λ (x : List ℕ). HasNoneAt d key) (λ (x : List ℕ). HasNoFloat d) (λ x a. whole (a, tt)) (read_key key read_word d) (key_none read_word word_none key d so))

given_arg_none : ReadsNoFloat read_given_arg
given_arg_none d so =
    then_object d so (codes "arg" ∷ []) _ (λ u whole.
    then_key d so (codes "arg") read_word word_none _ (λ name a. whole (a, tt)))

given_none : ReadsNoFloat read_given
given_none null so = tt
given_none (boolean b) so = tt
given_none (number (unsigned n)) so = any_holds (λ (x : GivenOutline). HasNoFloat (number (unsigned n))) (λ x. refl) (read_given (number (unsigned n)))
given_none (number (negative z)) so = refl
given_none (number (float x)) so = tt
given_none (string s) so = any_holds (λ (x : GivenOutline). HasNoFloat (string s)) (λ x. refl) (given_text s)
given_none (array ds) so = tt
given_none (object ms) so = given_arg_none (object ms) so

int_none : ReadsNoFloat read_int
int_none = signed_none

test_none : ReadsNoFloat read_test
test_none d so =
    then_object d so (codes "abort_if" ∷ codes "code" ∷ []) _ (λ u whole.
    then_key d so (codes "abort_if") read_word word_none _ (λ test a.
    then_key d so (codes "code") read_int int_none _ (λ code b. whole (a, (b, tt)))))

-- what is made of one that is read
module _ {A B : Type 0} (read : Reading A) (none : ReadsNoFloat read) (made : A → B) where
  made_none : ReadsNoFloat (λ (d : Data). read d >>= λ a. Ok (made a))
  made_none d so = then_with A (λ (x : B). HasNoFloat d) (λ (x : A). HasNoFloat d) (read d) (λ a. Ok (made a)) (none d so) (λ a none. none)

inner_as_none : (form : StepForm) → ReadsNoFloat (read_inner_as form)
inner_as_none SqlForm = made_none (read_alone (codes "sql")) (alone_none (codes "sql")) InnerSql
inner_as_none AbortIfForm = made_none read_test test_none (λ (t : List ℕ × ℤ). InnerAbortIf t.0 t.1)
inner_as_none InsertForm = λ d so. tt
inner_as_none ReturnAllForm = λ d so. tt
inner_as_none EmitForm = λ d so. tt
inner_as_none ForEachForm = λ d so. tt
inner_as_none ReturnForm = λ d so. tt

inner_none : ReadsNoFloat read_inner
inner_none d so = then_any StepForm (λ (x : InnerOutline). HasNoFloat d) (or_here (form_of d)) _ (λ form. inner_as_none form d so)

insert_none : ReadsNoFloat read_insert
insert_none d so =
    then_object d so (codes "insert" ∷ codes "values" ∷ []) _ (λ u whole.
    then_key d so (codes "insert") read_word word_none _ (λ table a.
    then_key d so (codes "values") (read_array_of Any read_given) (array_none read_given given_none Any) _ (λ values b. whole (a, (b, tt)))))

for_each_none : ReadsNoFloat read_for_each
for_each_none d so =
    then_object d so (codes "for_each" ∷ codes "body" ∷ []) _ (λ u whole.
    then_key d so (codes "for_each") read_word word_none _ (λ stream a.
    then_key d so (codes "body") (read_array_of Any read_inner) (array_none read_inner inner_none Any) _ (λ body b. whole (a, (b, tt)))))

emit_none : ReadsNoFloat read_emit
emit_none d so =
    then_object d so (codes "emit" ∷ codes "sql" ∷ []) _ (λ u whole.
    then_key d so (codes "emit") read_word word_none _ (λ stream a.
    then_key d so (codes "sql") read_word word_none _ (λ query b. whole (a, (b, tt)))))

step_as_none : (form : StepForm) → ReadsNoFloat (read_step_as form)
step_as_none InsertForm = insert_none
step_as_none ReturnAllForm = made_none (read_alone (codes "return_all")) (alone_none (codes "return_all")) ReturnAll
step_as_none EmitForm = emit_none
step_as_none SqlForm = made_none (read_alone (codes "sql")) (alone_none (codes "sql")) Sql
step_as_none AbortIfForm = made_none read_test test_none (λ (t : List ℕ × ℤ). AbortIf t.0 t.1)
step_as_none ForEachForm = for_each_none
step_as_none ReturnForm = made_none (read_alone (codes "return")) (alone_none (codes "return")) Return

step_none : (kind : ProcedureKind) → ReadsNoFloat (read_step kind)
step_none kind d so =
    then_any StepForm (λ (x : StepOutline). HasNoFloat d) (or_here (form_of d)) _ (λ form.
    where_holds (λ (x : StepOutline). HasNoFloat d) (may_stand kind form) (read_step_as form d) (λ may. step_as_none form d so))

-- ---- touch sets

touch_part_none : ReadsNoFloat read_touch_part
touch_part_none d so =
    then_object d so (codes "part" ∷ []) _ (λ u whole.
    then_key d so (codes "part") read_part part_none _ (λ p a. whole (a, tt)))

touch_multi_none : ReadsNoFloat read_touch_multi
touch_multi_none d so =
    then_object d so (codes "multi" ∷ []) _ (λ u whole.
    then_key d so (codes "multi") (read_array_of AtLeastOne read_part) (array_none read_part part_none AtLeastOne) _ (λ ps a. whole (a, tt)))

module _ (kind : ProcedureKind) where
  touch_form_none : ReadsNoFloat (read_touch_form kind)
  touch_form_none d so =
      cond_both (has_key (codes "part") d) _ _ (λ r. IfOk r (λ (x : TouchOutline). HasNoFloat d)) (λ is. touch_part_none d so) (λ no.
      cond_both (has_key (codes "arg") d) _ _ (λ r. IfOk r (λ (x : TouchOutline). HasNoFloat d))
      (λ is. where_holds (λ (x : TouchOutline). HasNoFloat d) (is_call kind) _ (λ call. made_none (read_alone (codes "arg")) (alone_none (codes "arg")) Arg d so))
      (λ no. cond_both (has_key (codes "multi") d) _ _ (λ r. IfOk r (λ (x : TouchOutline). HasNoFloat d)) (λ is. touch_multi_none d so) (λ no. tt)))

  touch_none : ReadsNoFloat (read_touch kind)
  touch_none null so = touch_form_none null so
  touch_none (boolean b) so = touch_form_none (boolean b) so
  touch_none (number n) so = touch_form_none (number n) so
  touch_none (string s) so = where_holds (λ (x : TouchOutline). HasNoFloat (string s)) (bytes_eq s (codes "all")) (Ok All) (λ is. refl)
  touch_none (array ds) so = touch_form_none (array ds) so
  touch_none (object ms) so = touch_form_none (object ms) so

-- ---- procedures

procedure_kind_none : ReadsNoFloat read_procedure_kind
procedure_kind_none = word_of_none kind_word

module _ (d : Data) (so : IsInOrder d) where
  no_args : IfOk (no_key (codes "args") d >>= λ u. Ok []) (λ (x : List Column). HasNoneAt d (codes "args"))
  no_args = then_with ⊤ (λ (x : List Column). HasNoneAt d (codes "args")) (λ u. HasNoneAt d (codes "args")) (no_key (codes "args") d) (λ u. Ok []) (no_key_none (codes "args") d) (λ u none. none)

  args_none : (kind : ProcedureKind) → IfOk (read_args kind d) (λ (x : List Column). HasNoneAt d (codes "args"))
  args_none Call = key_or_none (read_array_of Any read_column) (array_none read_column column_none Any) (codes "args") d so []
  args_none Border = no_args
  args_none Interior = no_args

  inputs_none : (kind : ProcedureKind) → IfOk (read_inputs kind d) (λ (x : List (List ℕ)). HasNoneAt d (codes "inputs"))
  inputs_none Call = then_with ⊤ (λ (x : List (List ℕ)). HasNoneAt d (codes "inputs")) (λ u. HasNoneAt d (codes "inputs")) (no_key (codes "inputs") d) (λ u. Ok []) (no_key_none (codes "inputs") d) (λ u none. none)
  inputs_none Border = key_none (read_array_of JustOne read_word) (array_none read_word word_none JustOne) (codes "inputs") d so
  inputs_none Interior = key_none (read_array_of AtLeastOne read_word) (array_none read_word word_none AtLeastOne) (codes "inputs") d so

procedure_none : ReadsNoFloat read_procedure
procedure_none d so =
    then_object d so procedure_keys _ (λ u whole.
    then_key d so (codes "name") read_name name_none _ (λ name a.
    then_key d so (codes "kind") read_procedure_kind procedure_kind_none _ (λ kind b.
    then_with (List Column) (λ x. HasNoFloat d) (λ x. HasNoneAt d (codes "args")) (read_args kind d) _ (args_none d so kind) (λ args c.
    then_with (List (List ℕ)) (λ x. HasNoFloat d) (λ x. HasNoneAt d (codes "inputs")) (read_inputs kind d) _ (inputs_none d so kind) (λ inputs e.
    then_key d so (codes "touch") (read_touch kind) (touch_none kind) _ (λ touch f.
    then_key d so (codes "body") (read_array_of Any (read_step kind)) (array_none (read_step kind) (step_none kind) Any) _ (λ body g. whole (a, (b, (c, (e, (f, (g, tt)))))))))))))

-- ---- the whole

outline_none : ReadsNoFloat read_outline
outline_none d so =
    then_object d so section_keys _ (λ u whole.
    then_key_or d so (codes "tables") (read_array_of Any read_table) (array_none read_table table_none Any) [] _ (λ tables a.
    then_key_or d so (codes "streams") (read_array_of Any read_stream) (array_none read_stream stream_none Any) [] _ (λ streams b.
    then_key_or d so (codes "windows") (read_array_of Any read_window) (array_none read_window window_none Any) [] _ (λ windows c.
    then_key_or d so (codes "triggers") (read_array_of Any read_trigger) (array_none read_trigger trigger_none Any) [] _ (λ triggers e.
    then_key_or d so (codes "procedures") (read_array_of Any read_procedure) (array_none read_procedure procedure_none Any) [] _ (λ procedures f. whole (a, (b, (c, (e, (f, tt)))))))))))

pub outline_has_no_float : (d : Data) (o : Outline) → IsInOrder d → read_outline d ≡ Ok o → HasNoFloat d
outline_has_no_float d o so is = of_read (λ (x : Outline). HasNoFloat d) (read_outline d) (outline_none d so) o is

-- the value of a body has none either
pub body_has_no_float : (kind : ProcedureKind) (d : Data) (steps : List StepOutline) → IsInOrder d → read_steps kind d ≡ Ok steps → HasNoFloat d
body_has_no_float kind d steps so is = of_read (λ (x : List StepOutline). HasNoFloat d) (read_steps kind d) (array_none (read_step kind) (step_none kind) Any d so) steps is
