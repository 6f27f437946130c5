-- The steps of a body as JSON.
use Rattle.std.specs.Prelude.{ℕ, ℤ, List, [], ◌∷◌, Bool, true, cond, not, Option, Some, None, Ok, Err, codes, option_and_then, nat_le, length}
use Rattle.serde_json.specs.Data.{Data}
use Rattle.serde_json.specs.Find.{as_str, as_number, as_i64}
use Rattle.ss_value.specs.declared.value.Value.TheVariants.{Int, Text}
use Rattle.ss_model.specs.declared.catalog.ProcedureKind.{ProcedureKind}
use Rattle.ss_model.specs.Database.{is_call}
use Rattle.ss_catalog_json.specs.declared.json_readers.ItemCount.TheVariants.{Any}
use Rattle.ss_catalog_outline.specs.declared.types.GivenOutline.{GivenOutline}
use Rattle.ss_catalog_outline.specs.declared.types.GivenOutline.TheVariants.{Value as GivenValue, Arg as GivenArg}
use Rattle.ss_catalog_outline.specs.declared.types.InnerOutline.{InnerOutline}
use Rattle.ss_catalog_outline.specs.declared.types.InnerOutline.TheVariants.{Sql as InnerSql, AbortIf as InnerAbortIf}
use Rattle.ss_catalog_outline.specs.declared.types.StepOutline.{StepOutline}
use Rattle.ss_catalog_outline.specs.declared.types.StepOutline.TheVariants.{Insert, ReturnAll, Sql, AbortIf, ForEach, Emit, Return}
use Rattle.ss_catalog_outline.specs.declared.steps.StepForm.{StepForm}
use Rattle.ss_catalog_outline.specs.declared.steps.StepForm.TheVariants.{Insert as InsertForm, ReturnAll as ReturnAllForm, Emit as EmitForm, Sql as SqlForm, AbortIf as AbortIfForm, ForEach as ForEachForm, Return as ReturnForm}
use Rattle.ss_catalog_json.specs.Readings.{OrFault, Reading, ◌>>=◌, or_here, only_where, read_word, read_array_of, has_key, object_of, read_key}

-- ---- values of an `insert` step

-- the argument that is named
abbrev pub read_given_arg : Reading GivenOutline
read_given_arg d = object_of (codes "arg" ∷ []) d >>= λ _. read_key (codes "arg") read_word d >>= λ name. Ok (GivenArg name)

-- a text of at most 255 bytes
abbrev pub given_text : List ℕ → OrFault GivenOutline
given_text text = only_where (nat_le (length text) 255) (Ok (GivenValue (Text text)))

-- a text, or what is no text as this
abbrev pub text_or : Option (List ℕ) → OrFault GivenOutline → OrFault GivenOutline
text_or (Some text) r = given_text text
text_or None r = r

-- an Int, or what is no Int as this
abbrev pub int_or : Option ℤ → OrFault GivenOutline → OrFault GivenOutline
int_or (Some z) r = Ok (GivenValue (Int z))
int_or None r = r

-- an Int, a text of at most 255 bytes, or an argument
abbrev pub read_given : Reading GivenOutline
read_given d = int_or (option_and_then as_i64 (as_number d)) (text_or (as_str d) (read_given_arg d))

-- ---- forms of steps

-- the form of a step is the first of these whose key is there; `emit` comes before `sql`, since an `emit` step has both keys
abbrev pub form_of : Data → Option StepForm
form_of d =
    cond (has_key (codes "insert") d) (Some InsertForm)
    (cond (has_key (codes "return_all") d) (Some ReturnAllForm)
    (cond (has_key (codes "emit") d) (Some EmitForm)
    (cond (has_key (codes "sql") d) (Some SqlForm)
    (cond (has_key (codes "abort_if") d) (Some AbortIfForm)
    (cond (has_key (codes "for_each") d) (Some ForEachForm)
    (cond (has_key (codes "return") d) (Some ReturnForm)
    None))))))

-- each kind may have SQL and tests; of the other forms some are only for calls, and the others for all kinds but calls
abbrev pub may_stand : ProcedureKind → StepForm → Bool
may_stand kind SqlForm = true
may_stand kind AbortIfForm = true
may_stand kind EmitForm = not (is_call kind)
may_stand kind ForEachForm = not (is_call kind)
may_stand kind InsertForm = is_call kind
may_stand kind ReturnAllForm = is_call kind
may_stand kind ReturnForm = is_call kind

-- ---- steps that each kind of procedure may have

-- one text, at its only key
abbrev pub read_alone : List ℕ → Reading (List ℕ)
read_alone key d = object_of (key ∷ []) d >>= λ _. read_key key read_word d

-- an Int
abbrev pub read_int : Reading ℤ
read_int d = or_here (option_and_then as_i64 (as_number d))

-- a test and its code
abbrev pub read_test : Reading (List ℕ × ℤ)
read_test d =
    object_of (codes "abort_if" ∷ codes "code" ∷ []) d >>= λ _.
    read_key (codes "abort_if") read_word d >>= λ test.
    read_key (codes "code") read_int d >>= λ code.
    Ok (test, code)

-- a step inside a `for_each` is SQL or a test
abbrev pub read_inner_as : StepForm → Reading InnerOutline
read_inner_as SqlForm d = read_alone (codes "sql") d >>= λ text. Ok (InnerSql text)
read_inner_as AbortIfForm d = read_test d >>= λ t. Ok (InnerAbortIf t.0 t.1)
read_inner_as _ d = Err []

abbrev pub read_inner : Reading InnerOutline
read_inner d = or_here (form_of d) >>= λ form. read_inner_as form d

-- ---- steps that some kinds of procedures may have

abbrev pub read_insert : Reading StepOutline
read_insert d =
    object_of (codes "insert" ∷ codes "values" ∷ []) d >>= λ _.
    read_key (codes "insert") read_word d >>= λ table.
    read_key (codes "values") (read_array_of Any read_given) d >>= λ values.
    Ok (Insert table values)

abbrev pub read_for_each : Reading StepOutline
read_for_each d =
    object_of (codes "for_each" ∷ codes "body" ∷ []) d >>= λ _.
    read_key (codes "for_each") read_word d >>= λ stream.
    read_key (codes "body") (read_array_of Any read_inner) d >>= λ body.
    Ok (ForEach stream body)

abbrev pub read_emit : Reading StepOutline
read_emit d =
    object_of (codes "emit" ∷ codes "sql" ∷ []) d >>= λ _.
    read_key (codes "emit") read_word d >>= λ stream.
    read_key (codes "sql") read_word d >>= λ query.
    Ok (Emit stream query)

-- a step of this form
abbrev pub read_step_as : StepForm → Reading StepOutline
read_step_as InsertForm d = read_insert d
read_step_as ReturnAllForm d = read_alone (codes "return_all") d >>= λ table. Ok (ReturnAll table)
read_step_as EmitForm d = read_emit d
read_step_as SqlForm d = read_alone (codes "sql") d >>= λ text. Ok (Sql text)
read_step_as AbortIfForm d = read_test d >>= λ t. Ok (AbortIf t.0 t.1)
read_step_as ForEachForm d = read_for_each d
read_step_as ReturnForm d = read_alone (codes "return") d >>= λ query. Ok (Return query)

-- a step of a procedure of this kind; a form that this kind may not have is a fault of the step itself
abbrev pub read_step : ProcedureKind → Reading StepOutline
read_step kind d = or_here (form_of d) >>= λ form. only_where (may_stand kind form) (read_step_as form d)

-- the steps of a body of a procedure of this kind
abbrev pub read_steps : ProcedureKind → Reading (List StepOutline)
read_steps kind = read_array_of Any (read_step kind)
