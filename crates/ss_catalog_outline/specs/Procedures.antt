-- Procedures as JSON.
use Rattle.std.specs.Prelude.{ℕ, List, [], ◌∷◌, cond, Option, Some, None, Ok, Err, codes, option_and_then}
use Rattle.std.specs.Str.{bytes_eq}
use Rattle.serde_json.specs.Find.{as_str}
use Rattle.ss_value.specs.declared.schema.Column.{Column}
use Rattle.ss_model.specs.declared.catalog.ProcedureKind.{ProcedureKind}
use Rattle.ss_model.specs.declared.catalog.ProcedureKind.TheVariants.{Call, Border, Interior}
use Rattle.ss_model.specs.Database.{is_call}
use Rattle.ss_catalog_json.specs.declared.json_readers.ItemCount.TheVariants.{Any, AtLeastOne, JustOne}
use Rattle.ss_catalog_outline.specs.declared.types.TouchOutline.{TouchOutline}
use Rattle.ss_catalog_outline.specs.declared.types.TouchOutline.TheVariants.{Part, Arg, Multi, All}
use Rattle.ss_catalog_outline.specs.declared.types.ProcedureOutline.{ProcedureOutline}
use Rattle.ss_catalog_json.specs.Readings.{OrFault, Reading, ◌>>=◌, or_here, only_where, read_word, read_name, read_array_of, has_key, object_of, read_key, read_key_or, no_key}
use Rattle.ss_catalog_outline.specs.Tables.{read_column, read_part}
use Rattle.ss_catalog_outline.specs.Steps.{read_alone, read_step}

-- ---- touch sets

abbrev pub read_touch_part : Reading TouchOutline
read_touch_part d = object_of (codes "part" ∷ []) d >>= λ _. read_key (codes "part") read_part d >>= λ p. Ok (Part p)

abbrev pub read_touch_multi : Reading TouchOutline
read_touch_multi d = object_of (codes "multi" ∷ []) d >>= λ _. read_key (codes "multi") (read_array_of AtLeastOne read_part) d >>= λ ps. Ok (Multi ps)

-- the form is that of the first of these keys that is there; only a call may have the form `arg`
abbrev pub read_touch_form : ProcedureKind → Reading TouchOutline
read_touch_form kind d =
    cond (has_key (codes "part") d) (read_touch_part d)
    (cond (has_key (codes "arg") d) (only_where (is_call kind) (read_alone (codes "arg") d >>= λ name. Ok (Arg name)))
    (cond (has_key (codes "multi") d) (read_touch_multi d) (Err [])))

-- the only text is `all`; a value that is no text is read as this
abbrev pub all_or : Option (List ℕ) → OrFault TouchOutline → OrFault TouchOutline
all_or (Some word) r = only_where (bytes_eq word (codes "all")) (Ok All)
all_or None r = r

abbrev pub read_touch : ProcedureKind → Reading TouchOutline
read_touch kind d = all_or (as_str d) (read_touch_form kind d)

-- ---- procedures

abbrev pub kind_word : List ℕ → Option ProcedureKind
kind_word word =
    cond (bytes_eq word (codes "call")) (Some Call)
    (cond (bytes_eq word (codes "border")) (Some Border)
    (cond (bytes_eq word (codes "interior")) (Some Interior) None))

-- a procedure's kind: who starts it
abbrev pub read_procedure_kind : Reading ProcedureKind
read_procedure_kind d = or_here (option_and_then kind_word (as_str d))

-- a call may have arguments, and no other kind may
abbrev pub read_args : ProcedureKind → Reading (List Column)
read_args kind d =
    cond (is_call kind) (read_key_or (codes "args") (read_array_of Any read_column) [] d)
    (no_key (codes "args") d >>= λ _. Ok [])

-- a border procedure has one input, an interior one at least one, a call none
abbrev pub read_inputs : ProcedureKind → Reading (List (List ℕ))
read_inputs Call d = no_key (codes "inputs") d >>= λ _. Ok []
read_inputs Border d = read_key (codes "inputs") (read_array_of JustOne read_word) d
read_inputs Interior d = read_key (codes "inputs") (read_array_of AtLeastOne read_word) d

abbrev pub procedure_keys : List (List ℕ)
procedure_keys = codes "name" ∷ codes "kind" ∷ codes "args" ∷ codes "inputs" ∷ codes "touch" ∷ codes "body" ∷ []

-- a procedure
abbrev pub read_procedure : Reading ProcedureOutline
read_procedure d =
    object_of procedure_keys d >>= λ _.
    read_key (codes "name") read_name d >>= λ name.
    read_key (codes "kind") read_procedure_kind d >>= λ kind.
    read_args kind d >>= λ args.
    read_inputs kind d >>= λ inputs.
    read_key (codes "touch") (read_touch kind) d >>= λ touch.
    read_key (codes "body") (read_array_of Any (read_step kind)) d >>= λ body.
    Ok (record { name = name; kind = kind; args = args; inputs = inputs; touch = touch; body = body })
