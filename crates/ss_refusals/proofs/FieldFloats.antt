-- No line of plain fields has a float, so each has one text.
use Rattle.std.proofs.Common.{◌≡◌, ◌++◌, ℕ, List, [], ◌∷◌, map, false, refl}
use Rattle.serde_json.specs.View.{items_of}
use Rattle.serde_json.specs.Written.{has_float, items_have_float}
use Rattle.ss_lines.specs.declared.fields.Field.{Field}
use Rattle.ss_lines.specs.declared.fields.Field.TheVariants.{Text, Number}
use Rattle.ss_lines.specs.Fields.{field_data, line_data}

fields_no_float : (fields : List Field) → items_have_float (items_of (map field_data fields ++ [])) ≡ false
fields_no_float [] = refl
fields_no_float (Text text ∷ fields) = fields_no_float fields
fields_no_float (Number n ∷ fields) = fields_no_float fields

pub line_no_float : (kind : List ℕ) (fields : List Field) → has_float (line_data kind fields []) ≡ false
line_no_float kind fields = fields_no_float fields
