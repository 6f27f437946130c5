-- The lines that are made of plain fields.
use Rattle.std.specs.Prelude.{ℕ, List, ◌∷◌, ◌++◌, map}
use Rattle.serde_json.specs.Data.{Data, string, number, array, unsigned}
use Rattle.serde_json.specs.View.{items_of}
use Rattle.ss_lines.specs.declared.fields.Field.{Field}
use Rattle.ss_lines.specs.declared.fields.Field.TheVariants.{Text, Number}

-- a plain field as JSON: a text as a string, a number as a number
abbrev pub field_data : Field → Data
field_data (Text text) = string text.now
field_data (Number n) = number (unsigned n)

-- a line: the word for its kind, its plain fields, and what stands behind them
abbrev pub line_data : List ℕ → List Field → List Data → Data
line_data kind fields behind = array (items_of (string kind ∷ map field_data fields ++ behind))
