use Rattle.std.proofs.Common.{◌≡◌, ◌∷◌, take, map}
use Rattle.serde_json.specs.Data.{string}
use Rattle.serde_json.specs.View.{view}
use Rattle.ss_lines.specs.Fields.{field_data}
use Rattle.ss_lines.proofs.fields.items_json.Given as goal

abbrev pub invariant-loop-field : goal.invariant-loop-field
invariant-loop-field l = map view l.items.items ≡ string l.kind ∷ map field_data (take l.field-index l.fields)
