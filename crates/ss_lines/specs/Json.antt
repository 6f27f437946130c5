-- The JSON value of a line.
use Rattle.std.specs.Prelude.{◌≡◌, ◌==◌, List, ℕ, length, Option, None, Some, Result, Err, nat_lt, if◌then◌else◌}
use Rattle.std.specs.Option.{ok_or}
use Rattle.std.specs.Str.Lossy.{utf8_valid_len}
use Rattle.serde_json.specs.Data.{Data}
use Rattle.serde_json.specs.Read.{read}
use Rattle.serde_json.specs.Written.{compact_text}
use Rattle.ss_lines.specs.Lines.{max_line}
use Rattle.ss_lines.specs.declared.line.Line.{Line}
use Rattle.ss_lines.specs.declared.line.LineError.{LineError}
use Rattle.ss_lines.specs.declared.line.LineError.TheVariants.{LineTooLong, NotJson}

-- the value whose text these bytes are, if they are UTF-8 and JSON
abbrev pub json_of : List ℕ → Option Data
json_of bytes = if utf8_valid_len bytes == length bytes then read bytes else None

-- the value of a line, or why it has none: it is too long, or else it is not JSON
abbrev pub value_at : Line → Result Data LineError
value_at l = if nat_lt max_line (length l.bytes) then Err (LineTooLong l.number) else ok_or (json_of l.bytes) (NotJson l.number)

-- the text of a value is read as that value
abbrev pub ReadsBack : Data → Type 0
ReadsBack d = json_of (compact_text d) ≡ Some d
