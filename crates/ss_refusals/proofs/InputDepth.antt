-- How deep the value of a line nests.
use Rattle.std.proofs.Common.{◌≡◌, ◌≤◌, ℕ, List, Bool, true, false}
use Rattle.std.specs.Prelude.{Option, Some, None, Ok, Err, if◌then◌else◌}
use Rattle.std.specs.Option.{ok_or}
use Rattle.serde_json.specs.Data.{Data, depth}
use Rattle.serde_json.specs.Read.{read, max_depth}
use Rattle.serde_json.proofs.Nesting.{depth-read}
use Rattle.ss_lines.specs.declared.line.Line.{Line}
use Rattle.ss_lines.specs.declared.line.LineError.{LineError}
use Rattle.ss_lines.specs.declared.line.LineError.TheVariants.{LineTooLong, NotJson}
use Rattle.ss_lines.specs.Json.{value_at, json_of}

read_depth : (b : Bool) (bytes : List ℕ) (d : Data) → (if b then read bytes else None) ≡ Some d → depth d ≤ max_depth
read_depth true bytes d h = depth-read bytes d h
read_depth false bytes d h = absurd (let no : ⊥ = cc in no)

from_ok_or : (o : Option Data) (e : LineError) (d : Data) → ok_or o e ≡ Ok d → o ≡ Some d
from_ok_or (Some x) e d h = cc
from_ok_or None e d h = cc

depth_at : (b : Bool) (l : Line) (d : Data) → (if b then Err (LineTooLong l.number) else ok_or (json_of l.bytes) (NotJson l.number)) ≡ Ok d → depth d ≤ max_depth
depth_at true l d h = absurd (let no : ⊥ = cc in no)
depth_at false l d h = read_depth _ l.bytes d (from_ok_or (json_of l.bytes) (NotJson l.number) d h)

-- what serde_json reads from a line isn't nested too deep to be read again
pub value_depth : (l : Line) (d : Data) → value_at l ≡ Ok d → depth d ≤ max_depth
value_depth l d h = depth_at _ l d h
