-- Lines that begin with those that say something.
use Rattle.std.specs.Prelude.{◌≡◌, ◌++◌, ℕ, List}
use Rattle.serde_json.specs.Data.{Data}
use Rattle.ss_lines.specs.declared.line.Line.{Line}
use Rattle.ss_audit_laws.specs.Checks.{all_say}
use Rattle.ss_audit.specs.declared.broken.Broken.{Broken}
use Rattle.ss_audit.specs.Breaks.{BreaksAs}

-- lines begin with those that say these, and `rest` stands behind them, whatever more has to be said
abbrev pub LeavesBehind : ℕ → List Data → List Line → List Line → Type 0
LeavesBehind end ds lines rest = (more : List Data) → all_say end (ds ++ more) lines ≡ all_say end more rest

-- lines that have to say these break it here, whatever more has to be said
abbrev pub BreaksWithin : ℕ → List Data → List Line → Broken → Type 0
BreaksWithin end ds lines e = (more : List Data) → BreaksAs (all_say end (ds ++ more) lines) e
