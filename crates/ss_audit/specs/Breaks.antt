-- What an error says of a check, and the checks behind others.
use Rattle.std.specs.Prelude.{◌≡◌, ℕ, List, [], length, Result, Ok, Err}
use Rattle.ss_model.specs.declared.catalog.Catalog.{Catalog}
use Rattle.ss_model.specs.declared.entry.Request.{Request}
use Rattle.ss_model.specs.Database.{Database, empty_database}
use Rattle.ss_model.specs.ReportLines.{database_lines}
use Rattle.ss_audit_laws.specs.Shape.{OrLine, Parts}
use Rattle.ss_audit_laws.specs.Checks.{Broken as BrokenAt, all_say, called_replies, checked, ends_well, replayed}
use Rattle.ss_audit.specs.declared.broken.Broken.{Broken}
use Rattle.ss_audit.specs.declared.broken.Broken.TheVariants.{NoMemory, Line}
use Rattle.ss_audit.specs.declared.verdict.Verdict.{Verdict}
use Rattle.ss_audit.specs.declared.verdict.Verdict.TheVariants.{Yes, No}

-- the error is the line that breaks a check; out of memory says nothing of the lines
abbrev pub BreaksAs : {A : Type 0} → OrLine A → Broken → Type 0
BreaksAs meaning NoMemory = Unit {0}
BreaksAs meaning (Line number) = meaning ≡ Err number

-- a verdict says that this line breaks the check of this number
abbrev pub IsNo : ℕ → Broken → Verdict → Type 0
IsNo check NoMemory v = ⊥
IsNo check (Line number) v = v ≡ No check number

-- an audit's answer as a verdict
abbrev pub verdict_of : Result ℕ BrokenAt → Verdict
verdict_of (Ok count) = Yes count
verdict_of (Err broken) = No broken.0 broken.1

-- ---- the audit, from a check on

-- behind the tables of this database
abbrev pub behind_tables : Catalog → Parts → Database → Result ℕ BrokenAt
behind_tables catalog parts db = checked 5 (ends_well catalog db (length parts.entries) parts.last) (λ _. Ok (length parts.entries))

-- behind the entries, which lead to this database
abbrev pub behind_replay : Catalog → Parts → ℕ → Database → Result ℕ BrokenAt
behind_replay catalog parts end db = checked 4 (all_say end (database_lines catalog db) parts.tables) (λ _. behind_tables catalog parts db)

-- behind the replies
abbrev pub behind_replies : Catalog → List Request → Parts → ℕ → Result ℕ BrokenAt
behind_replies catalog requests parts end = checked 3 (replayed catalog requests (λ _. 0) (empty_database catalog) 0 parts.entries) (behind_replay catalog parts end)

-- behind the parts
abbrev pub behind_parts : Catalog → List Request → Parts → ℕ → Result ℕ BrokenAt
behind_parts catalog requests parts end = checked 2 (all_say end (called_replies parts.entries [] requests) parts.replies) (λ _. behind_replies catalog requests parts end)
