-- Entries that run where their lines stand.
use Rattle.std.specs.Prelude.{◌≡◌, ◌+◌, ℕ, Bool, true, false, List, Option, Some, None}
use Rattle.ss_lines.specs.declared.line.Line.{Line}
use Rattle.ss_model.specs.declared.catalog.Catalog.{Catalog}
use Rattle.ss_model.specs.declared.entry.Entry.{Entry}
use Rattle.ss_model.specs.declared.entry.Outcome.{Outcome}
use Rattle.ss_model.specs.declared.entry.Request.{Request}
use Rattle.ss_model.specs.Database.{Database as Model, empty_database}
use Rattle.ss_model.specs.Replays.{database_after, entry_outcome}
use Rattle.ss_shard.specs.declared.database.Database.{Database}
use Rattle.ss_replay.specs.Replaying.{IsOnAt}
use Rattle.ss_report_lines.specs.declared.kind.LineKind.{LineKind}
use Rattle.ss_audit_laws.specs.Shape.{line_kind}
use Rattle.ss_audit_laws.specs.Checks.{Turns, entry_at, meant, outcome_of, printed_as, replayed, turns_behind}
use Rattle.ss_audit.specs.declared.broken.Broken.{Broken}
use Rattle.ss_audit.specs.declared.broken.Broken.TheVariants.{NoMemory, Line as LineOf}
use Rattle.ss_audit.specs.declared.entries.Behind.{Behind}
use Rattle.ss_audit.specs.Clients.{number_of}

-- an entry has this outcome on a database, and this one is behind it; or it has none
abbrev pub HasOutcome : Catalog → Model → ℕ → Entry → Database → Option Outcome → Type 0
HasOutcome catalog d place e new None = entry_outcome catalog d e ≡ None
HasOutcome catalog d place e new (Some outcome) = (entry_outcome catalog d e ≡ Some outcome) × IsOnAt catalog new (place + 1) (database_after catalog d e)

-- a line is about this entry, and of this kind; or about none
abbrev pub IsMeant : Catalog → List Request → Turns → Line → Option (Entry × Option LineKind) → Type 0
IsMeant catalog requests turns line None = meant catalog requests turns line (line_kind line) ≡ None
IsMeant catalog requests turns line (Some m) = (meant catalog requests turns line (line_kind line) ≡ Some m.0) × (m.1 ≡ line_kind line)

-- a line says at its place what comes of an entry, and this database is behind it; or it says something else
abbrev pub RanAs : Catalog → Model → ℕ → Entry → Line → Database → Bool → Type 0
RanAs catalog d place e line new false = printed_as catalog place line (outcome_of catalog d (Some e)) ≡ None
RanAs catalog d place e line new true = (printed_as catalog place line (outcome_of catalog d (Some e)) ≡ Some e) × IsOnAt catalog new (place + 1) (database_after catalog d e)

-- a line says at its place what comes of its entry, and this lies behind it
pub record HasRun (catalog : Catalog) (requests : List Request) (d : Model) (place : ℕ) (line : Line) (old new : Behind) : Type 0 where
  pub entry : Entry
  pub is : entry_at catalog requests (number_of old.turns) d place line ≡ Some entry
  pub turns : number_of new.turns ≡ turns_behind (number_of old.turns) (line_kind line)
  pub on : IsOnAt catalog new.database (place + 1) (database_after catalog d entry)

-- the line of this number says of no entry what comes of it; out of memory says nothing of it
abbrev pub NoEntryAs : Option Entry → ℕ → Broken → Type 0
NoEntryAs entry number NoMemory = Unit {0}
NoEntryAs entry number (LineOf n) = (entry ≡ None) × (n ≡ number)

-- on the database so far these lines are left, and say the same as all lines did on the empty one
pub record IsLeft (catalog : Catalog) (requests : List Request) (lines : List Line) (behind : Behind) (place : ℕ) (left : List Line) : Type 0 where
  pub d : Model
  pub on : IsOnAt catalog behind.database place d
  pub same : replayed catalog requests (number_of behind.turns) d place left ≡ replayed catalog requests (λ _. 0) (empty_database catalog) 0 lines
