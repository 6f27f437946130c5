-- The later checks, and the audit: of all checks the first that a line breaks, and the first such line.
use Rattle.std.specs.Prelude.{ℕ, suc, ◌+◌, ◌==◌, ◌&&◌, nat_le, Bool, false, cond, List, [], ◌∷◌, ◌++◌, length, codes, Option, Some, None, option_map, unwrap_or, is_none, Result, Ok, Err, ⊤}
use Rattle.std.specs.List.{find, count_by}
use Rattle.std.specs.Str.{bytes_eq}
use Rattle.serde_json.specs.Data.{Data, null, string}
use Rattle.serde_json.specs.Find.{at}
use Rattle.serde_json.specs.Written.{compact_text}
use Rattle.ss_lines.specs.declared.line.Line.{Line}
use Rattle.ss_model.specs.declared.catalog.Catalog.{Catalog}
use Rattle.ss_model.specs.declared.catalog.Procedure.{Procedure}
use Rattle.ss_model.specs.declared.entry.Entry.{Entry}
use Rattle.ss_model.specs.declared.entry.Entry.TheVariants.{Step as StepEntry}
use Rattle.ss_model.specs.declared.entry.Outcome.{Outcome}
use Rattle.ss_model.specs.declared.entry.Request.{Request}
use Rattle.ss_model.specs.Database.{Database, empty_database}
use Rattle.ss_model.specs.Replays.{entry_outcome, database_after}
use Rattle.ss_model.specs.Report.{asked_entries, client_index}
use Rattle.ss_model.specs.ReportLines.{array_of, count, entry_line, database_lines, done_line}
use Rattle.ss_model.specs.Settling.{next_settled}
use Rattle.ss_report_lines.specs.declared.kind.LineKind.{LineKind}
use Rattle.ss_report_lines.specs.declared.kind.LineKind.TheVariants.{Call, Push, Install, Step}
use Rattle.ss_report_lines.specs.Said.{said}
use Rattle.ss_audit_laws.specs.Shape.{OrLine, line_kind, line_text_at, shape}

-- ---- lines that have to say something

-- whether a line is the text of this value
abbrev pub says : Data → Line → Bool
says d l = bytes_eq (compact_text d) l.bytes

-- lines are the texts of these values, or the first line that isn't; `end` is told where one is missing
abbrev pub all_say : ℕ → List Data → List Line → OrLine ⊤
all_say end [] [] = Ok tt
all_say end [] (l ∷ ls) = Err l.number
all_say end (d ∷ ds) [] = Err end
all_say end (d ∷ ds) (l ∷ ls) = cond (says d l) (all_say end ds ls) (Err l.number)

-- ---- replies

-- whether an entry's line has this client and this index
abbrev pub is_by : ℕ → ℕ → Option LineKind → Bool
is_by client index (Some (Call c i)) = client == c && index == i
is_by client index (Some (Push c i)) = client == c && index == i
is_by client index (Some (Install c i)) = client == c && index == i
is_by client index _ = false

-- what the first entry with this client and this index says
abbrev pub first_by : ℕ → ℕ → List Line → Option Data
first_by client index [] = None
first_by client index (l ∷ ls) = cond (is_by client index (line_kind l)) (said l.bytes) (first_by client index ls)

-- the item of this number
abbrev pub item_at : ℕ → Data → Data
item_at n d = unwrap_or (at n d) null

-- the reply that a printed entry calls for: its place and its outcome; and where there is none, that there was no memory
abbrev pub called_reply : ℕ → Option Data → Data
called_reply line None = array_of (string (codes "reply") ∷ count line ∷ string (codes "no_memory") ∷ [])
called_reply line (Some d) = array_of (string (codes "reply") ∷ count line ∷ item_at 1 d ∷ item_at 4 d ∷ [])

-- the replies to requests that these entries call for, where `earlier` are the requests before these
abbrev pub called_replies : List Line → List Request → List Request → List Data
called_replies entries earlier [] = []
called_replies entries earlier (r ∷ rs) =
    called_reply r.line (first_by r.client (count_by (λ x. x.client == r.client) earlier) entries) ∷ called_replies entries (earlier ++ r ∷ []) rs

-- ---- entries

-- whether an option has this number
abbrev pub is_number : ℕ → Option ℕ → Bool
is_number n None = false
is_number n (Some m) = m == n

-- the entry that a client asks for by its request of this index
abbrev pub asked_as : List Request → ℕ → ℕ → Option Entry
asked_as requests client index = find (λ e. is_number index (client_index client e)) (asked_entries requests)

-- the number of the first procedure of this name
abbrev pub procedure_named : List ℕ → List Procedure → Option ℕ
procedure_named name [] = None
procedure_named name (p ∷ ps) = cond (bytes_eq p.name name) (Some 0) (option_map (λ q. suc q) (procedure_named name ps))

-- the least index that each client's next entry may have
abbrev pub Turns : Type 0
Turns = ℕ → ℕ

-- these, once a client's entry had this index
abbrev pub turned : Turns → ℕ → ℕ → Turns
turned turns client index other = cond (other == client) (index + 1) (turns other)

-- an entry, where its index is not below the least
abbrev pub in_turn : Turns → ℕ → ℕ → Option Entry → Option Entry
in_turn turns client index e = cond (nat_le (turns client) index) e None

-- the entry that a line is about: one that its client asks for, in turn, or a step
abbrev pub meant : Catalog → List Request → Turns → Line → Option LineKind → Option Entry
meant catalog requests turns l (Some (Call c i)) = in_turn turns c i (asked_as requests c i)
meant catalog requests turns l (Some (Push c i)) = in_turn turns c i (asked_as requests c i)
meant catalog requests turns l (Some (Install c i)) = in_turn turns c i (asked_as requests c i)
meant catalog requests turns l (Some (Step r)) = option_map (λ q. StepEntry q r) (procedure_named (line_text_at 2 l) catalog.procedures)
meant catalog requests turns l _ = None

-- the least indices behind a line
abbrev pub turns_behind : Turns → Option LineKind → Turns
turns_behind turns (Some (Call c i)) = turned turns c i
turns_behind turns (Some (Push c i)) = turned turns c i
turns_behind turns (Some (Install c i)) = turned turns c i
turns_behind turns _ = turns

-- the outcome of an entry, where there is one
abbrev pub outcome_of : Catalog → Database → Option Entry → Option (Entry × Outcome)
outcome_of catalog db None = None
outcome_of catalog db (Some e) = option_map (λ o. (e, o)) (entry_outcome catalog db e)

-- an entry that ran, where its line says so
abbrev pub printed_as : Catalog → ℕ → Line → Option (Entry × Outcome) → Option Entry
printed_as catalog place l None = None
printed_as catalog place l (Some ran) = cond (says (entry_line catalog place ran.1 ran.0) l) (Some ran.0) None

-- the entry of a line at this place, where the line says what comes of it on this database
abbrev pub entry_at : Catalog → List Request → Turns → Database → ℕ → Line → Option Entry
entry_at catalog requests turns db place l = printed_as catalog place l (outcome_of catalog db (meant catalog requests turns l (line_kind l)))

-- what goes on behind a line that says what comes of its entry, and else the line's number
abbrev pub go_on : {A : Type 0} → ℕ → Option Entry → (Entry → OrLine A) → OrLine A
go_on number None f = Err number
go_on number (Some e) f = f e

-- the database behind entries, from this one and this place on; or the first line that doesn't say what comes of its entry
abbrev pub replayed : Catalog → List Request → Turns → Database → ℕ → List Line → OrLine Database
replayed catalog requests turns db place [] = Ok db
replayed catalog requests turns db place (l ∷ ls) =
    go_on l.number (entry_at catalog requests turns db place l)
    (λ e. replayed catalog requests (turns_behind turns (line_kind l)) (database_after catalog db e) (place + 1) ls)

-- ---- the end

-- the last line counts the entries, and nothing is left to run
abbrev pub ends_well : Catalog → Database → ℕ → Line → OrLine ⊤
ends_well catalog db entries l = cond (says (done_line entries) l && is_none (next_settled catalog db)) (Ok tt) (Err l.number)

-- ---- the audit

-- the number of a check, and the first line that breaks it
abbrev pub Broken : Type 0
Broken = ℕ × ℕ

-- what lines give, with the check's number where one breaks it
abbrev pub checked : {A B : Type 0} → ℕ → OrLine A → (A → Result B Broken) → Result B Broken
checked check (Ok a) f = f a
checked check (Err line) f = Err (check, line)

-- the number of entries of a report that is right, or the first check that a line breaks with the first such line
abbrev pub audited : Catalog → List Request → List Line → ℕ → Result ℕ Broken
audited catalog requests lines end =
    checked 1 (shape catalog requests lines end) (λ parts.
    checked 2 (all_say end (called_replies parts.entries [] requests) parts.replies) (λ _.
    checked 3 (replayed catalog requests (λ _. 0) (empty_database catalog) 0 parts.entries) (λ db.
    checked 4 (all_say end (database_lines catalog db) parts.tables) (λ _.
    checked 5 (ends_well catalog db (length parts.entries) parts.last) (λ _.
    Ok (length parts.entries))))))
