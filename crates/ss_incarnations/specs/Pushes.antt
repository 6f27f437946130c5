-- The numbers of the pushes that a source made, and of those that were accepted.
use Rattle.std.specs.Prelude.{◌≡◌, ℕ, ◌==◌, ◌&&◌, Bool, true, false, cond, List, [], ◌∷◌, length, Some, None}
use Rattle.std.specs.List.{AllByRecursion, filter_map, range_with_len}
use Rattle.std.specs.Cmp.Lexicographic.{slice_cmp}
use Rattle.std.specs.Ordering.{eq_by_cmp, nat_cmp}
use Rattle.ss_model.specs.declared.catalog.Catalog.{Catalog}
use Rattle.ss_model.specs.declared.entry.Answer.{Answer}
use Rattle.ss_model.specs.declared.entry.Answer.TheVariants.{Listed as ListedAnswer}
use Rattle.ss_model.specs.declared.entry.Entry.{Entry}
use Rattle.ss_model.specs.declared.entry.Entry.TheVariants.{Push}
use Rattle.ss_model.specs.declared.entry.Listed.{Listed}
use Rattle.ss_model.specs.declared.entry.Outcome.{Outcome}
use Rattle.ss_model.specs.declared.entry.Outcome.TheVariants.{Done}
use Rattle.ss_model.specs.declared.entry.Request.{Request}
use Rattle.ss_model.specs.Accepted.{Accepted}
use Rattle.ss_model.specs.Database.{Database, next_number}
use Rattle.ss_model.specs.Replays.{Replays}
use Rattle.ss_model.specs.Report.{End, IsAsked, Report, asked_entry}
use Rattle.ss_model.specs.WholeDatabase.{WholeDatabase}
use Rattle.ss_report_laws.specs.Replies.{requests_of}
use Rattle.ss_report_laws.specs.Resuming.{AreToldTo}

-- whether an entry is a push to this stream from this source
abbrev pub is_push_of : ℕ → List ℕ → Entry → Bool
is_push_of s source (Push client index t name seq rows) = s == t && eq_by_cmp (slice_cmp nat_cmp) source name
is_push_of s source _ = false

-- the sequence number of a push
abbrev pub push_number : Entry → ℕ
push_number (Push client index t name seq rows) = seq
push_number _ = 0

abbrev pub is_done : Outcome → Bool
is_done (Done reply) = true
is_done _ = false

-- the numbers of a source's pushes to a stream that were accepted, in the list's order
abbrev pub accepted_numbers : ℕ → List ℕ → List Listed → List ℕ
accepted_numbers s source list =
    filter_map (λ (l : Listed). cond (is_push_of s source l.entry && is_done l.outcome) (Some (push_number l.entry)) None) list

-- the numbers of all that the list has of them
abbrev pub pushed_numbers : ℕ → List ℕ → List Listed → List ℕ
pushed_numbers s source list = filter_map (λ (l : Listed). cond (is_push_of s source l.entry) (Some (push_number l.entry)) None) list

-- the entry that a request asks for, whatever its number
abbrev pub entry_asked : Request → Entry
entry_asked r = asked_entry r.client 0 r.what

-- the numbers of all that are asked for
abbrev pub asked_numbers : ℕ → List ℕ → List Request → List ℕ
asked_numbers s source requests =
    filter_map (λ (r : Request). cond (is_push_of s source (entry_asked r)) (Some (push_number (entry_asked r))) None) requests

-- numbers that follow one another from this one on
abbrev pub AreConsecutive : ℕ → List ℕ → Type 0
AreConsecutive from numbers = numbers ≡ range_with_len from (length numbers)

-- law: the accepted numbers of each source are consecutive from the next number of the opening's database on, each once
abbrev pub AcceptedAreConsecutive : Type 0
AcceptedAreConsecutive =
    (catalog : Catalog) → Accepted catalog → (db : Database) → WholeDatabase catalog db → (list : List Listed) → Replays catalog db list →
    (s : ℕ) (source : List ℕ) →
    AreConsecutive (next_number db s source) (accepted_numbers s source list)

-- each push of this source among these requests is this client's
abbrev pub OnlyFrom : ℕ → ℕ → List ℕ → List Request → Type 0
OnlyFrom client s source requests = AllByRecursion (λ (r : Request). is_push_of s source (entry_asked r) ≡ true → r.client ≡ client) requests

-- an answer tells of an entry
abbrev pub IsListed : Answer → Type 0
IsListed (ListedAnswer place outcome) = Unit {0}
IsListed _ = ⊥

-- each push of this source among these requests is listed, by its answer
abbrev pub AllListed : ℕ → List ℕ → List Request → List Answer → Type 0
AllListed s source [] answers = Unit {0}
AllListed s source (r ∷ rs) [] = ⊥
AllListed s source (r ∷ rs) (a ∷ answers) = (is_push_of s source (entry_asked r) ≡ true → IsListed a) × AllListed s source rs answers

-- law: where a source's pushes come from one client, with consecutive numbers from the next number on, and each is listed, all of them are
-- accepted, in that order
abbrev pub AllAreAccepted : Type 0
AllAreAccepted =
    (catalog : Catalog) → Accepted catalog → (db : Database) → WholeDatabase catalog db → (list : List Listed) → Replays catalog db list →
    (requests : List Request) (first : ℕ) (answers : List Answer) (client s : ℕ) (source : List ℕ) →
    AllByRecursion (λ (l : Listed). IsAsked requests l.entry) list → AreToldTo client 0 first list (requests_of client requests) answers →
    OnlyFrom client s source requests → AllListed s source (requests_of client requests) answers →
    AreConsecutive (next_number db s source) (asked_numbers s source requests) → accepted_numbers s source list ≡ asked_numbers s source requests

-- law: so it is in a list of which there is a report, where each is listed by the report's answers, which stand in the order of all requests
abbrev pub AllReportedAreAccepted : Type 0
AllReportedAreAccepted =
    (catalog : Catalog) → Accepted catalog → (db : Database) → WholeDatabase catalog db → (list : List Listed) → Replays catalog db list →
    (requests : List Request) (first : ℕ) (end : End) (text : List ℕ) (client s : ℕ) (source : List ℕ) →
    (report : Report catalog requests db first list end text) →
    OnlyFrom client s source requests → AllListed s source requests report.answers →
    AreConsecutive (next_number db s source) (asked_numbers s source requests) → accepted_numbers s source list ≡ asked_numbers s source requests
