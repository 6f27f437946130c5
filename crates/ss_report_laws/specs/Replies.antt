-- The answers to each client, that the list has just the entries that they report, and the report that they make up.
use Rattle.std.specs.Prelude.{◌≡◌, ◌+◌, ◌==◌, ◌++◌, ℕ, Bool, false, cond, List, [], ◌∷◌, length, map, filter, get_or}
use Rattle.std.specs.List.{AllByRecursion}
use Rattle.ss_model.specs.declared.catalog.Catalog.{Catalog}
use Rattle.ss_model.specs.declared.entry.Answer.{Answer}
use Rattle.ss_model.specs.declared.entry.Answer.TheVariants.{Listed as ListedAnswer}
use Rattle.ss_model.specs.declared.entry.Entry.{Entry}
use Rattle.ss_model.specs.declared.entry.Entry.TheVariants.{Call, Push, Step as StepEntry, Install}
use Rattle.ss_model.specs.declared.entry.Listed.{Listed}
use Rattle.ss_model.specs.declared.entry.Outcome.{Outcome}
use Rattle.ss_model.specs.declared.entry.Request.{Request}
use Rattle.ss_model.specs.Database.{Database}
use Rattle.ss_model.specs.Report.{End, Unlisted, Report, asked_entry, asked_entries, report_text}

-- ---- client by client

-- whether an entry is this client's
abbrev pub is_of : ℕ → Entry → Bool
is_of client (Call c index q args) = c == client
is_of client (Push c index s source seq rows) = c == client
is_of client (Install c index q text) = c == client
is_of client (StepEntry q r) = false

-- the entries of a client with their places, in a list that begins at this place
abbrev pub mine : ℕ → ℕ → List Listed → List (ℕ × Listed)
mine client place [] = []
mine client place (l ∷ ls) = cond (is_of client l.entry) ((place, l) ∷ mine client (place + 1) ls) (mine client (place + 1) ls)

-- an entry with its outcome, at a place
abbrev pub listed_at : ℕ → Outcome → Entry → ℕ × Listed
listed_at place outcome e = (place, record { entry = e; outcome = outcome })

-- the requests of a client, in their order
abbrev pub requests_of : ℕ → List Request → List Request
requests_of client requests = filter (λ (r : Request). r.client == client) requests

-- the answers to a client, in the order of its requests
abbrev pub answers_of : List (List Answer) → ℕ → List Answer
answers_of answers client = get_or answers client []

-- the entries, with their places, that a client's answers report as listed, where its requests are numbered from this index on
abbrev pub expected_entries : ℕ → ℕ → List Request → List Answer → List (ℕ × Listed)
expected_entries client index [] answers = []
expected_entries client index (r ∷ rs) [] = []
expected_entries client index (r ∷ rs) (ListedAnswer place outcome ∷ answers) = listed_at place outcome (asked_entry client index r.what) ∷ expected_entries client (index + 1) rs answers
expected_entries client index (r ∷ rs) (_ ∷ answers) = expected_entries client (index + 1) rs answers

-- the answer reports a listed entry, or is one that may be given to a request that is not listed
abbrev pub IsListedOr : (Answer → Type 0) → Answer → Type 0
IsListedOr unlisted (ListedAnswer place outcome) = Unit {0}
IsListedOr unlisted answer = unlisted answer

-- each request of a client has an answer; the list has of each client just the entries that its answers report, at their
-- places; and the other answers are as the end allows
pub record AreAnswered (requests : List Request) (first : ℕ) (list : List Listed) (end : End) (answers : List (List Answer)) : Type 0 where
  pub many : (client : ℕ) → length (answers_of answers client) ≡ length (requests_of client requests)
  pub each : (client : ℕ) → mine client first list ≡ expected_entries client 0 (requests_of client requests) (answers_of answers client)
  pub others : (client : ℕ) → AllByRecursion (IsListedOr (Unlisted end)) (answers_of answers client)

-- ---- in the order of the input

-- the answer to a request's entry: of those to its client, the one at its index, and else the given one for what is missing
abbrev pub answer_to : Answer → List (List Answer) → Entry → Answer
answer_to missing answers (Call client index q args) = get_or (answers_of answers client) index missing
answer_to missing answers (Push client index s source seq rows) = get_or (answers_of answers client) index missing
answer_to missing answers (Install client index q text) = get_or (answers_of answers client) index missing
answer_to missing answers (StepEntry q r) = missing

-- the answers to all requests, in the order of the input
abbrev pub weave : Answer → List Request → List (List Answer) → List Answer
weave missing requests answers = map (answer_to missing answers) (asked_entries requests)

-- law: the answers to all clients, in the order of the input, make up the report
abbrev pub AnswersMakeReport : Type 0
AnswersMakeReport =
    (catalog : Catalog) (requests : List Request) (db : Database) (first : ℕ) (list : List Listed) (end : End) (missing : Answer) (answers : List (List Answer)) →
    AreAnswered requests first list end answers → Report catalog requests db first list end (report_text catalog requests (weave missing requests answers) first list db end)

-- ---- one more

-- one client has this answer more, behind those before, and the others have the same answers as before
pub record IsOneMore (client : ℕ) (answer : Answer) (before after : List (List Answer)) : Type 0 where
  pub here : answers_of after client ≡ answers_of before client ++ answer ∷ []
  pub elsewhere : (other : ℕ) → (other == client) ≡ false → answers_of after other ≡ answers_of before other
