-- What contracts see of a lane, and what a request adds to it.
use Rattle.std.specs.Prelude.{◌≡◌, ◌≢◌, ◌⊎◌, ℕ, ◌+◌, ◌-◌, ◌<◌, ◌≤◌, List, [], ◌∷◌, ◌++◌, length, get_or, slice_get, Some}
use Rattle.ss_value.specs.Reserved.{ReservedList}
use Rattle.ss_model.specs.declared.entry.Answer.{Answer}
use Rattle.ss_model.specs.declared.entry.Answer.TheVariants.{Listed as ListedAnswer, NoMemory, ListFull, Halted}
use Rattle.ss_model.specs.declared.entry.Asked.{Asked}
use Rattle.ss_model.specs.Report.{asked_entry}
use Rattle.ss_report_laws.specs.Replies.{listed_at}
use Rattle.ss_commitlog.specs.declared.role.Role.TheVariants.{Reader, Client}
use Rattle.ss_commitlog.specs.declared.rule.Item.{Item}
use Rattle.ss_commitlog.specs.Tokens.{Known}
use Rattle.ss_lanes.specs.declared.due.Due.{Due}
use Rattle.ss_lanes.specs.declared.ticket.Ticket.{Ticket}
use Rattle.ss_lanes.specs.Dues.{IsDue, due_after, no_due}
use Rattle.ss_lanes.specs.Mines.{mine_in}
use Rattle.ss_lanes.specs.Told.{told, outcomes}

-- a client, the number of the first request that it makes here, the list that it knows and the receipted count that it has seen posted,
-- what of its answers waits for a receipt, its answers so far, as many as its requests here, and for how many more there is room
pub record LaneView : Type 0 where
  pub client : ℕ
  pub start : ℕ
  pub list : List Item
  pub count : ℕ
  pub due : Due
  pub answers : List Answer
  pub spare : ℕ

-- the view of a lane with this ticket, note and answers: the ticket has the number of the next request, which stands behind the answered ones
abbrev pub lane_view : Ticket → Due → Known → ReservedList Answer → LaneView
lane_view t due note answers = record {
  client = t.client;
  start = t.index - length answers.items;
  list = note.list;
  count = note.count;
  due = due;
  answers = answers.items;
  spare = answers.spare;
}

-- a token has seen no less than this count, and where a client was told that the disk had failed, just those faults
pub record HasSeen (count : ℕ) (due : Due) (k : Known) : Type 0 where
  pub count_is : count ≤ k.count
  pub faults_are : (due.faults ≡ 0) ⊎ (due.faults ≡ k.faults)

-- the numbers of a client's next request, where it has so many entries more than at the one before
abbrev pub next_ticket : Ticket → ℕ → Ticket
next_ticket ticket more = record { client = ticket.client; index = ticket.index + 1; count = ticket.count + more }

-- mark and note know one list, and the mark has seen no less; of the client's entries that list has just those that the answers tell,
-- each once; and the ticket has the numbers of the next request, which is none of those that are answered
pub record IsLane (clients first : ℕ) (ticket : Ticket) (due : Due) (mark note : Known) (answers : List Answer) : Type 0 where
  pub client_is : ticket.client < clients
  pub mark_is : mark.role ≡ Client ticket.client
  pub note_is : note.role ≡ Reader
  pub one_list : mark.list ≡ note.list
  pub seen : HasSeen note.count due mark
  pub all_told : outcomes (mine_in ticket.client first note.list) ≡ told answers
  pub counted : ticket.count ≡ length (mine_in ticket.client first note.list)
  pub index_is : length answers ≤ ticket.index
  pub due_is : IsDue (mine_in ticket.client first note.list) (first + length note.list) note.count due answers

-- what an answer says of the list that the lane then knows: where it is listed, the client has one entry more, which is that of
-- the request, and it stands behind all that the lane knew before; else the client has no further entry. An answer that the
-- disk has failed carries its faults, which the client was told before, and the lane knows no more than it did
abbrev pub IsRightAnswer : ℕ → ℕ → LaneView → Asked → List Item → Answer → Type 0
IsRightAnswer first limit old what new (ListedAnswer place outcome) =
    (mine_in old.client first new
    ≡ mine_in old.client first old.list ++ listed_at place outcome (asked_entry old.client (old.start + length old.answers) what) ∷ [])
    × (first + length old.list ≤ place)
IsRightAnswer first limit old what new NoMemory = mine_in old.client first new ≡ mine_in old.client first old.list
IsRightAnswer first limit old what new (ListFull count) =
    (mine_in old.client first new ≡ mine_in old.client first old.list) × (length new ≡ limit) × (count ≡ limit)
IsRightAnswer first limit old what new (Halted faults) = (new ≡ old.list) × (faults ≡ old.due.faults) × (faults ≢ 0)

-- the lane has one answer more, and knows a list that begins with its old one; where the client was told that the disk had failed, the
-- answer says so again
pub record IsSubmitted (first limit : ℕ) (old : LaneView) (what : Asked) (new : LaneView) : Type 0 where
  pub client_is : new.client ≡ old.client
  pub start_is : new.start ≡ old.start
  pub rest : List Item
  pub begins : new.list ≡ old.list ++ rest
  pub seen : old.count ≤ new.count
  pub answer : Answer
  pub answers : new.answers ≡ old.answers ++ answer ∷ []
  pub right : IsRightAnswer first limit old what new.list answer
  pub halts : old.due.faults ≢ 0 → answer ≡ Halted old.due.faults
  pub due_is : new.due ≡ due_after old.due answer
  pub spare_is : new.spare + 1 ≡ old.spare

-- a lane before the first request that its client makes here, which has this number
pub record IsFresh (first client start : ℕ) (lane : LaneView) : Type 0 where
  pub client_is : lane.client ≡ client
  pub start_is : lane.start ≡ start
  pub list_is : lane.list ≡ []
  pub seen : lane.count ≡ first
  pub nothing_due : lane.due ≡ no_due
  pub none : lane.answers ≡ []

-- the number of the first request that a client makes here: 0 where none is given
abbrev pub start_of : List ℕ → ℕ → ℕ
start_of starts client = get_or starts client 0

-- as many lanes as clients, each that of the client of its number, before the client's first request here
pub record AreFresh (first clients : ℕ) (starts : List ℕ) (lanes : List LaneView) : Type 0 where
  pub many : length lanes ≡ clients
  pub each : (k : ℕ) (lane : LaneView) → slice_get lanes k ≡ Some lane → IsFresh first k (start_of starts k) lane
