-- A lane whose mark has come back with what was said.
use Rattle.std.specs.Prelude.{◌≡◌, ℕ, ◌+◌, ◌<◌, ◌≤◌, ◌^◌, List, [], ◌∷◌, ◌++◌, length, Result, Ok, Err}
use Rattle.ss_model.specs.declared.entry.Answer.{Answer}
use Rattle.ss_model.specs.declared.entry.Answer.TheVariants as variants
use Rattle.ss_commitlog.specs.declared.placed.Placed.{Placed}
use Rattle.ss_commitlog.specs.declared.placed.Unlisted.{Unlisted}
use Rattle.ss_commitlog.specs.declared.placed.Unlisted.TheVariants.{NoMemory, ListFull}
use Rattle.ss_commitlog.specs.declared.role.Role.TheVariants.{Reader, Client}
use Rattle.ss_commitlog.specs.Tokens.{Known}
use Rattle.ss_lanes.specs.declared.due.Due.{Due}
use Rattle.ss_lanes.specs.declared.ticket.Ticket.{Ticket}
use Rattle.ss_lanes.specs.Dues.{IsDue}
use Rattle.ss_lanes.specs.Lanes.{HasSeen}
use Rattle.ss_lanes.specs.Mines.{Mine, mine_in}
use Rattle.ss_lanes.specs.Replies.{more_entries}
use Rattle.ss_lanes.specs.Told.{told, outcomes}

-- what the client is answered
abbrev pub answer_of : Result Placed Unlisted → Answer
answer_of (Ok placed) = variants.Listed placed.place placed.listed.outcome
answer_of (Err NoMemory) = variants.NoMemory
answer_of (Err (ListFull count)) = variants.ListFull count

-- the client's entries before and after
abbrev pub IsAfter : List Mine → List Mine → Result Placed Unlisted → Type 0
IsAfter olds news (Ok placed) = (news ≡ olds ++ (placed.place, placed.listed) ∷ []) × (placed.place < 2 ^ 60)
IsAfter olds news (Err why) = news ≡ olds

-- mark and note know one list, whose entries of the client are those that the answers tell, and what was said; of which one more may
-- wait for a receipt
pub record IsAnswered (clients first : ℕ) (ticket : Ticket) (due : Due) (mark note : Known) (answers : List Answer)
    (said : Result Placed Unlisted) : Type 0 where
  pub client_is : ticket.client < clients
  pub mark_is : mark.role ≡ Client ticket.client
  pub note_is : note.role ≡ Reader
  pub one_list : mark.list ≡ note.list
  pub seen : HasSeen note.count due mark
  pub olds : List Mine
  pub all_told : outcomes olds ≡ told answers
  pub counted : ticket.count ≡ length olds
  pub after : IsAfter olds (mine_in ticket.client first note.list) said
  pub index_is : length answers ≤ ticket.index
  pub due_is : IsDue olds (first + length note.list) note.count due answers
  pub room : due.pending + more_entries said ≤ 16
