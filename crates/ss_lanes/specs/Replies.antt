-- What comes back to a client.
use Rattle.std.specs.Prelude.{◌≡◌, ℕ, ◌<◌, ◌^◌, List, [], ◌∷◌, ◌++◌, length, Result, Ok, Err}
use Rattle.ss_commitlog.specs.declared.placed.Placed.{Placed}
use Rattle.ss_commitlog.specs.declared.placed.Unlisted.{Unlisted}
use Rattle.ss_commitlog.specs.declared.placed.Unlisted.TheVariants.{NoMemory, ListFull}
use Rattle.ss_commitlog.specs.declared.role.Role.TheVariants.{Client}
use Rattle.ss_commitlog.specs.declared.rule.Item.{Item}
use Rattle.ss_commitlog.specs.Tokens.{Known}
use Rattle.ss_lanes.specs.declared.ticket.Ticket.{Ticket}
use Rattle.ss_lanes.specs.Mines.{Mine, mine_in}

-- a ticket, the client's mark, and what became of the request
pub record ReplyView : Type 0 where
  pub ticket : Ticket
  pub mark : Known
  pub said : Result Placed Unlisted

-- what is said of the list that the mark knows: a listed entry is the client's last one
abbrev pub IsSaid : ℕ → ℕ → ℕ → List Item → Result Placed Unlisted → Type 0
IsSaid first limit client list (Ok placed) =
    (front : List Mine) × (mine_in client first list ≡ front ++ (placed.place, placed.listed) ∷ []) × (placed.place < 2 ^ 60)
IsSaid first limit client list (Err NoMemory) = Unit {0}
IsSaid first limit client list (Err (ListFull count)) = (length list ≡ limit) × (count ≡ limit)

-- the mark is that of the ticket's client, of whose entries its list has as many as the ticket says
pub record IsReply (first limit : ℕ) (ticket : Ticket) (mark : Known) (said : Result Placed Unlisted) : Type 0 where
  pub mark_is : mark.role ≡ Client ticket.client
  pub counted : ticket.count ≡ length (mine_in ticket.client first mark.list)
  pub said_is : IsSaid first limit ticket.client mark.list said

-- how many entries of the client there are more than before
abbrev pub more_entries : Result Placed Unlisted → ℕ
more_entries (Ok placed) = 1
more_entries (Err why) = 0

-- what may be said to who sent this ticket, where the mark knows this list
abbrev pub MaySay : ℕ → ℕ → Ticket → List Item → Result Placed Unlisted → Type 0
MaySay first limit t list (Ok placed) =
    (front : List Mine) × (mine_in t.client first list ≡ front ++ (placed.place, placed.listed) ∷ [])
    × (length front ≡ t.count) × (t.count < 2 ^ 60) × (placed.place < 2 ^ 60)
MaySay first limit t list (Err NoMemory) = length (mine_in t.client first list) ≡ t.count
MaySay first limit t list (Err (ListFull count)) = (length (mine_in t.client first list) ≡ t.count) × (length list ≡ limit) × (count ≡ limit)
