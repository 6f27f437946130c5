-- Whether a reply is the one that a client waits for.
use Rattle.std.specs.Prelude.{◌≡◌, ℕ, ◌+◌, Result, Ok, Err}
use Rattle.ss_model.specs.declared.entry.Asked.{Asked}
use Rattle.ss_model.specs.Report.{asked_entry}
use Rattle.ss_commitlog.specs.declared.placed.Placed.{Placed}
use Rattle.ss_commitlog.specs.declared.placed.Unlisted.{Unlisted}
use Rattle.ss_lanes.specs.declared.ticket.Ticket.{Ticket}
use Rattle.ss_lanes.specs.Replies.{ReplyView}

-- what came back with this count of entries answers what went out with a ticket: a listed entry is the one that was asked for, and
-- the client has it more; else the client has as many as before
abbrev pub IsOwnSaid : Ticket → Asked → ℕ → Result Placed Unlisted → Type 0
IsOwnSaid t what count (Ok placed) = (count ≡ t.count + 1) × (placed.listed.entry ≡ asked_entry t.client t.index what)
IsOwnSaid t what count (Err why) = count ≡ t.count

-- it answers what was asked for with this ticket
pub record IsOwn (t : Ticket) (what : Asked) (reply : ReplyView) : Type 0 where
  pub client_is : reply.ticket.client ≡ t.client
  pub index_is : reply.ticket.index ≡ t.index
  pub said_is : IsOwnSaid t what reply.ticket.count reply.said
