-- The entries of one client in the list that a token knows, with their places.
use Rattle.std.specs.Prelude.{ℕ, List}
use Rattle.ss_model.specs.declared.entry.Listed.{Listed}
use Rattle.ss_report_laws.specs.Replies.{mine}
use Rattle.ss_commitlog.specs.declared.rule.Item.{Item}
use Rattle.ss_commitlog.specs.Meaning.{listed_of}

-- an entry of a client, with its outcome, behind the place where it stands
abbrev pub Mine : Type 0
Mine = ℕ × Listed

-- those of a client, in a list that begins at a place
abbrev pub mine_in : ℕ → ℕ → List Item → List Mine
mine_in client first list = mine client first (listed_of list)
