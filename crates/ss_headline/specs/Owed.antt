-- How many executions a run owes, and that its list needs no more room.
use Rattle.std.specs.Prelude.{◌≡◌, ◌≤◌, ℕ, ◌+◌, ◌==◌, ◌&&◌, List, length}
use Rattle.std.specs.List.{AllByRecursion, count_by, filter_map, sum_by}
use Rattle.std.specs.Option.{is_none}
use Rattle.ss_model.specs.declared.catalog.Catalog.{Catalog}
use Rattle.ss_model.specs.declared.entry.Asked.{Asked}
use Rattle.ss_model.specs.declared.entry.Asked.TheVariants.{Call as CallAsked, Push as PushAsked, Install as InstallAsked}
use Rattle.ss_model.specs.declared.entry.Listed.{Listed}
use Rattle.ss_model.specs.declared.entry.Request.{Request}
use Rattle.ss_model.specs.Accepted.{Accepted}
use Rattle.ss_model.specs.Database.{Database}
use Rattle.ss_model.specs.InStep.{IsInStep}
use Rattle.ss_model.specs.Replays.{Replays, after}
use Rattle.ss_model.specs.Report.{IsAsked, Rising, asked_entries, client_index, find_listed}
use Rattle.ss_model.specs.Settled.{NoneReady}
use Rattle.ss_model.specs.Settling.{border_stream, pending_steps, procedure_numbers, streams_on}

-- how many procedures the workflow of a border stream has
abbrev pub workflow_size : Catalog → ℕ → ℕ
workflow_size catalog s = count_by (λ q. streams_on catalog q && border_stream catalog q == s) (procedure_numbers catalog)

-- a request owes one execution, and a push one more of each procedure of its workflow
abbrev pub owed_by : Catalog → Asked → ℕ
owed_by catalog (CallAsked q args) = 1
owed_by catalog (PushAsked s source seq rows) = 1 + workflow_size catalog s
owed_by catalog (InstallAsked q text) = 1

-- what the requests owe, and the steps that are pending before them
abbrev pub owed : Catalog → Database → List Request → ℕ
owed catalog db requests = sum_by (λ (r : Request). owed_by catalog r.what) requests + pending_steps catalog db

-- how many requests have no entry in a list
abbrev pub outside : List Request → List Listed → ℕ
outside requests list = count_by (λ e. is_none (find_listed 0 e list)) (asked_entries requests)

-- a list that replays, of steps and of entries that are asked for, none twice
pub record ListsAsked (catalog : Catalog) (db : Database) (requests : List Request) (list : List Listed) : Type 0 where
  pub replays : Replays catalog db list
  pub asked : AllByRecursion (λ (l : Listed). IsAsked requests l.entry) list
  pub in_turn : (client : ℕ) → Rising (filter_map (λ (l : Listed). client_index client l.entry) list)

-- law: with the steps that are pending behind it, and with the requests outside, such a list has no more executions than were owed
abbrev pub OwedIsEnough : Type 0
OwedIsEnough =
    (catalog : Catalog) → Accepted catalog → (db : Database) → IsInStep catalog db → (requests : List Request) (list : List Listed) →
    ListsAsked catalog db requests list → length list + pending_steps catalog (after catalog db list) + outside requests list ≤ owed catalog db requests

-- law: where there is room for what is owed, nothing is to follow a list that has all of the room: no request, and no step
abbrev pub FullListsHaveAll : Type 0
FullListsHaveAll =
    (catalog : Catalog) → Accepted catalog → (db : Database) → IsInStep catalog db → (requests : List Request) (list : List Listed) →
    ListsAsked catalog db requests list → owed catalog db requests ≤ length list → (outside requests list ≡ 0) × NoneReady catalog (after catalog db list)
