-- The streams to which an entry may append.
use Rattle.std.specs.Prelude.{ℕ, ◌==◌, Bool, false}
use Rattle.ss_model.specs.declared.catalog.Catalog.{Catalog}
use Rattle.ss_model.specs.declared.entry.Entry.{Entry}
use Rattle.ss_model.specs.declared.entry.Entry.TheVariants.{Call, Push, Step as StepEntry, Install}
use Rattle.ss_model.specs.Orders.{procedure_emits}

-- whether an entry may append to a stream: a push, accepted or refused, to its own, and a step to those to which its procedure emits
abbrev pub may_append : Catalog → Entry → ℕ → Bool
may_append catalog (Call client index p args) s = false
may_append catalog (Push client index t source seq rows) s = t == s
may_append catalog (Install client index p text) s = false
may_append catalog (StepEntry p r) s = procedure_emits catalog p s
