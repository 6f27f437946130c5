use Rattle.std.proofs.Common.{◌≡◌, take}
use Rattle.ss_model.specs.Results.{map_indexed}
use Rattle.ss_model.specs.Database.{own_text}
use Rattle.ss_model_computed.proofs.entries.database.own_bodies.Given as goal

abbrev pub invariant-loop-number : goal.invariant-loop-number
invariant-loop-number l = l.texts ≡ map_indexed (λ q p. own_text l.catalog q) (take l.number l.catalog.procedures)
