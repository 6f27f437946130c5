use Rattle.std.proofs.Common.{ℕ, nat_lt, subst}
use Rattle.ss_partition.specs.PartSets.{HasJust}
use Rattle.ss_engine.proofs.engine.Engine.all_parts.Goals as goal

pub returns : goal.returns
returns g c = subst (λ (n : ℕ). HasJust c.first_parts.result (λ p. nat_lt p n)) c.self.invariant.parts_are c.first_parts.ensures
