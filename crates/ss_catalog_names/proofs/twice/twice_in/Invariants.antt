use Rattle.std.proofs.Common.{◌≡◌, [], drop}
use Rattle.ss_catalog_outline.specs.Twice.{standing, standing_behind, first_twice}
use Rattle.ss_catalog_names.proofs.twice.twice_in.Given as goal

abbrev pub invariant-loop-item : goal.invariant-loop-item
invariant-loop-item g l = first_twice (standing g.T.Named.name l.items) ≡ first_twice (standing_behind g.T.Named.name (λ x. []) l.seen (drop l.item-index l.items))
