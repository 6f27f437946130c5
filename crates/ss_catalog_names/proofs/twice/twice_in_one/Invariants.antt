use Rattle.std.proofs.Common.{◌≡◌, drop}
use Rattle.std.specs.List.{flat_map}
use Rattle.ss_names.specs.Names.{itself}
use Rattle.ss_catalog_outline.specs.Twice.{standing, first_twice}
use Rattle.ss_catalog_names.proofs.twice.twice_in_one.Given as goal

abbrev pub invariant-loop-list : goal.invariant-loop-list
invariant-loop-list l = first_twice (flat_map (standing itself) l.lists) ≡ first_twice (flat_map (standing itself) (drop l.list-index l.lists))
