use Rattle.std.proofs.Common.{◌≡◌, drop}
use Rattle.std.specs.List.{flat_map}
use Rattle.ss_names.specs.Names.{itself}
use Rattle.ss_catalog_outline.specs.Unknown.{names_in, first_unknown}
use Rattle.ss_catalog_names.proofs.unknown.unknown_in_one.Given as goal

abbrev pub invariant-loop-list : goal.invariant-loop-list
invariant-loop-list l = first_unknown (flat_map (names_in itself l.known) l.lists) ≡ first_unknown (flat_map (names_in itself l.known) (drop l.list-index l.lists))
