use Rattle.std.proofs.Common.{◌≡◌, map, take}
use Rattle.ss_catalog_resolve.specs.Numbers.{number_in}
use Rattle.ss_catalog_resolve.proofs.definitions.index_numbers.Given as goal

abbrev pub invariant-loop-names : goal.invariant-loop-names
invariant-loop-names l = l.numbers ≡ map (map (number_in l.columns)) (take l.names-index l.indexes)
