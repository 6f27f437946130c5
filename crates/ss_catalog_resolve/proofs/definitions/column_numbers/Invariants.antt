use Rattle.std.proofs.Common.{◌≡◌, map, take}
use Rattle.ss_catalog_resolve.specs.Numbers.{number_in}
use Rattle.ss_catalog_resolve.proofs.definitions.column_numbers.Given as goal

abbrev pub invariant-loop-name : goal.invariant-loop-name
invariant-loop-name l = l.numbers ≡ map (number_in l.columns) (take l.name-index l.names)
