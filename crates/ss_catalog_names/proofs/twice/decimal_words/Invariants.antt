use Rattle.std.proofs.Common.{◌≡◌, map, take, decimal}
use Rattle.ss_catalog_names.proofs.twice.decimal_words.Given as goal

abbrev pub invariant-loop-number : goal.invariant-loop-number
invariant-loop-number l = l.words ≡ map decimal (take l.number-index l.numbers)
