use Rattle.std.proofs.Common.{◌≡◌, take}
use Rattle.ss_model.specs.Nests.{nested_texts}
use Rattle.ss_nest.proofs.joined.nested_texts.Given as goal

abbrev pub invariant-loop-number : goal.invariant-loop-number
invariant-loop-number l = l.all ≡ nested_texts l.nests 0 (take l.number l.texts)
