use Rattle.std.proofs.Common.{◌≡◌, take}
use Rattle.ss_model.specs.Nests.{nested_procedures}
use Rattle.ss_nest.proofs.joined.nested_procedures.Given as goal

abbrev pub invariant-loop-number : goal.invariant-loop-number
invariant-loop-number l = l.all ≡ nested_procedures l.catalog l.nests 0 (take l.number l.catalog.procedures)
