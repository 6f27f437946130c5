use Rattle.std.proofs.Common.{◌≡◌, ◌++◌, drop, Ok}
use Rattle.ss_catalog_json.specs.Readings.{◌>>=◌}
use Rattle.ss_nest.specs.Members.{nests_of}
use Rattle.ss_nest.proofs.members.nests_of.Given as goal

abbrev pub invariant-loop-outline : goal.invariant-loop-outline
invariant-loop-outline l = nests_of l.catalog l.outlines ≡ (nests_of l.catalog (drop l.outline-index l.outlines) >>= λ ns. Ok (l.nests ++ ns))
