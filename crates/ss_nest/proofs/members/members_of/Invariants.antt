use Rattle.std.proofs.Common.{◌≡◌, ◌++◌, drop, Ok}
use Rattle.ss_catalog_json.specs.Readings.{◌>>=◌}
use Rattle.ss_nest.specs.Members.{members_of}
use Rattle.ss_nest.proofs.members.members_of.Given as goal

abbrev pub invariant-loop-name : goal.invariant-loop-name
invariant-loop-name l = members_of l.catalog l.names ≡ (members_of l.catalog (drop l.name-index l.names) >>= λ qs. Ok (l.members ++ qs))
