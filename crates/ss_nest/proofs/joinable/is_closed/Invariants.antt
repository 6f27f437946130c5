use Rattle.std.proofs.Common.{◌≡◌, ◌-◌, length}
use Rattle.std.specs.List.{list_all, range_with_len}
use Rattle.ss_nest.specs.Joinable.{is_closed, is_fed_at}
use Rattle.ss_nest.proofs.joinable.is_closed.Given as goal

abbrev pub invariant-loop-position : goal.invariant-loop-position
invariant-loop-position l = is_closed l.catalog l.members ≡ list_all (is_fed_at l.catalog l.members) (range_with_len l.position (length l.members - l.position))
