use Rattle.std.proofs.Common.{◌≡◌, ◌+◌, drop}
use Rattle.ss_disk.specs.Tearing.{crash_moment}
use Rattle.ss_disk.proofs.crash.events_before.Given as goal

abbrev pub invariant-loop-count : goal.invariant-loop-count
invariant-loop-count l = crash_moment l.call l.events ≡ l.count + crash_moment l.call (drop l.count l.events)
