use Rattle.std.proofs.Common.{◌≡◌, ◌≤◌, take}
use Rattle.ss_disk.specs.Tearing.{synced_count}
use Rattle.ss_disk.proofs.crash.up_to_sync.Given as goal

abbrev pub invariant-loop-at : goal.invariant-loop-at
invariant-loop-at l = record { within : l.synced ≤ l.at; count : l.synced ≡ synced_count (take l.at l.events) }
