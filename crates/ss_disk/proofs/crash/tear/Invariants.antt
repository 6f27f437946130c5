use Rattle.std.proofs.Common.{◌≡◌, drop}
use Rattle.ss_disk.specs.Memory.{files_of}
use Rattle.ss_disk.specs.Tearing.{torn_events}
use Rattle.ss_disk.proofs.crash.tear.Given as goal

abbrev pub invariant-loop-event : goal.invariant-loop-event
invariant-loop-event l = torn_events l.torn (drop l.event-index l.events) (files_of l.files) ≡ torn_events l.torn l.events (files_of l.initial.files)
