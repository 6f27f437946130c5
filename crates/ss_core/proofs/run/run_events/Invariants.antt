use Rattle.std.proofs.Common.{take}
use Rattle.ss_core.specs.Machine.{AllHappen}
use Rattle.ss_core.proofs.run.run_events.Given as goal

abbrev pub invariant-loop-event : goal.invariant-loop-event
invariant-loop-event l = AllHappen l.fn.core (take l.event-index l.events) l.core
