use Rattle.std.proofs.Common.{take}
use Rattle.ss_recover.specs.Loading.{AreNamed, HasMore}
use Rattle.ss_recover.proofs.filling.fill_installs.Given as goal

abbrev pub invariant-loop-entry : goal.invariant-loop-entry
invariant-loop-entry l = record { more : HasMore l.fn.catalog l.catalog; named : AreNamed l.catalog (take l.entry-index l.entries) }
