use Rattle.std.proofs.Common.{◌↔◌, ℕ}
use Rattle.std.specs.Int.{IsBitSet}
use Rattle.ss_model.specs.Database.{Database}
use Rattle.ss_sched.specs.Progress.{HasProgress}
use Rattle.ss_commitlog.specs.Reading.{IsReadyBelow}
use Rattle.ss_commitlog.proofs.reading.ready_set.Given as goal

abbrev pub invariant-loop-q : goal.invariant-loop-q
invariant-loop-q l = (db : Database) → HasProgress db l.counts l.streams.streams → (i : ℕ) → IsBitSet l.set i ↔ IsReadyBelow l.q l.catalog db l.homes l.p i
