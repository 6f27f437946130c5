use Rattle.std.proofs.Common.{arith, refl}
use Rattle.ss_model.proofs.CallerLemmas.{few_streams}
use Rattle.std.proofs.Math.ListN.{length-set}
use Rattle.ss_model.specs.Settling.{emitting_procedure}
use Rattle.ss_sched.proofs.Ranking.{written, written_below, no_numbers}
use Rattle.ss_sched.proofs.rank.emitters.Goals as goal

pub loop-stream-init : goal.loop-stream-init
loop-stream-init c = record { found = λ s lt. absurd (omega arith); small = λ s. let none = no_numbers 32 s in omega arith; long = refl }

pub loop-stream-preserved : goal.loop-stream-preserved
loop-stream-preserved c =
    let few = few_streams c.args.catalog.now c.requires.form in
    let long = c.loop-stream.invariant.long in
    record {
      found = written (emitting_procedure c.args.catalog.now) c.loop-stream.found c.loop-stream.stream c.emitting_procedure.result (omega arith) c.loop-stream.invariant.found c.emitting_procedure.ensures.emitter;
      small = written_below c.loop-stream.found c.loop-stream.stream c.emitting_procedure.result 64 c.loop-stream.invariant.small c.emitting_procedure.ensures.small;
      long = simp length-set long;
    }
