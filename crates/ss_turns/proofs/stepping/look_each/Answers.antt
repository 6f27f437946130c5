use Rattle.ss_commitlog.specs.Right.{known_database}
use Rattle.ss_commitlog.proofs.CallerLemmas.{follows_on, on_and_on}
use Rattle.ss_turns.proofs.FoundBatches.{found_next, lacks_one, looked_so}
use Rattle.ss_turns.proofs.stepping.look_each.Goals as goal

pub returns-in_err-looked-clause-mark : goal.returns-in_err-looked-clause-mark
returns-in_err-looked-clause-mark g c =
    on_and_on g.I.Life.catalog g.I.Life.parts c.args.mark.now c.loop-stream.mark c.look.new.mark c.loop-stream.invariant.on (follows_on g.I.Life.catalog g.I.Life.parts g.I.Life.limit c.loop-stream.mark c.look.new.mark c.look.ensures.mark)

pub returns-in_default-clause-mark : goal.returns-in_default-clause-mark
returns-in_default-clause-mark g c =
    on_and_on g.I.Life.catalog g.I.Life.parts c.args.mark.now c.loop-stream.mark c.look.new.mark c.loop-stream.invariant.on (follows_on g.I.Life.catalog g.I.Life.parts g.I.Life.limit c.loop-stream.mark c.look.new.mark c.look.ensures.mark)

pub returns-in_default-clause-found : goal.returns-in_default-clause-found
returns-in_default-clause-found g c =
    lacks_one (known_database g.I.Life.catalog g.I.Life.opening c.look.new.mark) c.args.procedure c.args.r c.loop-stream.stream-index c.args.streams.now c.loop-stream-test.true c.look.result c.in_ok-looked.looked c.look.ensures.ok c.in_ok-looked.was c.in_default.is

pub returns-in_err-push-clause-mark : goal.returns-in_err-push-clause-mark
returns-in_err-push-clause-mark g c =
    on_and_on g.I.Life.catalog g.I.Life.parts c.args.mark.now c.loop-stream.mark c.look.new.mark c.loop-stream.invariant.on (follows_on g.I.Life.catalog g.I.Life.parts g.I.Life.limit c.loop-stream.mark c.look.new.mark c.look.ensures.mark)

pub loop-stream-preserved : goal.loop-stream-preserved
loop-stream-preserved g c = record {
  on = on_and_on g.I.Life.catalog g.I.Life.parts c.args.mark.now c.loop-stream.mark c.look.new.mark c.loop-stream.invariant.on (follows_on g.I.Life.catalog g.I.Life.parts g.I.Life.limit c.loop-stream.mark c.look.new.mark c.look.ensures.mark);
  found = found_next g.I.Life.catalog g.I.Life.parts g.I.Life.opening c.loop-stream.mark c.look.new.mark c.look.ensures.mark.goes_on c.args.procedure c.args.r c.loop-stream.stream-index c.args.streams.now c.loop-stream.batches c.push.new.self c.in-Some.batch
      c.loop-stream-test.true c.loop-stream.invariant.found (looked_so _ c.look.result c.in_ok-looked.looked c.in-Some.batch c.look.ensures.ok c.in_ok-looked.was c.in-Some.is) c.in_ok-push.ensures.ok;
}
