use Rattle.ss_run.proofs.Entries.{last_is}
use Rattle.ss_run.proofs.request.serve.Goals as goal

pub wake_list-requires-clause-fits : goal.wake_list-requires-clause-fits
wake_list-requires-clause-fits g c =
    let some = c.in-Some.ensures.some in
    let is = last_is c.args.store.now.list c.run_request.new.store.list _ c.at-listed.result.now c.in-Some.place some.1 some.0 c.at-listed.ensures in
    rw is c.requires.fits

pub returns-clause-answered : goal.returns-clause-answered
returns-clause-answered g c =
    record { at_end = c.in-Some.ensures.some.0; by_steps = rw (← c.in-Some.ensures.some.1) c.run_hints.ensures.by_steps }
