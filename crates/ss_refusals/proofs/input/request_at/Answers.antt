use Rattle.serde_json.specs.View.{view}
use Rattle.ss_refusals.proofs.Growing.{grown_none, on_none}
use Rattle.ss_refusals.proofs.InputDepth.{value_depth}
use Rattle.ss_refusals.proofs.input.request_at.Goals as goal

pub request_in-requires-clause-levels : goal.request_in-requires-clause-levels
request_in-requires-clause-levels c = value_depth c.args.line.now (view c.in-Ok.value) c.in-Ok.ensures.ok

pub returns-in-Err-clause-grows : goal.returns-in-Err-clause-grows
returns-in-Err-clause-grows c = grown_none c.args.catalog.now c.requires.own

pub returns-in-Err-clause-goes_on : goal.returns-in-Err-clause-goes_on
returns-in-Err-clause-goes_on c = on_none c.args.catalog.now c.requires.own
