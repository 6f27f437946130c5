use Rattle.std.proofs.Common.{◌∙◌, sym}
use Rattle.serde_json.specs.View.{view}
use Rattle.ss_refusals.proofs.CallerLemmas.{grown_none, on_none, value_depth}
use Rattle.ss_audit_input.proofs.Scripts.{begins, refused_as_asked}
use Rattle.ss_audit_input.proofs.input.asked_at.Goals as goal

pub request_in-requires-clause-levels : goal.request_in-requires-clause-levels
request_in-requires-clause-levels c = value_depth c.args.line.now (view c.in-Ok.value) c.in-Ok.ensures.ok

pub returns-in-Err-clause-grows : goal.returns-in-Err-clause-grows
returns-in-Err-clause-grows c = grown_none c.args.catalog.now c.requires.own

pub returns-in-Err-clause-goes_on : goal.returns-in-Err-clause-goes_on
returns-in-Err-clause-goes_on c = on_none c.args.catalog.now c.requires.own

pub returns-then-is_array-clause-ok : goal.returns-then-is_array-clause-ok
returns-then-is_array-clause-ok c = begins c.args.line.now (view c.in-Ok.value) c.in-Ok.ensures.ok (sym c.is_array.ensures ∙ c.if-is_array.true)

pub returns-then-is_array-clause-grows : goal.returns-then-is_array-clause-grows
returns-then-is_array-clause-grows c = grown_none c.args.catalog.now c.requires.own

pub returns-then-is_array-clause-goes_on : goal.returns-then-is_array-clause-goes_on
returns-then-is_array-clause-goes_on c = on_none c.args.catalog.now c.requires.own

pub returns-clause-refused : goal.returns-clause-refused
returns-clause-refused c =
    refused_as_asked c.args.catalog.now c.args.line.now (view c.in-Ok.value) c.in-Err-request_in.error c.in-Ok.ensures.ok (sym c.is_array.ensures ∙ c.if-is_array.false)
    (record { value = view c.in-Ok.value; json = c.in-Ok.ensures.ok; refused = c.in-Err-request_in.ensures.refused })
