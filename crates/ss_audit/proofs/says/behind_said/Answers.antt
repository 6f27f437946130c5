use Rattle.std.proofs.Common.{◌∙◌, sym}
use Rattle.std.proofs.lemmas.List.{nil_from_length}
use Rattle.serde_json.specs.View.{view}
use Rattle.ss_audit.proofs.Saying.{one_missing, one_odd, one_said}
use Rattle.ss_audit.proofs.says.behind_said.Goals as goal

pub returns-in_default-clause-broken : goal.returns-in_default-clause-broken
returns-in_default-clause-broken c = one_missing c.args.end (view c.args.value.now) c.args.lines.now (nil_from_length c.args.lines.now c.in_default.ensures.cases)

pub returns-then-not-branch-clause-broken : goal.returns-then-not-branch-clause-broken
returns-then-not-branch-clause-broken c =
    one_odd c.args.end (view c.args.value.now) c.in-Some.line.now c.in-Some.behind.now c.args.lines.now c.in-Some.ensures.cases.0 (sym c.in_ok-says.ensures ∙ c.if-not-branch.true)

pub returns-clause-ok : goal.returns-clause-ok
returns-clause-ok c =
    one_said c.args.end (view c.args.value.now) c.in-Some.line.now c.in-Some.behind.now c.args.lines.now c.in-Some.ensures.cases.0 (sym c.in_ok-says.ensures ∙ c.if-not-branch.false)
