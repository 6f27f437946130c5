use Rattle.std.proofs.Common.{◌∙◌, sym, ap}
use Rattle.serde_json.specs.Data.{Data}
use Rattle.ss_proc.proofs.CallerLemmas.{sees_of}
use Rattle.ss_audit_laws.specs.Checks.{says}
use Rattle.ss_audit.proofs.Verdicts.{ends_early, ends_other, ends_so}
use Rattle.ss_audit.proofs.tables.check_end.Goals as goal

pub next_settled-requires-clause-cursors : goal.next_settled-requires-clause-cursors
next_settled-requires-clause-cursors c =
    let on = c.requires.on.1 in
    (sees_of c.args.catalog.now c.args.database.now c.requires.on.0 c.cursors.result.now on.whole.in_step.matched.shape on.stands c.cursors.ensures).counts_many

pub next_settled-requires-clause-streams : goal.next_settled-requires-clause-streams
next_settled-requires-clause-streams c =
    let on = c.requires.on.1 in
    (sees_of c.args.catalog.now c.args.database.now c.requires.on.0 c.cursors.result.now on.whole.in_step.matched.shape on.stands c.cursors.ensures).streams_many

pub returns-then-not-branch-clause-broken : goal.returns-then-not-branch-clause-broken
returns-then-not-branch-clause-broken c = λ d on.
    let last = c.args.last.now in
    ends_other c.args.catalog.now d c.args.entries last (sym (c.in_ok-says.ensures ∙ ap (λ (v : Data). says v last) c.in_ok-done.ensures) ∙ c.if-not-branch.true)

pub returns-in-Some-clause-broken : goal.returns-in-Some-clause-broken
returns-in-Some-clause-broken c = λ d on.
    let last = c.args.last.now in
    let catalog = c.args.catalog.now in
    let sees = sees_of catalog c.args.database.now d c.cursors.result.now on.whole.in_step.matched.shape on.stands c.cursors.ensures in
    ends_early catalog d c.args.entries c.in-Some.field-0 last (sym (c.in_ok-says.ensures ∙ ap (λ (v : Data). says v last) c.in_ok-done.ensures) ∙ c.if-not-branch.false)
    (sym (c.next_settled.ensures.next d sees.far) ∙ c.in-Some.is)

pub returns-clause-ok : goal.returns-clause-ok
returns-clause-ok c = λ d on.
    let last = c.args.last.now in
    let catalog = c.args.catalog.now in
    let sees = sees_of catalog c.args.database.now d c.cursors.result.now on.whole.in_step.matched.shape on.stands c.cursors.ensures in
    ends_so catalog d c.args.entries last (sym (c.in_ok-says.ensures ∙ ap (λ (v : Data). says v last) c.in_ok-done.ensures) ∙ c.if-not-branch.false)
    (sym (c.next_settled.ensures.next d sees.far) ∙ c.in-None.is)
