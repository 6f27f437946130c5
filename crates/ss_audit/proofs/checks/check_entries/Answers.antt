use Rattle.std.proofs.Common.{◌≡◌, List, subst}
use Rattle.ss_lemmas.proofs.Results.{if_ok}
use Rattle.ss_model.specs.Database.{Database as Model, empty_database}
use Rattle.ss_replay.specs.Replaying.{IsOn}
use Rattle.ss_audit_laws.specs.Checks.{replayed}
use Rattle.ss_audit.specs.declared.positions.Placed.{Placed}
use Rattle.ss_audit.specs.declared.verdict.Verdict.{Verdict}
use Rattle.ss_audit.specs.Breaks.{IsNo, behind_replay, behind_replies, verdict_of}
use Rattle.ss_audit.specs.Lent.{lent_parts}
use Rattle.ss_audit.specs.Positions.{Finds}
use Rattle.ss_audit.proofs.Verdicts.{told_behind, told_no}
use Rattle.ss_audit.proofs.checks.check_entries.Goals as goal

pub replay_lines-requires-clause-found : goal.replay_lines-requires-clause-found
replay_lines-requires-clause-found c = subst (λ (ps : List Placed). Finds ps c.in_ok-first.first) c.requires.placed c.in_ok-first.ensures

pub check_database-requires-clause-on : goal.check_database-requires-clause-on
check_database-requires-clause-on c = (c.in-Ok.ensures.ok.0, c.in-Ok.ensures.ok.1)

pub returns-in-Ok : goal.returns-in-Ok
returns-in-Ok c =
    let catalog = c.args.catalog.now in
    let requests = c.args.requests.now in
    let parts = lent_parts c.args.parts in
    let ran = c.in-Ok.ensures.ok in
    if_ok (λ (v : Verdict). (d : Model) → IsOn catalog c.in-Ok.last d → v ≡ verdict_of (behind_replay catalog parts c.args.end d))
    (λ (v : Verdict). v ≡ verdict_of (behind_replies catalog requests parts c.args.end))
    (λ v is. told_behind 3 (replayed catalog requests (λ _. 0) (empty_database catalog) 0 parts.entries) (behind_replay catalog parts c.args.end) ran.0 v ran.2 (is ran.0 ran.1)) c.check_database.result c.check_database.ensures

pub returns : goal.returns
returns c =
    let catalog = c.args.catalog.now in
    let requests = c.args.requests.now in
    let parts = lent_parts c.args.parts in
    if_ok (IsNo 3 c.in-Err.broken) (λ (v : Verdict). v ≡ verdict_of (behind_replies catalog requests parts c.args.end))
    (λ v is. told_no 3 (replayed catalog requests (λ _. 0) (empty_database catalog) 0 parts.entries) (behind_replay catalog parts c.args.end) c.in-Err.broken v c.in-Err.ensures.broken is) c.no.result c.no.ensures
