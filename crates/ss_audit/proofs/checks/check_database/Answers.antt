use Rattle.std.proofs.Common.{◌≡◌}
use Rattle.std.specs.Prelude.{⊤}
use Rattle.ss_lemmas.proofs.Results.{if_ok}
use Rattle.ss_model.specs.Database.{Database as Model}
use Rattle.ss_model.specs.ReportLines.{database_lines}
use Rattle.ss_replay.specs.Replaying.{IsOn}
use Rattle.ss_audit_laws.specs.Checks.{all_say}
use Rattle.ss_audit.specs.declared.verdict.Verdict.{Verdict}
use Rattle.ss_audit.specs.Breaks.{IsNo, behind_replay, behind_tables, verdict_of}
use Rattle.ss_audit.specs.Lent.{lent_parts}
use Rattle.ss_audit.proofs.Verdicts.{told_behind, told_no}
use Rattle.ss_audit.proofs.checks.check_database.Goals as goal

pub returns-in-Ok : goal.returns-in-Ok
returns-in-Ok c =
    let catalog = c.args.catalog.now in
    let parts = lent_parts c.args.parts in
    if_ok (λ (v : Verdict). (d : Model) → IsOn catalog c.args.database.now d → v ≡ verdict_of (behind_tables catalog parts d))
    (λ (v : Verdict). (d : Model) → IsOn catalog c.args.database.now d → v ≡ verdict_of (behind_replay catalog parts c.args.end d))
    (λ v is d on. told_behind 4 (all_say c.args.end (database_lines catalog d) parts.tables) (λ (x : ⊤). behind_tables catalog parts d) tt v (c.in-Ok.ensures.ok d on) (is d on)) c.check_last.result c.check_last.ensures

pub returns-in-Err : goal.returns-in-Err
returns-in-Err c =
    let catalog = c.args.catalog.now in
    let parts = lent_parts c.args.parts in
    if_ok (IsNo 4 c.in-Err.broken) (λ (v : Verdict). (d : Model) → IsOn catalog c.args.database.now d → v ≡ verdict_of (behind_replay catalog parts c.args.end d))
    (λ v is d on. told_no 4 (all_say c.args.end (database_lines catalog d) parts.tables) (λ (x : ⊤). behind_tables catalog parts d) c.in-Err.broken v (c.in-Err.ensures.broken d on) is) c.no.result c.no.ensures
