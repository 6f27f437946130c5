use Rattle.std.proofs.Common.{◌≡◌, length, Ok, refl}
use Rattle.std.specs.Prelude.{⊤}
use Rattle.ss_lemmas.proofs.Results.{if_ok}
use Rattle.ss_model.specs.Database.{Database as Model}
use Rattle.ss_replay.specs.Replaying.{IsOn}
use Rattle.ss_audit_laws.specs.Checks.{ends_well}
use Rattle.ss_audit.specs.declared.verdict.Verdict.{Verdict}
use Rattle.ss_audit.specs.declared.verdict.Verdict.TheVariants.{Yes}
use Rattle.ss_audit.specs.Breaks.{IsNo, behind_tables, verdict_of}
use Rattle.ss_audit.specs.Lent.{lent_parts}
use Rattle.ss_audit.proofs.Verdicts.{told_behind, told_no}
use Rattle.ss_audit.proofs.checks.check_last.Goals as goal

pub returns-in-Ok : goal.returns-in-Ok
returns-in-Ok c = λ d on.
    let catalog = c.args.catalog.now in
    let parts = lent_parts c.args.parts in
    told_behind 5 (ends_well catalog d (length parts.entries) parts.last) (λ (x : ⊤). Ok (length parts.entries)) tt (Yes (length parts.entries)) (c.in-Ok.ensures.ok d on) refl

pub returns-in-Err : goal.returns-in-Err
returns-in-Err c =
    let catalog = c.args.catalog.now in
    let parts = lent_parts c.args.parts in
    if_ok (IsNo 5 c.in-Err.broken) (λ (v : Verdict). (d : Model) → IsOn catalog c.args.database.now d → v ≡ verdict_of (behind_tables catalog parts d))
    (λ v is d on. told_no 5 (ends_well catalog d (length parts.entries) parts.last) (λ (x : ⊤). Ok (length parts.entries)) c.in-Err.broken v (c.in-Err.ensures.broken d on) is) c.no.result c.no.ensures
