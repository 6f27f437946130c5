use Rattle.std.proofs.Common.{◌∙◌, ◌<◌, ℕ, sym, ap, subst, arith}
use Rattle.std.specs.Option.{SomeIff}
use Rattle.ss_audit_input.specs.Audits.{number_behind}
use Rattle.ss_audit_input.proofs.Reports.{behind_last, behind_none}
use Rattle.ss_audit_input.proofs.input.number_behind.Goals as goal

pub returns-in_default : goal.returns-in_default
returns-in_default c =
    let one = behind_none c.args.lines.now c.in_default.ensures.cases in
    (omega (arith, one), one)

pub returns : goal.returns
returns c =
    let behind = sym (ap number_behind c.in-Some.ensures.cases.0 ∙ behind_last c.in-Some.field-0-1.now c.in-Some.last.now) in
    subst (λ (n : ℕ). SomeIff c.checked_add.result (n < 18446744073709551616) n) behind c.checked_add.ensures
