use Rattle.std.proofs.Common.{◌≡◌, ap, ◌∙◌, None, Option}
use Rattle.ss_sql_type.specs.declared.kinds.ValueKind.{ValueKind}
use Rattle.ss_sql_type.specs.declared.scope.TypeError.TheVariants.{WrongType}
use Rattle.ss_sql_type.specs.Refusals.{least_of}
use Rattle.ss_sql_type.specs.Kinds.{may_compare}
use Rattle.ss_sql_type.specs.Names.{Reach}
use Rattle.ss_sql_type.specs.Expressions.{typed_expr}
use Rattle.ss_sql_type.specs.Statements.{right_faults}
use Rattle.ss_sql_type.proofs.Noted.{check_noted}
use Rattle.ss_sql_type.proofs.statement.right_of.Goals as goal

pub returns-clause-ok : goal.returns-clause-ok
returns-clause-ok c = c.in_ok-typed.ensures.ok.0 ∙ ap (λ (r : Reach). (typed_expr r None c.args.right.now).expr) c.in_ok-names.ensures.ok

pub returns-clause-faults : goal.returns-clause-faults
returns-clause-faults c =
    let reach = c.in_ok-names.names in
    let t = typed_expr reach None c.args.right.now in
    let f0 = c.args.found.now in
    let kinds : c.may_compare.result ≡ may_compare c.args.kind t.kind = c.may_compare.ensures ∙ ap (λ (k : Option ValueKind). may_compare c.args.kind k) c.in_ok-typed.ensures.ok.1 in
    check_noted f0 c.expr_of.new.found c.check.new.found t.faults c.may_compare.result (may_compare c.args.kind t.kind) (WrongType c.in_ok-typed.typed.at) (WrongType t.at) c.in_ok-typed.ensures.faults kinds (ap WrongType c.in_ok-typed.ensures.ok.2) c.check.ensures
    ∙ ap (λ (r : Reach). least_of f0 (right_faults c.args.kind (typed_expr r None c.args.right.now))) c.in_ok-names.ensures.ok
