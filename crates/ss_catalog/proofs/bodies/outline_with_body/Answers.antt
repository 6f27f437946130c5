use Rattle.std.proofs.Common.{◌≡◌, ◌∙◌, List, Ok, Some, ap, sym, subst, set, slice_get}
use Rattle.std.proofs.lemmas.Result.{err_from_is_err_and}
use Rattle.serde_json.specs.View.{view}
use Rattle.ss_catalog_json.specs.Readings.{OrFault, ◌>>=◌}
use Rattle.ss_catalog_outline.specs.declared.types.StepOutline.{StepOutline}
use Rattle.ss_catalog_outline.specs.declared.types.ProcedureOutline.{ProcedureOutline}
use Rattle.ss_catalog.proofs.InPlace.{outline_with, inside_body, outline_in_place, body_fault_refuses}
use Rattle.ss_catalog.proofs.bodies.outline_with_body.Goals as goal

pub returns-in_err-steps-clause-refused : goal.returns-in_err-steps-clause-refused
returns-in_err-steps-clause-refused c = λ d is.
    let q = c.args.procedure in
    let own = c.in_ok-outline.outline in
    let p = c.in-Some.own.now in
    let stands = subst (λ n. slice_get own.procedures n ≡ Some p) c.from-number.ensures c.in-Some.ensures.item in
    let told = err_from_is_err_and c.from_residual-in_err-steps.result c.from_residual-in_err-steps.ensures.1 in
    rw (told.1, told.2) (body_fault_refuses d own q p (view c.args.value.now) (c.in_ok-outline.ensures d is) stands c.in_err-steps.field-0.0 c.in_err-steps.ensures.refused)

pub returns-clause-ok : goal.returns-clause-ok
returns-clause-ok c = λ d is.
    let q = c.args.procedure in
    let body = view c.args.value.now in
    let own = c.in_ok-outline.outline in
    let p = c.in-Some.own.now in
    let steps = c.in_ok-steps.steps in
    let stands = subst (λ n. slice_get own.procedures n ≡ Some p) c.from-number.ensures c.in-Some.ensures.item in
    let put = subst (λ n. c.put_steps.new.procedures ≡ set own.procedures n (record p { body = steps })) c.from-number.ensures (c.put_steps.ensures p c.in-Some.ensures.item) in
    outline_in_place d own q p body (c.in_ok-outline.ensures d is) stands
    ∙ ap (λ (r : OrFault (List StepOutline)). inside_body q r >>= λ s. Ok (outline_with own q p s)) c.in_ok-steps.ensures.ok
    ∙ ap (λ (ps : List ProcedureOutline). Ok (record own { procedures = ps })) (sym put)
