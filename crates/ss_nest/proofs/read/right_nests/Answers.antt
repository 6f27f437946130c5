use Rattle.std.proofs.Common.{◌∙◌, ap, subst, sym, List, Ok}
use Rattle.std.proofs.lemmas.Result.{err_from_is_err_and}
use Rattle.ss_model.specs.declared.catalog.Nest.{Nest}
use Rattle.ss_nest.specs.Members.{nests_of}
use Rattle.ss_nest.specs.Reads.{HasRightNests}
use Rattle.ss_nest.specs.Told.{IsReadOf, UnknownAs}
use Rattle.ss_nest.specs.declared.outline.NestOutline.{NestOutline}
use Rattle.ss_nest.proofs.Refusing.{shape_refuses, unknown_refuses}
use Rattle.ss_nest.proofs.read.right_nests.Goals as goal

pub returns-in_err-outlines-clause-refused : goal.returns-in_err-outlines-clause-refused
returns-in_err-outlines-clause-refused c = λ d plainly was.
    let told = err_from_is_err_and c.from_residual.result c.from_residual.ensures.1 in
    rw (told.1, told.2) (shape_refuses d c.args.plain.now c.args.read c.in_err-outlines.field-0.0 plainly was c.in_err-outlines.ensures.refused)

pub returns-in_err-nests-clause-refused : goal.returns-in_err-nests-clause-refused
returns-in_err-nests-clause-refused c = λ d plainly was.
    let told = err_from_is_err_and c.from_residual-in_err-nests.result c.from_residual-in_err-nests.ensures.1 in
    let shaped = subst (IsReadOf d) c.in_ok-outlines.ensures.ok was in
    let unknown = subst (λ (os : List NestOutline). UnknownAs (nests_of c.args.plain.now os) c.in_err-nests.field-0.0) c.as_slice.ensures c.in_err-nests.ensures.refused in
    rw (told.1, told.2) (unknown_refuses d c.args.plain.now c.in_ok-outlines.outlines c.in_err-nests.field-0.0 (plainly, shaped) unknown)

pub returns-in_err-check_nests-clause-refused : goal.returns-in_err-check_nests-clause-refused
returns-in_err-check_nests-clause-refused c = λ d plainly was.
    let told = err_from_is_err_and c.from_residual-in_err-check_nests.result c.from_residual-in_err-check_nests.ensures.1 in
    let shaped = subst (IsReadOf d) c.in_ok-outlines.ensures.ok was in
    let known = sym (ap (nests_of c.args.plain.now) c.as_slice.ensures) ∙ c.in_ok-nests.ensures.ok ∙ ap Ok (sym c.as_slice-2.ensures) in
    rw (told.1, told.2) (c.in_err-check_nests.ensures.refused d (c.in_ok-outlines.outlines, (plainly, shaped), known))

pub returns-clause-ok : goal.returns-clause-ok
returns-clause-ok c = λ d plainly was.
    let shaped = subst (IsReadOf d) c.in_ok-outlines.ensures.ok was in
    let known = sym (ap (nests_of c.args.plain.now) c.as_slice.ensures) ∙ c.in_ok-nests.ensures.ok ∙ ap Ok (sym c.as_slice-2.ensures) in
    subst (λ (ns : List Nest). HasRightNests d c.args.plain.now ns) c.as_slice-2.ensures
    (c.in_ok-check_nests.ensures.ok d (c.in_ok-outlines.outlines, (plainly, shaped), known))
