use Rattle.std.proofs.Common.{◌≡◌, Some, subst, slice_get}
use Rattle.std.specs.Prelude.{option_map}
use Rattle.std.proofs.lemmas.Result.{err_from_is_err_and}
use Rattle.ss_model.specs.declared.catalog.Procedure.{Procedure}
use Rattle.serde_json.specs.View.{view}
use Rattle.ss_lemmas.proofs.LoopItem.{some_at}
use Rattle.ss_catalog.specs.Bodies.{with_body_in}
use Rattle.ss_catalog.proofs.OneBody.{body_floatless}
use Rattle.ss_catalog.proofs.bodies.body_in_place.Goals as goal

pub returns-clause-ok : goal.returns-clause-ok
returns-clause-ok c = λ d is.
    let catalog = c.args.catalog.now in
    let q = c.args.procedure in
    let body = view c.args.value.now in
    let o = c.in_ok-outline.outline in
    let placed = with_body_in q body d in
    let shaped = c.in_ok-outline.ensures.ok d is in
    let numbered = c.in_ok-check_outline.ensures.ok placed shaped in
    let compact = c.in_ok-text.ensures.compact in
    let there = some_at catalog.procedures q c.requires.within in
    let none = body_floatless catalog q body d there.0 o c.in_ok-text.text is there.1 shaped compact.reads_back in
    record {
      whole = d;
      is_read_from = is;
      outline = o;
      changed = c.in_ok-changed.changed;
      passes = c.in_ok-changed.ensures.ok placed numbered;
      limits = c.in_ok-changed.ensures.limits;
      steps = subst (λ n. option_map (λ (p : Procedure). p.body) (slice_get c.in_ok-changed.changed.procedures n) ≡ Some c.in_ok-steps.steps) c.from.ensures c.in_ok-steps.ensures;
      text = c.in_ok-text.ensures.text none;
      utf8 = c.in_ok-text.ensures.utf8;
      reads_back = compact.reads_back;
    }

pub changed_catalog-requires : goal.changed_catalog-requires
changed_catalog-requires c = c.in_ok-check_outline.ensures.few

pub returns-in_err-outline-clause-refused : goal.returns-in_err-outline-clause-refused
returns-in_err-outline-clause-refused c = λ d is.
    let told = err_from_is_err_and c.from_residual.result c.from_residual.ensures.1 in
    rw (told.1, told.2) (c.in_err-outline.ensures.refused d is)

pub returns-in_err-check_outline-clause-refused : goal.returns-in_err-check_outline-clause-refused
returns-in_err-check_outline-clause-refused c = λ d is.
    let told = err_from_is_err_and c.from_residual-in_err-check_outline.result c.from_residual-in_err-check_outline.ensures.1 in
    rw (told.1, told.2) (c.in_err-check_outline.ensures.refused (with_body_in c.args.procedure (view c.args.value.now) d) (c.in_ok-outline.ensures.ok d is))

pub returns-in_err-changed-clause-refused : goal.returns-in_err-changed-clause-refused
returns-in_err-changed-clause-refused c = λ d is.
    let placed = with_body_in c.args.procedure (view c.args.value.now) d in
    let told = err_from_is_err_and c.from_residual-in_err-changed.result c.from_residual-in_err-changed.ensures.1 in
    rw (told.1, told.2) (c.in_err-changed.ensures.refused placed (c.in_ok-check_outline.ensures.ok placed (c.in_ok-outline.ensures.ok d is)))

pub returns-in_err-steps-clause-refused : goal.returns-in_err-steps-clause-refused
returns-in_err-steps-clause-refused c = λ d is.
    let told = err_from_is_err_and c.from_residual-in_err-steps.result c.from_residual-in_err-steps.ensures.1 in
    rw (told.1, told.2) tt
