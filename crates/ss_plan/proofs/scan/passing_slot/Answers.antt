use Rattle.std.proofs.Common.{◌≡◌, ℕ, Bool, [], ◌∷◌, cond, refl, ap, ◌∙◌, Ok}
use Rattle.std.proofs.lemmas.Result.{err_from_is_err_and}
use Rattle.ss_value.specs.Rows.{Row}
use Rattle.ss_model.specs.Queries.{where_passes}
use Rattle.ss_model.specs.Results.{OrAbort, ◌>>=◌}
use Rattle.ss_plan.proofs.Scanning.{nothing_kept, one_stops}
use Rattle.ss_plan.proofs.scan.passing_slot.Goals as goal

pub returns-then-branch-clause-ok : goal.returns-then-branch-clause-ok
returns-then-branch-clause-ok c =
    let p : ℕ × Row = (c.args.slot, c.args.row.now) in
    (p ∷ [], ap (λ (r : OrAbort Bool). r >>= λ b. Ok (cond b (p ∷ []) [])) (c.in_ok-passes.ensures.ok ∙ ap Ok c.if-branch.true), refl)

pub returns-else-branch-clause-ok : goal.returns-else-branch-clause-ok
returns-else-branch-clause-ok c =
    let p : ℕ × Row = (c.args.slot, c.args.row.now) in
    ([], ap (λ (r : OrAbort Bool). r >>= λ b. Ok (cond b (p ∷ []) [])) (c.in_ok-passes.ensures.ok ∙ ap Ok c.if-branch.false), refl)

pub returns-in_err-passes-clause-stops : goal.returns-in_err-passes-clause-stops
returns-in_err-passes-clause-stops c =
    let test = λ (p : ℕ × Row). where_passes c.args.params.now c.args.test.now (p.1 ∷ []) in
    let p : ℕ × Row = (c.args.slot, c.args.row.now) in
    let e = err_from_is_err_and c.from_residual.result c.from_residual.ensures.1 in
    rw (e.1, e.2) (one_stops test (p ∷ []) [] (p ∷ []) (nothing_kept test (p ∷ [])) p [] refl _ c.in_err-passes.ensures.stops)
