use Rattle.std.proofs.Common.{◌≡◌, ◌∙◌, ◌++◌, ℕ, List, Some, map, slice_get, ap, sym}
use Rattle.ss_lemmas.proofs.Results.{on_so}
use Rattle.ss_model.specs.declared.catalog.Step.{Step}
use Rattle.ss_model.specs.Nests.{moved_body, moved_input, moved_step}
use Rattle.ss_nest.specs.Moves.{moved_by}
use Rattle.ss_nest.proofs.joined.add_member.Goals as goal

pub returns-in_ok-moves-in-Some : goal.returns-in_ok-moves-in-Some
returns-in_ok-moves-in-Some c =
    let reads = c.args.reads.now in
    let inner = c.args.inner.now in
    let ps = c.args.catalog.now.procedures in
    let found = c.in-Some.found.now in
    let there : slice_get ps c.args.member ≡ Some found = ap (slice_get ps) (sym c.from.ensures) ∙ c.in-Some.ensures.item in
    let body : map (moved_step (moved_by c.in_ok-moves-in-Some.moves) inner) c.as_slice-in-Some.result.now ≡ moved_body reads inner (slice_get ps c.args.member) =
    (λ i. map (moved_step (moved_by (c.in_ok-moves-in-Some.ensures i)) inner) (c.as_slice-in-Some.ensures i))
    ∙ ap (λ (inputs : List ℕ). map (moved_step (moved_input reads inputs) inner) found.body) c.as_slice.ensures
    ∙ ap (moved_body reads inner) (sym there) in
    on_so c.add_moved.result _ _ (λ h. h ∙ ap (λ (steps : List Step). c.args.joined.now ++ steps) body) c.add_moved.ensures
