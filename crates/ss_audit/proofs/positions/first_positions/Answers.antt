use Rattle.std.proofs.Common.{◌≡◌, ◌∙◌, ◌<◌, ◌-◌, ◌∷◌, ℕ, suc, length, drop, ap, subst, arith}
use Rattle.ss_lemmas.proofs.LoopItem.{drop_at, some_at}
use Rattle.ss_audit.specs.declared.positions.Placed.{Placed}
use Rattle.ss_audit.specs.Positions.{HasToo}
use Rattle.ss_audit.proofs.Finding.{one_more}
use Rattle.ss_audit.proofs.positions.first_positions.Goals as goal

pub loop-at-preserved : goal.loop-at-preserved
loop-at-preserved c =
    let all = c.args.requests.now in
    let at = c.loop-at.at in
    let within : at - 1 < length all = omega (arith, c.loop-at-test.true, c.loop-at.auto.at) in
    let (p, is) = some_at all (at - 1) within in
    let one : suc (at - 1) ≡ at = omega (arith, c.loop-at-test.true) in
    let here : drop (at - 1) all ≡ p ∷ drop at all = drop_at all (at - 1) p is ∙ ap (λ (n : ℕ). p ∷ drop n all) one in
    let too = subst (λ (p : Placed). HasToo p c.loop-at.first c.note_position.new.first) (c.placed_at.ensures p is) c.in_ok-note_position.ensures in
    one_more all (drop at all) (at - 1) p c.loop-at.first c.note_position.new.first here c.loop-at.invariant too
