use Rattle.std.proofs.Common.{◌∙◌, ◌+◌, ◌-◌, ℕ, sym, ap, List, [], ◌∷◌, ◌++◌, map, append_assoc}
use Rattle.std.specs.List.{range_with_len}
use Rattle.ss_lemmas.proofs.Firsts.{range_on}
use Rattle.ss_model.specs.declared.entry.Request.{Request}
use Rattle.ss_voter.specs.Script.{add_contestant}
use Rattle.ss_voter.proofs.script.show_requests.Goals as goal

pub loop-contestant-preserved : goal.loop-contestant-preserved
loop-contestant-preserved c =
    let k = c.loop-contestant.contestant in
    let before = c.loop-contestant.requests in
    let rest : List Request = map add_contestant (range_with_len (k + 1) (7 - (k + 1))) in
    ap (λ (rs : List Request). rs ++ rest) (c.in_ok-push-2.ensures.ok ∙ ap (λ (r : Request). before ++ r ∷ []) c.in_ok-add_contestant.ensures)
    ∙ append_assoc before (add_contestant k ∷ []) rest
    ∙ ap (λ (ks : List ℕ). before ++ map add_contestant ks) (sym (range_on 7 k c.loop-contestant-test.true))
    ∙ c.loop-contestant.invariant
