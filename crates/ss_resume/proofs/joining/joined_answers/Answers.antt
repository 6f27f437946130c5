use Rattle.std.proofs.Common.{◌≡◌, ◌++◌, ◌∙◌, List, [], ◌∷◌, ℕ, length, refl, sym, ap, arith}
use Rattle.std.proofs.lemmas.Iterator.Adapters.{items_from_extend, YieldsList-from_vec}
use Rattle.ss_model.specs.declared.entry.Answer.{Answer}
use Rattle.ss_resume.specs.Pasts.{joined_lists}
use Rattle.ss_resume.proofs.joining.joined_answers.Goals as goal

-- behind the last client of the first list, the further lists are left as they are
behind_all : (place : ℕ) (answers further : List (List Answer)) → length answers ≡ 0 → joined_lists place answers further ≡ further
behind_all place [] further none = refl
behind_all place (a ∷ answers) further none = absurd (omega (arith, none))

-- the clients so far, and behind them what is left of the further lists
pub returns : goal.returns
returns c =
    let earlier = c.loop-earlier.earlier-iterator.rest in
    let left = c.loop-earlier.left.rest in
    let added = items_from_extend c.extend.result c.extend.ensures.ran (YieldsList-from_vec left.items refl left.ok.0) in
    let none : length earlier.items ≡ 0 = sym earlier.ok.0 ∙ c.in-None.ensures.steps.0 in
    c.from_vec.ensures ∙ (rw c.in_ok-extend.was at added).0 ∙ ap (λ xs. c.loop-earlier.all.items ++ xs) (sym (behind_all c.args.place earlier.items left.items none)) ∙ c.loop-earlier.invariant.so_far
