use Rattle.std.proofs.Common.{◌≡◌, ◌∷◌, [], ◌++◌, ℕ, cond, get_or, ap, ◌∙◌, sym, rules}
use Rattle.std.proofs.lemmas.List.{get_or_default}
use Rattle.ss_model.proofs.CallerLemmas.{indexed_more}
use Rattle.ss_core.specs.Commits.{is_touched}
use Rattle.ss_core.proofs.commits.known_after.Goals as goal

pub loop-part-preserved : goal.loop-part-preserved
loop-part-preserved c =
    let within = rw c.as_slice-old-items.ensures at c.loop-part-test.true in
    let one = λ (part old : ℕ). cond (is_touched c.args.core.now c.args.entry.now part) c.args.count old in
    let pushed : c.push.new.self ≡ c.loop-part.known ++ c.now_known-now.result ∷ [] = search rules in
    let now : c.now_known-now.result ≡ one c.loop-part.part (get_or c.args.core.now.known c.loop-part.part 0) = rw c.as_slice-old-items.ensures at c.now_known-now.ensures in
    pushed
    ∙ ap (λ known. c.loop-part.known ++ known ∷ []) now
    ∙ ap (λ known. known ++ one c.loop-part.part (get_or c.args.core.now.known c.loop-part.part 0) ∷ []) c.loop-part.invariant
    ∙ sym (indexed_more one c.args.core.now.known c.loop-part.part (get_or c.args.core.now.known c.loop-part.part 0) within (get_or_default c.args.core.now.known c.loop-part.part 0 _ within))
