use Rattle.std.proofs.Common.{◌≡◌, ◌∙◌, ◌==◌, ◌+◌, ℕ, List, true, false, length, ap, sym, arith}
use Rattle.std.specs.List.{filter, range_with_len}
use Rattle.std.proofs.lemmas.List.{length_push}
use Rattle.ss_lemmas.proofs.Filtered.{filter_takes, filter_passes_by}
use Rattle.ss_model.specs.Nests.{stands_for}
use Rattle.ss_nest.proofs.joined.nested_number.Goals as goal
use Rattle.ss_nest.proofs.joined.nested_number.Goals.{then-stands_there, else-stands_there}

pub loop-number-preserved : goal.loop-number-preserved
loop-number-preserved c =
    let stands = λ (n : ℕ). stands_for c.args.nests.now n == n in
    let n = c.loop-number.number in
    let so_far = filter stands (range_with_len 0 n) in
    elim c.if-stands_there.branch [
      | then-stands_there w ↦
          let passes : stands n ≡ true = sym c.stands_there.ensures ∙ w.if-stands_there.true in
          let more : length so_far + 1 ≡ length (filter stands (range_with_len 0 (n + 1))) = sym (length_push so_far n) ∙ ap (λ (ns : List ℕ). length ns) (filter_takes stands n passes) in
          record { count = w.before-is ∙ ap (λ k. k + 1) c.loop-number.invariant.count ∙ more; within = omega arith }
      | else-stands_there w ↦
          let passes : stands n ≡ false = sym c.stands_there.ensures ∙ w.if-stands_there.false in
          record { count = w.before-is ∙ c.loop-number.invariant.count ∙ ap (λ (ns : List ℕ). length ns) (filter_passes_by stands n passes); within = omega arith }
    ]
