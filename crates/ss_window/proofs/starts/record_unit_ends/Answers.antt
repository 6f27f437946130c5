use Rattle.std.proofs.Common.{◌≡◌, suc, ◌+◌, ◌<◌, [], ◌∷◌, ◌++◌, length, sym, ap, ◌∙◌, subst, arith}
use Rattle.std.proofs.lemmas.List.{length-append}
use Rattle.ss_window.specs.Numbers.{rows_before, AreStarts}
use Rattle.ss_window.proofs.Numbered.{before_next, before_within, with_end}
use Rattle.ss_window.proofs.starts.record_unit_ends.Goals as goal

pub overflow_add-end : goal.overflow_add-end
overflow_add-end c =
    let units = c.args.units.now.items in
    let position = c.loop-position.position in
    let unit = c.unit_at.result.now in
    let here = c.unit_at.ensures in
    let next = before_next units position unit here in
    let within = before_within (suc position) units in
    omega arith

pub loop-position-preserved : goal.loop-position-preserved
loop-position-preserved c =
    let units = c.args.units.now.items in
    let unit_ends = c.loop-position.unit_ends.items in
    let position = c.loop-position.position in
    let unit = c.unit_at.result.now in
    let end = c.loop-position.end + c.len-end.result in
    let here = c.unit_at.ensures in
    let next = before_next units position unit here in
    let noted : c.push_back.new.self.items ≡ unit_ends ++ end ∷ [] = c.in_ok-push_back.ensures.items in
    let more : length unit_ends < length units = omega arith in
    let known : suc position ≡ suc (length unit_ends) = omega arith in
    let on : suc position ≡ position + 1 = omega arith in
    let end_is : end ≡ c.args.first + rows_before (suc position) units = omega arith in
    record {
      noted = let n = length-append unit_ends (end ∷ []) in let m = ap length noted in omega arith;
      end_is = end_is ∙ ap (λ n. c.args.first + rows_before n units) on;
      right = subst (λ es. AreStarts c.args.first es units) (sym noted) (with_end c.args.first unit_ends units c.loop-position.invariant.right end more (end_is ∙ ap (λ n. c.args.first + rows_before n units) known));
    }
