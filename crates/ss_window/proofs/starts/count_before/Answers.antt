use Rattle.std.proofs.Common.{◌≡◌, suc, ◌+◌, ap, ◌∙◌, arith}
use Rattle.ss_window.specs.Numbers.{rows_before}
use Rattle.ss_window.proofs.Numbered.{before_next, before_within}
use Rattle.ss_window.proofs.starts.count_before.Goals as goal

pub overflow_add-rows : goal.overflow_add-rows
overflow_add-rows c =
    let units = c.args.units.now.items in
    let position = c.loop-at.at in
    let unit = c.unit_at.result.now in
    let here = c.unit_at.ensures in
    let next = before_next units position unit here in
    let within = before_within (suc position) units in
    omega arith

pub loop-at-preserved : goal.loop-at-preserved
loop-at-preserved c =
    let units = c.args.units.now.items in
    let next = before_next units c.loop-at.at c.unit_at.result.now c.unit_at.ensures in
    let on : suc c.loop-at.at ≡ c.loop-at.at + 1 = omega arith in
    let sum : c.loop-at.rows + c.len-rows.result ≡ rows_before (suc c.loop-at.at) units = omega arith in
    sum ∙ ap (λ n. rows_before n units) on
