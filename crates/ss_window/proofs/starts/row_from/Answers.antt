use Rattle.std.proofs.Common.{◌<◌, ◌≤◌, length, ◌∙◌, rules}
use Rattle.ss_window.proofs.Numbered.{row_here, row_on}
use Rattle.ss_window.proofs.starts.row_from.Goals as goal

pub returns-then-left-len : goal.returns-then-left-len
returns-then-left-len c =
    let units = c.args.units.now.items in
    let unit = c.unit_at-unit.result.now in
    let here = c.unit_at-unit.ensures in
    let short : c.loop-at.left < length unit = search rules in
    c.get.ensures.value ∙ row_here units c.loop-at.at c.loop-at.left unit here short ∙ c.loop-at.invariant

pub loop-at-preserved : goal.loop-at-preserved
loop-at-preserved c =
    let units = c.args.units.now.items in
    let unit = c.unit_at-unit.result.now in
    let here = c.unit_at-unit.ensures in
    let long : length unit ≤ c.loop-at.left = search rules in
    rw c.len-left.ensures (row_on units c.loop-at.at c.loop-at.left unit here long ∙ c.loop-at.invariant)
