use Rattle.std.proofs.Common.{◌+◌, ◌-◌, ◌<◌, ◌≤◌, slice_get, sym, ap, ◌∙◌, arith}
use Rattle.ss_window.specs.WindowValue.{rows_in}
use Rattle.ss_window.specs.Numbers.{rows_before}
use Rattle.ss_window.proofs.Numbered.{before_rises, row_in_between, row_past_between}
use Rattle.ss_window.proofs.units.Units.row_between.Goals as goal

pub overflow_sub-rows_before : goal.overflow_sub-rows_before
overflow_sub-rows_before c =
    let rises = before_rises c.args.from c.args.end c.args.self.now c.requires.rises in
    omega arith

pub returns-then-at-rows_before : goal.returns-then-at-rows_before
returns-then-at-rows_before c =
    let units = c.args.self.now in
    let short : c.args.at < rows_before c.args.end units - rows_before c.args.from units = omega arith in
    c.row.ensures ∙ ap (λ n. slice_get (rows_in units) (n + c.args.at)) c.rows_before-before.ensures
    ∙ row_in_between c.args.from c.args.end c.args.at units c.requires.rises short

pub returns-else-at-rows_before : goal.returns-else-at-rows_before
returns-else-at-rows_before c =
    let units = c.args.self.now in
    let past : rows_before c.args.end units - rows_before c.args.from units ≤ c.args.at = omega arith in
    sym (row_past_between c.args.from c.args.end c.args.at units c.requires.rises past)
