use Rattle.std.proofs.Common.{◌++◌, [], ℕ, List, set, get_or, ap, ◌∙◌, arith}
use Rattle.std.proofs.lemmas.Result.{on_ok_weaker}
use Rattle.ss_value.specs.Rows.{Rows}
use Rattle.ss_proc.proofs.RowLists.{put_behind, no_shorter}
use Rattle.ss_proc.proofs.row_lists.RowLists.append.Goals as goal

pub returns : goal.returns
returns c =
    let count = c.self.inside.count in
    let old = c.self.inside.begun in
    let begun = c.begin.new.begun in
    let n = c.from-at.result in
    let rows : Rows = c.args.rows in
    let past = c.if-at-self.false in
    let few = c.begin.ensures.most count (omega arith) c.self.invariant.0 in
    on_ok_weaker c.append_begun.result
    (λ is. put_behind count n old begun c.append_begun.new.begun rows (no_shorter old begun c.begin.ensures.longer) few c.begin.ensures.longer c.in_ok-begin.ensures.ok is
    ∙ ap (λ (lists : List Rows). set lists n (get_or lists n [] ++ rows)) c.self.view_is
    ∙ ap (λ (m : ℕ). set c.args.self.now m (get_or c.args.self.now m [] ++ rows)) c.from-at.ensures)
    c.append_begun.ensures.ok
