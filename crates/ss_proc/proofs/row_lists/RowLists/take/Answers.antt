use Rattle.std.proofs.Common.{ℕ, List, [], set, ap, ◌∙◌}
use Rattle.ss_value.specs.Rows.{Rows}
use Rattle.ss_proc.specs.RowLists.{filled_up}
use Rattle.ss_proc.proofs.RowLists.{taken_out}
use Rattle.ss_proc.proofs.row_lists.RowLists.take.Goals as goal

pub returns-clause-none : goal.returns-clause-none
returns-clause-none c =
    let count = c.self.inside.count in
    ap (filled_up count) c.take_begun.ensures.none
    ∙ taken_out count c.from.result c.self.inside.begun
    ∙ ap (λ (lists : List Rows). set lists c.from.result []) c.self.view_is
    ∙ ap (λ (n : ℕ). set c.args.self.now n []) c.from.ensures
