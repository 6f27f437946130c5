use Rattle.std.proofs.Common.{List, sym, subst}
use Rattle.ss_undo.specs.Indexed.{Group, columns_of}
use Rattle.ss_undo.specs.Staying.{HaveStayed}
use Rattle.ss_undo.proofs.CallerLemmas.{without_indexes}
use Rattle.ss_table_cases.proofs.real.Real.rollback.Goals as goal

pub rollback-requires-clause-stayed : goal.rollback-requires-clause-stayed
rollback-requires-clause-stayed c =
    let r = c.self.inside in
    subst (λ (indexes : List Group). HaveStayed (columns_of indexes) r.tables r.undo.items) (sym c.new-indexes.ensures) (without_indexes r.tables r.undo.items)
