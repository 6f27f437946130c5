use Rattle.std.proofs.Common.{subst}
use Rattle.ss_table.specs.TableValue.{TableValue}
use Rattle.ss_table.specs.Placed.{ArePlaced}
use Rattle.ss_table.proofs.Placed.{are_placed}
use Rattle.ss_table.proofs.table.Table.rows_are_placed.Goals as goal

pub returns : goal.returns
returns c =
    let t = c.self.inside in
    subst (λ (h : TableValue). ArePlaced h) c.self.view_is (are_placed t.limit t.route t.first.rows.key t.first t.others c.self.invariant)
