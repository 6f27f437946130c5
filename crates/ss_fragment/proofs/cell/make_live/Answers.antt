use Rattle.std.proofs.Common.{◌≡◌, sym, ap, subst, ◌∙◌, slice_set}
use Rattle.std.specs.Option.{IfSome}
use Rattle.ss_fragment.specs.declared.cell.Cell.TheVariants.{Free, Live}
use Rattle.ss_fragment.proofs.Cases.{set_twice}
use Rattle.ss_fragment.proofs.cell.make_live.Goals as goal

pub returns : goal.returns
returns c =
    let cells = c.args.cells.now.items in
    let slot = c.args.slot in
    let set : slice_set c.free_cell-row.new.cells.items slot (Live c.free_cell-row.result) ≡ slice_set cells slot (Live c.free_cell-row.result) =
    ap (λ s. slice_set s slot (Live c.free_cell-row.result)) c.free_cell-row.ensures.new ∙ set_twice cells slot (Free 0) (Live c.free_cell-row.result) in
    subst (λ o. IfSome o (λ row. slice_set c.free_cell-row.new.cells.items slot (Live c.free_cell-row.result) ≡ slice_set cells slot (Live row))) (sym c.free_cell-row.ensures.old) set
