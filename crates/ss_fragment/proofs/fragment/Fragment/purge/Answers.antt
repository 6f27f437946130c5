use Rattle.std.proofs.Common.{◌≡◌, refl, sym, ap, ◌∙◌, Some}
use Rattle.std.specs.FinMap as finite
use Rattle.ss_fragment.specs.declared.cell.Cell.TheVariants.{Dead}
use Rattle.ss_fragment.specs.Cells.{dead_row}
use Rattle.ss_fragment.specs.Chunks.{slots_of}
use Rattle.ss_fragment.specs.FragmentValue.{FragmentValue}
use Rattle.ss_fragment.proofs.Answered.{dead_at_is}
use Rattle.ss_fragment.proofs.Turned.{dead_slot, row_some, dead_has_row}
use Rattle.ss_fragment.proofs.Removing.{purge_step}
use Rattle.ss_fragment.proofs.fragment.Fragment.purge.Goals as goal

pub unlink-requires-clause-row : goal.unlink-requires-clause-row
unlink-requires-clause-row c =
    let t = c.self.inside in
    rw c.as_slice.ensures.value (dead_has_row t.key t.cells.items (slots_of t.order) c.args.self.now c.args.slot c.self.invariant.fragment c.self.view_is c.requires)

pub free_cell-row-requires : goal.free_cell-row-requires
free_cell-row-requires c =
    let t = c.self.inside in
    dead_has_row t.key t.cells.items (slots_of t.order) c.args.self.now c.args.slot c.self.invariant.fragment c.self.view_is c.requires

pub invariant_of-self : goal.invariant_of-self
invariant_of-self c =
    let t = c.self.inside in
    (purge_step t.key t.cells.items c.free_cell-row.new.cells.items t.order c.unlink.new.order t.count t.spare t.free c.args.self.now c.args.slot c.self.invariant c.self.view_is c.free_cell-row.ensures.new c.unlink.ensures c.requires).kept

pub returns-clause-old : goal.returns-clause-old
returns-clause-old c =
    let t = c.self.inside in
    let l = dead_slot t.key t.cells.items (slots_of t.order) c.args.self.now c.args.slot c.self.invariant.fragment c.self.view_is c.requires in
    let row : Some l.0 ≡ Some c.free_cell-row.result = sym (row_some t.cells.items c.args.slot (Dead l.0) l.0 l.1 refl) ∙ c.free_cell-row.ensures.old in
    sym (ap (λ (h : FragmentValue). finite.get h.dead c.args.slot) c.self.view_is) ∙ dead_at_is t.key t.cells.items (slots_of t.order) c.args.slot c.self.invariant.fragment ∙ ap dead_row l.1 ∙ row

pub returns-clause-new : goal.returns-clause-new
returns-clause-new c =
    let t = c.self.inside in
    (purge_step t.key t.cells.items c.free_cell-row.new.cells.items t.order c.unlink.new.order t.count t.spare t.free c.args.self.now c.args.slot c.self.invariant c.self.view_is c.free_cell-row.ensures.new c.unlink.ensures c.requires).view
