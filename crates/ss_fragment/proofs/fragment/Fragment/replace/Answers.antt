use Rattle.std.proofs.Common.{sym, ap, ◌∙◌, slice_get}
use Rattle.std.specs.Option.{is_some}
use Rattle.ss_fragment.specs.declared.cell.Cell.TheVariants.{Live}
use Rattle.ss_fragment.specs.Cells.{live_row}
use Rattle.ss_fragment.specs.Chunks.{slots_of}
use Rattle.ss_fragment.specs.FragmentValue.{FragmentValue, row_at}
use Rattle.ss_fragment.proofs.Answered.{row_at_is}
use Rattle.ss_fragment.proofs.Turned.{live_slot}
use Rattle.ss_fragment.proofs.Replacing.{replace_step}
use Rattle.ss_fragment.proofs.Cells.{get_set_same}
use Rattle.ss_fragment.proofs.fragment.Fragment.replace.Goals as goal

pub swap_row-requires : goal.swap_row-requires
swap_row-requires c =
    let t = c.self.inside in
    let l = live_slot t.key t.cells.items (slots_of t.order) c.args.self.now c.args.slot c.self.invariant.fragment c.self.view_is c.requires.live in
    ap (λ o. is_some (live_row o)) l.1

pub invariant_of-self : goal.invariant_of-self
invariant_of-self c =
    let t = c.self.inside in
    (replace_step t.key t.cells.items c.swap_row.new.cells.items t.order t.count t.spare c.args.self.now c.args.slot c.self.invariant c.self.view_is c.args.row c.requires.live c.requires.same_key c.swap_row.ensures.new).kept

pub returns-clause-old : goal.returns-clause-old
returns-clause-old c =
    let t = c.self.inside in
    sym (ap (λ (h : FragmentValue). row_at h.live c.args.slot) c.self.view_is) ∙ row_at_is t.key t.cells.items (slots_of t.order) c.args.slot c.self.invariant.fragment ∙ c.swap_row.ensures.old

pub returns-clause-new : goal.returns-clause-new
returns-clause-new c =
    let t = c.self.inside in
    (replace_step t.key t.cells.items c.swap_row.new.cells.items t.order t.count t.spare c.args.self.now c.args.slot c.self.invariant c.self.view_is c.args.row c.requires.live c.requires.same_key c.swap_row.ensures.new).view

pub returns-clause-there : goal.returns-clause-there
returns-clause-there c =
    let t = c.self.inside in
    let b = replace_step t.key t.cells.items c.swap_row.new.cells.items t.order t.count t.spare c.args.self.now c.args.slot c.self.invariant c.self.view_is c.args.row c.requires.live c.requires.same_key c.swap_row.ensures.new in
    let l = live_slot t.key t.cells.items (slots_of t.order) c.args.self.now c.args.slot c.self.invariant.fragment c.self.view_is c.requires.live in
    row_at_is t.key c.swap_row.new.cells.items (slots_of t.order) c.args.slot b.kept.fragment ∙ ap (λ s. live_row (slice_get s c.args.slot)) c.swap_row.ensures.new ∙ ap live_row (get_set_same t.cells.items c.args.slot (Live c.args.row) (Live l.0) l.1)
