use Rattle.std.proofs.Common.{sym, ap, ◌∙◌}
use Rattle.std.specs.FinMap as finite
use Rattle.ss_fragment.specs.Cells.{dead_row}
use Rattle.ss_fragment.specs.FragmentValue.{FragmentValue}
use Rattle.ss_fragment.specs.Chunks.{slots_of}
use Rattle.ss_fragment.proofs.Turned.{live_slot, live_has_row, live_counted}
use Rattle.ss_fragment.proofs.Marking.{mark_step}
use Rattle.ss_fragment.proofs.Answered.{dead_at_is}
use Rattle.ss_fragment.proofs.fragment.Fragment.mark_dead.Goals as goal

pub make_dead-requires : goal.make_dead-requires
make_dead-requires c =
    let t = c.self.inside in
    live_has_row t.key t.cells.items (slots_of t.order) c.args.self.now c.args.slot c.self.invariant.fragment c.self.view_is c.requires

pub overflow_sub-self : goal.overflow_sub-self
overflow_sub-self c =
    let t = c.self.inside in
    live_counted t.key t.cells.items (slots_of t.order) c.args.self.now c.args.slot t.count c.self.invariant.fragment c.self.view_is c.requires c.self.invariant.counted

pub invariant_of-self : goal.invariant_of-self
invariant_of-self c =
    let t = c.self.inside in
    (mark_step t.key t.cells.items c.make_dead.new.cells.items t.order t.count t.spare c.args.self.now c.args.slot c.self.invariant c.self.view_is c.requires c.make_dead.ensures).kept

pub returns-clause-new : goal.returns-clause-new
returns-clause-new c =
    let t = c.self.inside in
    (mark_step t.key t.cells.items c.make_dead.new.cells.items t.order t.count t.spare c.args.self.now c.args.slot c.self.invariant c.self.view_is c.requires c.make_dead.ensures).view

pub returns-clause-apart : goal.returns-clause-apart
returns-clause-apart c =
    let t = c.self.inside in
    let l = live_slot t.key t.cells.items (slots_of t.order) c.args.self.now c.args.slot c.self.invariant.fragment c.self.view_is c.requires in
    sym (ap (λ (x : FragmentValue). finite.get x.dead c.args.slot) c.self.view_is) ∙ dead_at_is t.key t.cells.items (slots_of t.order) c.args.slot c.self.invariant.fragment ∙ ap dead_row l.1
