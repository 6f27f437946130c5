use Rattle.std.proofs.Common.{arith}
use Rattle.ss_fragment.specs.Chunks.{slots_of}
use Rattle.ss_fragment.proofs.Turned.{count_below, dead_has_row}
use Rattle.ss_fragment.proofs.Marking.{unmark_step}
use Rattle.ss_fragment.proofs.fragment.Fragment.unmark.Goals as goal

pub make_live-requires : goal.make_live-requires
make_live-requires c =
    let t = c.self.inside in
    dead_has_row t.key t.cells.items (slots_of t.order) c.args.self.now c.args.slot c.self.invariant.fragment c.self.view_is c.requires.dead

pub overflow_add-self : goal.overflow_add-self
overflow_add-self c =
    let t = c.self.inside in
    let below = count_below t.key t.cells.items t.order t.count t.spare c.self.invariant in
    omega (arith, below, t.cells.ok.0, t.cells.ok.1, t.cells.small)

pub invariant_of-self : goal.invariant_of-self
invariant_of-self c =
    let t = c.self.inside in
    (unmark_step t.key t.cells.items c.make_live.new.cells.items t.order t.count t.spare c.args.self.now c.args.slot c.self.invariant c.self.view_is c.requires.dead c.requires.free_key c.make_live.ensures).kept

pub returns : goal.returns
returns c =
    let t = c.self.inside in
    (unmark_step t.key t.cells.items c.make_live.new.cells.items t.order t.count t.spare c.args.self.now c.args.slot c.self.invariant c.self.view_is c.requires.dead c.requires.free_key c.make_live.ensures).view
