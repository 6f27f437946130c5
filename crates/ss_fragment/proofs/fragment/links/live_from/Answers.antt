use Rattle.std.proofs.Common.{sym, ap, subst, ◌∙◌, drop, false}
use Rattle.std.specs.List.{find}
use Rattle.std.specs.List.Sorted.{IsPartitionedBy}
use Rattle.ss_fragment.specs.Cells.{is_live}
use Rattle.ss_fragment.specs.Targets.{Target, is_before, rank}
use Rattle.ss_fragment.specs.Chunks.{slots_of}
use Rattle.ss_fragment.proofs.Marked.{parted_marks, rest_slots}
use Rattle.ss_fragment.proofs.fragment.links.live_from.Goals as goal

pub next_live-requires : goal.next_live-requires
next_live-requires c =
    let P : Target → Type 0 = λ a. IsPartitionedBy (is_before a) c.args.order.now in
    subst P (sym c.aim_at-aim.ensures) (parted_marks c.args.cells.now c.args.key.now false c.args.row.now c.args.slot c.args.order.now c.requires.fragment c.requires.marked (λ _. c.requires.has_key))

pub returns : goal.returns
returns c =
    c.next_live.ensures ∙ ap (λ (a : Target). find (is_live a.cells) (slots_of (drop (rank a c.args.order.now) c.args.order.now))) c.aim_at-aim.ensures
    ∙ ap (find (is_live c.args.cells.now)) (rest_slots c.args.cells.now c.args.key.now false c.args.row.now c.args.slot c.args.order.now c.requires.fragment c.requires.marked (λ _. c.requires.has_key))
