use Rattle.std.proofs.Common.{sym, ap, subst, ◌∙◌, drop}
use Rattle.std.specs.List.{find}
use Rattle.std.specs.List.Sorted.{IsPartitionedBy}
use Rattle.std.specs.Option.{option_and_then}
use Rattle.ss_fragment.specs.Targets.{Target, is_before, rank, stops, hit}
use Rattle.ss_fragment.specs.Chunks.{slots_of}
use Rattle.ss_fragment.proofs.Marked.{parted_marks, hit_slots}
use Rattle.ss_fragment.proofs.Sought.{live_with_is}
use Rattle.ss_fragment.proofs.fragment.links.live_near.Goals as goal

pub next_hit-requires : goal.next_hit-requires
next_hit-requires c =
    let P : Target → Type 0 = λ a. IsPartitionedBy (is_before a) c.args.order.now in
    subst P (sym c.aim_at-aim.ensures) (parted_marks c.args.cells.now c.args.key.now c.args.is_key c.args.values.now 0 c.args.order.now c.requires.fragment c.requires.marked c.requires.values)

pub returns : goal.returns
returns c =
    c.next_hit.ensures ∙ ap (λ (a : Target). option_and_then (hit a) (find (stops a) (drop (rank a c.args.order.now) c.args.order.now))) c.aim_at-aim.ensures
    ∙ hit_slots c.args.cells.now c.args.key.now c.args.is_key c.args.values.now 0 c.args.order.now c.requires.fragment c.requires.marked c.requires.values
    ∙ sym (live_with_is c.args.key.now c.args.is_key c.args.values.now c.requires.values c.args.cells.now (slots_of c.args.order.now) c.requires.fragment)
