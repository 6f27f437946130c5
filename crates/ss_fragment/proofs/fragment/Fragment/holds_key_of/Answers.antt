use Rattle.std.proofs.Common.{ap, sym, ◌∙◌}
use Rattle.std.specs.Option.{is_some}
use Rattle.ss_fragment.specs.Chunks.{slots_of}
use Rattle.ss_fragment.specs.FragmentValue.{key_of, slot_with}
use Rattle.ss_fragment.specs.Invariant.{live_list}
use Rattle.ss_fragment.proofs.Putting.{taken_is}
use Rattle.ss_fragment.proofs.fragment.Fragment.holds_key_of.Goals as goal

pub returns : goal.returns
returns c =
    let t = c.self.inside in
    c.is_some.ensures ∙ ap is_some (c.live_near-found.ensures ∙ (λ i. slot_with (key_of (c.as_slice-2.ensures i) (c.as_slice-3.ensures i)) (live_list (c.as_slice.ensures.value i) (c.as_slice-2.ensures i) (slots_of t.order))))
    ∙ sym (taken_is t.key t.cells.items (slots_of t.order) c.args.self.now c.args.row.now c.self.invariant.fragment c.self.view_is)
