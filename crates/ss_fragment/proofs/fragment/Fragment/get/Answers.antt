use Rattle.std.proofs.Common.{sym, ap, ◌∙◌, ℕ, option_map}
use Rattle.std.specs.FinMap as finite
use Rattle.ss_value.specs.Rows.{Row}
use Rattle.ss_fragment.specs.Chunks.{slots_of}
use Rattle.ss_fragment.specs.FragmentValue.{FragmentValue, slot_with}
use Rattle.ss_fragment.specs.Invariant.{live_list}
use Rattle.ss_fragment.proofs.Cells.{live_get}
use Rattle.ss_fragment.proofs.fragment.Fragment.get.Goals as goal

pub returns : goal.returns
returns c =
    let t = c.self.inside in
    c.live_with.ensures ∙ (λ i. slot_with c.args.key.now (live_list (c.as_slice.ensures.value i) (c.as_slice-2.ensures i) (slots_of t.order)))
    ∙ sym (ap (option_map (λ (p : ℕ × Row). p.0)) (live_get t.key t.cells.items (slots_of t.order) c.self.invariant.fragment c.args.key.now))
    ∙ ap (λ (h : FragmentValue). option_map (λ (p : ℕ × Row). p.0) (finite.get h.live c.args.key.now)) c.self.view_is
