use Rattle.std.proofs.Common.{sym, ap, ◌∙◌}
use Rattle.std.specs.List.{find}
use Rattle.std.specs.FinMap as finite
use Rattle.ss_fragment.specs.Cells.{is_live}
use Rattle.ss_fragment.specs.Chunks.{slots_of}
use Rattle.ss_fragment.specs.FragmentValue.{FragmentValue, first_in}
use Rattle.ss_fragment.proofs.Cells.{live_entries}
use Rattle.ss_fragment.proofs.Answered.{first_live_is}
use Rattle.ss_fragment.proofs.fragment.Fragment.first.Goals as goal

pub returns : goal.returns
returns c =
    let t = c.self.inside in
    c.first_live.ensures ∙ ap (λ s. find (is_live s) (slots_of t.order)) c.as_slice.ensures.value
    ∙ sym (first_live_is t.key t.cells.items (slots_of t.order))
    ∙ sym (ap first_in (live_entries t.key t.cells.items (slots_of t.order) c.self.invariant.fragment))
    ∙ ap (λ (h : FragmentValue). first_in (finite.entries h.live)) c.self.view_is
