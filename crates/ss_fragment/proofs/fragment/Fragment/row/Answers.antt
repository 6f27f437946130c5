use Rattle.std.proofs.Common.{sym, ap, ◌∙◌, slice_get}
use Rattle.ss_fragment.specs.Cells.{live_row}
use Rattle.ss_fragment.specs.Chunks.{slots_of}
use Rattle.ss_fragment.specs.FragmentValue.{FragmentValue, row_at}
use Rattle.ss_fragment.proofs.Answered.{row_at_is}
use Rattle.ss_fragment.proofs.fragment.Fragment.row.Goals as goal

pub returns : goal.returns
returns c =
    let t = c.self.inside in
    c.live_row.ensures ∙ ap (λ s. live_row (slice_get s c.args.slot)) c.as_slice.ensures.value
    ∙ sym (row_at_is t.key t.cells.items (slots_of t.order) c.args.slot c.self.invariant.fragment) ∙ ap (λ (h : FragmentValue). row_at h.live c.args.slot) c.self.view_is
