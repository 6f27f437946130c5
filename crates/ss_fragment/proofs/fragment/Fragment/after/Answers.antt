use Rattle.std.proofs.Common.{◌≡◌, sym, ap, ◌∙◌, ◌+◌, slice_get, drop, Some, None, false}
use Rattle.std.specs.List.{find}
use Rattle.std.specs.Option.{option_copied, option_and_then}
use Rattle.std.specs.FinMap as finite
use Rattle.ss_fragment.specs.declared.cell.Cell.TheVariants.{Live}
use Rattle.ss_fragment.specs.Cells.{row_in, live_row, is_live}
use Rattle.ss_fragment.specs.Targets.{slot_rank}
use Rattle.ss_fragment.specs.Chunks.{slots_of}
use Rattle.ss_fragment.specs.FragmentValue.{FragmentValue, row_at, after_in}
use Rattle.ss_fragment.proofs.Cells.{live_entries, live_cell}
use Rattle.ss_fragment.proofs.Answered.{row_at_is, after_is}
use Rattle.ss_fragment.proofs.fragment.Fragment.after.Goals as goal

pub returns-in-None : goal.returns-in-None
returns-in-None c =
    let t = c.self.inside in
    let none : row_at c.args.self.now.live c.args.slot ≡ None =
    sym (ap (λ (h : FragmentValue). row_at h.live c.args.slot) c.self.view_is) ∙ row_at_is t.key t.cells.items (slots_of t.order) c.args.slot c.self.invariant.fragment
    ∙ sym (ap (λ s. live_row (slice_get s c.args.slot)) c.as_slice.ensures.value) ∙ sym c.live_row.ensures ∙ ap option_copied c.in-None.is in
    let has = rw none at c.requires in cc

pub live_from-requires : goal.live_from-requires
live_from-requires c =
    let t = c.self.inside in
    let cell : slice_get t.cells.items c.args.slot ≡ Some (Live c.in-Some.row.now) = live_cell _ _ (sym (ap (λ s. live_row (slice_get s c.args.slot)) c.as_slice.ensures.value) ∙ sym c.live_row.ensures ∙ ap option_copied c.in-Some.is) in
    record {
      fragment = rw (c.as_slice-in-Some.ensures.value, c.as_slice-in-Some-2.ensures) c.self.invariant.fragment;
      marked = rw (c.as_slice-in-Some.ensures.value, c.as_slice-in-Some-2.ensures) c.self.invariant.marked;
      has_key = rw (c.as_slice-in-Some-2.ensures, c.as_slice-in-Some-3.ensures) (c.self.invariant.fragment.keyed c.args.slot c.in-Some.row.now (ap (option_and_then row_in) cell));
    }

pub returns-in-Some : goal.returns-in-Some
returns-in-Some c =
    let t = c.self.inside in
    let cell : slice_get t.cells.items c.args.slot ≡ Some (Live c.in-Some.row.now) = live_cell _ _ (sym (ap (λ s. live_row (slice_get s c.args.slot)) c.as_slice.ensures.value) ∙ sym c.live_row.ensures ∙ ap option_copied c.in-Some.is) in
    c.live_from.ensures
    ∙ (λ i. find (is_live (c.as_slice-in-Some.ensures.value i)) (drop (slot_rank (c.as_slice-in-Some.ensures.value i) (c.as_slice-in-Some-2.ensures i) false (c.as_slice-in-Some-3.ensures i) (c.args.slot + 1) (slots_of t.order)) (slots_of t.order)))
    ∙ sym (after_is t.key t.cells.items (slots_of t.order) c.args.slot c.in-Some.row.now c.self.invariant.fragment cell)
    ∙ sym (ap (λ es. after_in es c.args.slot) (live_entries t.key t.cells.items (slots_of t.order) c.self.invariant.fragment))
    ∙ ap (λ (h : FragmentValue). after_in (finite.entries h.live) c.args.slot) c.self.view_is
