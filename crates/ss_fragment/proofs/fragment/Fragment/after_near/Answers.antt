use Rattle.std.proofs.Common.{List, sym, ap, subst, ◌∙◌}
use Rattle.std.specs.Prelude.{IsSome}
use Rattle.std.specs.FinMap as finite
use Rattle.ss_fragment.specs.declared.cell.Cell.{Cell}
use Rattle.ss_fragment.specs.Chunks.{slots_of}
use Rattle.ss_fragment.specs.Near.{without_hint, IsBehind}
use Rattle.ss_fragment.specs.FragmentValue.{FragmentValue, row_at, after_in}
use Rattle.ss_fragment.proofs.Cells.{live_entries}
use Rattle.ss_fragment.proofs.Near.{after_behind}
use Rattle.ss_fragment.proofs.fragment.Fragment.after_near.Goals as goal

pub returns-in-Some : goal.returns-in-Some
returns-in-Some c =
    let t = c.self.inside in
    let found = without_hint c.in-Some.found in
    let some = subst (λ (h : FragmentValue). IsSome (row_at h.live c.args.slot)) (sym c.self.view_is) c.requires in
    let b = subst (λ (cells : List Cell). IsBehind t.order c.args.slot cells found) c.as_slice.ensures.value c.in-Some.ensures in
    after_behind t.key t.cells.items t.order c.args.slot c.self.invariant.fragment some found b
    ∙ sym (ap (λ es. after_in es c.args.slot) (live_entries t.key t.cells.items (slots_of t.order) c.self.invariant.fragment))
    ∙ ap (λ (h : FragmentValue). after_in (finite.entries h.live) c.args.slot) c.self.view_is
