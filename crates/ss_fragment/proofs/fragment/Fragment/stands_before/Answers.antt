use Rattle.std.proofs.Common.{◌≡◌, ap, ◌∙◌}
use Rattle.std.specs.Ordering.{is_lt}
use Rattle.ss_fragment.specs.Cells.{rows_by}
use Rattle.ss_fragment.specs.FragmentValue.{FragmentValue}
use Rattle.ss_fragment.proofs.Keys.{rows_by-keys}
use Rattle.ss_fragment.proofs.fragment.Fragment.stands_before.Goals as goal

pub returns : goal.returns
returns c =
    let t = c.self.inside in
    let here : t.key ≡ c.args.self.now.key = ap (λ (h : FragmentValue). h.key) c.self.view_is in
    c.is_lt.ensures ∙ ap is_lt (c.compare_by.ensures ∙ (λ i. rows_by ((c.as_slice.ensures ∙ here) i) (c.as_slice-2.ensures i) (c.as_slice-3.ensures i)) ∙ rows_by-keys c.args.self.now.key c.args.a.now c.args.b.now c.requires.first c.requires.second)
