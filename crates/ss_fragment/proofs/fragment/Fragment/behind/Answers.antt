use Rattle.std.proofs.Common.{◌≡◌, ℕ, List, ◌∙◌, sym, ap, subst, drop, false, ◌^◌, ◌-◌, arith}
use Rattle.std.specs.List.{find}
use Rattle.std.specs.FinMap as finite
use Rattle.ss_fragment.specs.Cells.{is_live}
use Rattle.ss_fragment.specs.Targets.{slot_rank}
use Rattle.ss_fragment.specs.Chunks.{slots_of}
use Rattle.ss_fragment.specs.FragmentValue.{FragmentValue, HasKey, key_of, first_in, live_behind}
use Rattle.ss_fragment.proofs.Behind.{behind_is}
use Rattle.ss_fragment.proofs.fragment.Fragment.behind.Goals as goal

pub live_from-requires : goal.live_from-requires
live_from-requires c =
    let t = c.self.inside in
    let here : t.key ≡ c.args.self.now.key = ap (λ (h : FragmentValue). h.key) c.self.view_is in
    let P : List ℕ → Type 0 = λ k. HasKey k c.args.row.now in
    record {
      fragment = rw (c.as_slice.ensures.value, c.as_slice-2.ensures) c.self.invariant.fragment;
      marked = rw (c.as_slice.ensures.value, c.as_slice-2.ensures) c.self.invariant.marked;
      has_key = rw (c.as_slice-2.ensures, c.as_slice-3.ensures) (subst P (sym here) c.requires);
    }

pub returns : goal.returns
returns c =
    let t = c.self.inside in
    let here : t.key ≡ c.args.self.now.key = ap (λ (h : FragmentValue). h.key) c.self.view_is in
    let P : List ℕ → Type 0 = λ k. HasKey k c.args.row.now in
    let most = c.self.invariant.few in
    c.live_from.ensures
    ∙ (λ i. find (is_live (c.as_slice.ensures.value i)) (drop (slot_rank (c.as_slice.ensures.value i) (c.as_slice-2.ensures i) false (c.as_slice-3.ensures i) (2 ^ 64 - 1) (slots_of t.order)) (slots_of t.order)))
    ∙ sym (behind_is t.key t.cells.items c.args.row.now (2 ^ 64 - 1) (subst P (sym here) c.requires) c.self.invariant.fragment.keyed (omega (arith, most)) (slots_of t.order) c.self.invariant.fragment)
    ∙ ap (λ (h : FragmentValue). first_in (finite.entries (live_behind h.live (key_of h.key c.args.row.now)))) c.self.view_is
