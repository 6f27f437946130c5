use Rattle.std.proofs.Common.{◌≡◌, refl, sym, ap, subst, ◌∙◌, ℕ, List, slice_get, Some, arith}
use Rattle.std.specs.FinMap as finite
use Rattle.std.proofs.lemmas.Option.{slice_get_within}
use Rattle.ss_fragment.specs.declared.cell.Cell.TheVariants.{Free, Live}
use Rattle.ss_fragment.specs.Cells.{live_row, dead_row}
use Rattle.ss_fragment.specs.Targets.{linked_order}
use Rattle.ss_fragment.specs.Chunks.{slots_of}
use Rattle.ss_fragment.specs.FragmentValue.{FragmentValue, HasKey, row_at}
use Rattle.ss_fragment.specs.Invariant.{fragment_of}
use Rattle.ss_fragment.proofs.Cells.{get_set_same}
use Rattle.ss_fragment.proofs.Answered.{row_at_is, dead_at_is}
use Rattle.ss_fragment.proofs.Cases.{on_ok, on_err}
use Rattle.ss_fragment.proofs.Turned.{count_below}
use Rattle.ss_fragment.proofs.Putting.{grown_step, put_step}
use Rattle.ss_fragment.proofs.fragment.Fragment.put_new.Goals as goal

pub invariant_of-self : goal.invariant_of-self
invariant_of-self c =
    let t = c.self.inside in
    (grown_step t.key t.cells.items c.make_free.new.cells.items t.order t.count t.spare c.make_free.new.spare c.args.self.now c.self.invariant c.self.view_is c.make_free.ensures.grown c.make_free.ensures.few).kept

pub returns-then-is_err-clause-err : goal.returns-then-is_err-clause-err
returns-then-is_err-clause-err c =
    let t = c.self.inside in
    ((grown_step t.key t.cells.items c.make_free.new.cells.items t.order t.count t.spare c.make_free.new.spare c.args.self.now c.self.invariant c.self.view_is c.make_free.ensures.grown c.make_free.ensures.few).view, refl)

pub link-requires : goal.link-requires
link-requires c =
    let t = c.self.inside in
    let b = grown_step t.key t.cells.items c.make_free.new.cells.items t.order t.count t.spare c.make_free.new.spare c.args.self.now c.self.invariant c.self.view_is c.make_free.ensures.grown c.make_free.ensures.few in
    let here : t.key ≡ c.args.self.now.key = ap (λ (x : FragmentValue). x.key) c.self.view_is in
    let P : List ℕ → Type 0 = λ k. HasKey k c.args.row in
    record {
      fragment = rw (c.as_slice.ensures.value, c.as_slice-2.ensures) b.kept.fragment;
      marked = rw (c.as_slice.ensures.value, c.as_slice-2.ensures) b.kept.marked;
      has_key = rw (c.as_slice-2.ensures, c.as_slice-3.ensures) (subst P (sym here) c.requires.has_key);
    }

pub invariant_of-self-then-is_err-2 : goal.invariant_of-self-then-is_err-2
invariant_of-self-then-is_err-2 c =
    let t = c.self.inside in
    let b = grown_step t.key t.cells.items c.make_free.new.cells.items t.order t.count t.spare c.make_free.new.spare c.args.self.now c.self.invariant c.self.view_is c.make_free.ensures.grown c.make_free.ensures.few in
    let same : c.link.new.order ≡ t.order = on_err c.link.result (c.link.new.order ≡ t.order) (sym c.is_err-2.ensures.value ∙ c.if-is_err-2.true) c.link.ensures.err in
    rw same b.kept

pub returns-then-is_err-2-clause-err : goal.returns-then-is_err-2-clause-err
returns-then-is_err-2-clause-err c =
    let t = c.self.inside in
    let b = grown_step t.key t.cells.items c.make_free.new.cells.items t.order t.count t.spare c.make_free.new.spare c.args.self.now c.self.invariant c.self.view_is c.make_free.ensures.grown c.make_free.ensures.few in
    let same : c.link.new.order ≡ t.order = on_err c.link.result (c.link.new.order ≡ t.order) (sym c.is_err-2.ensures.value ∙ c.if-is_err-2.true) c.link.ensures.err in
    ((ap (λ m. fragment_of t.key c.make_free.new.cells.items (slots_of m)) same ∙ b.view), refl)

pub fill-self-inside-requires : goal.fill-self-inside-requires
fill-self-inside-requires c =
    let ok = on_ok c.make_free.result ((n : ℕ) × (slice_get c.make_free.new.cells.items c.make_free.new.free ≡ Some (Free n))) (sym c.is_err.ensures.value ∙ c.if-is_err.false) c.make_free.ensures.ok in
    slice_get_within c.make_free.new.cells.items c.make_free.new.free (Free ok.0) ok.1

pub overflow_add-self : goal.overflow_add-self
overflow_add-self c =
    let t = c.self.inside in
    let below = count_below t.key t.cells.items t.order t.count t.spare c.self.invariant in
    omega (arith, below, t.cells.ok.0, t.cells.ok.1, t.cells.small)

pub invariant_of-self-2 : goal.invariant_of-self-2
invariant_of-self-2 c =
    let t = c.self.inside in
    (put_step t.key t.cells.items c.make_free.new.cells.items c.fill-self-inside.new.cells.items t.order c.link.new.order _ t.count t.spare c.make_free.new.spare c.args.self.now c.make_free.new.free c.args.row
    c.make_free.result c.link.result c.self.invariant c.self.view_is c.make_free.ensures.grown c.make_free.ensures.few c.requires.has_key c.requires.free (sym c.is_err.ensures.value ∙ c.if-is_err.false) c.make_free.ensures.ok c.make_free.ensures.some c.fill-self-inside.ensures
    (sym c.is_err-2.ensures.value ∙ c.if-is_err-2.false) c.link.ensures.ok (λ i. linked_order (c.as_slice.ensures.value i) (c.as_slice-2.ensures i) (c.as_slice-3.ensures i) c.make_free.new.free t.order)).kept

pub returns-clause-ok : goal.returns-clause-ok
returns-clause-ok c =
    let t = c.self.inside in
    (put_step t.key t.cells.items c.make_free.new.cells.items c.fill-self-inside.new.cells.items t.order c.link.new.order _ t.count t.spare c.make_free.new.spare c.args.self.now c.make_free.new.free c.args.row
    c.make_free.result c.link.result c.self.invariant c.self.view_is c.make_free.ensures.grown c.make_free.ensures.few c.requires.has_key c.requires.free (sym c.is_err.ensures.value ∙ c.if-is_err.false) c.make_free.ensures.ok c.make_free.ensures.some c.fill-self-inside.ensures
    (sym c.is_err-2.ensures.value ∙ c.if-is_err-2.false) c.link.ensures.ok (λ i. linked_order (c.as_slice.ensures.value i) (c.as_slice-2.ensures i) (c.as_slice-3.ensures i) c.make_free.new.free t.order)).view

pub returns-clause-few : goal.returns-clause-few
returns-clause-few c =
    let ok = on_ok c.make_free.result ((n : ℕ) × (slice_get c.make_free.new.cells.items c.make_free.new.free ≡ Some (Free n))) (sym c.is_err.ensures.value ∙ c.if-is_err.false) c.make_free.ensures.ok in
    let within = slice_get_within c.make_free.new.cells.items c.make_free.new.free (Free ok.0) ok.1 in
    let few = c.make_free.ensures.few in
    omega (arith, within, few)

pub returns-clause-fresh : goal.returns-clause-fresh
returns-clause-fresh c =
    let t = c.self.inside in
    let b = grown_step t.key t.cells.items c.make_free.new.cells.items t.order t.count t.spare c.make_free.new.spare c.args.self.now c.self.invariant c.self.view_is c.make_free.ensures.grown c.make_free.ensures.few in
    let ok = on_ok c.make_free.result ((n : ℕ) × (slice_get c.make_free.new.cells.items c.make_free.new.free ≡ Some (Free n))) (sym c.is_err.ensures.value ∙ c.if-is_err.false) c.make_free.ensures.ok in (
      (sym (ap (λ (x : FragmentValue). row_at x.live c.make_free.new.free) b.view) ∙ row_at_is t.key c.make_free.new.cells.items (slots_of t.order) c.make_free.new.free b.kept.fragment ∙ ap live_row ok.1),
      (sym (ap (λ (x : FragmentValue). finite.get x.dead c.make_free.new.free) b.view) ∙ dead_at_is t.key c.make_free.new.cells.items (slots_of t.order) c.make_free.new.free b.kept.fragment ∙ ap dead_row ok.1),
    )

pub returns-clause-there : goal.returns-clause-there
returns-clause-there c =
    let t = c.self.inside in
    let ok = on_ok c.make_free.result ((n : ℕ) × (slice_get c.make_free.new.cells.items c.make_free.new.free ≡ Some (Free n))) (sym c.is_err.ensures.value ∙ c.if-is_err.false) c.make_free.ensures.ok in
    let s =
    put_step t.key t.cells.items c.make_free.new.cells.items c.fill-self-inside.new.cells.items t.order c.link.new.order _ t.count t.spare c.make_free.new.spare c.args.self.now c.make_free.new.free c.args.row
    c.make_free.result c.link.result c.self.invariant c.self.view_is c.make_free.ensures.grown c.make_free.ensures.few c.requires.has_key c.requires.free (sym c.is_err.ensures.value ∙ c.if-is_err.false) c.make_free.ensures.ok c.make_free.ensures.some c.fill-self-inside.ensures
    (sym c.is_err-2.ensures.value ∙ c.if-is_err-2.false) c.link.ensures.ok (λ i. linked_order (c.as_slice.ensures.value i) (c.as_slice-2.ensures i) (c.as_slice-3.ensures i) c.make_free.new.free t.order) in
    row_at_is t.key c.fill-self-inside.new.cells.items (slots_of c.link.new.order) c.make_free.new.free s.kept.fragment ∙ ap (λ l. live_row (slice_get l c.make_free.new.free)) c.fill-self-inside.ensures ∙ ap live_row (get_set_same c.make_free.new.cells.items c.make_free.new.free (Live c.args.row) (Free ok.0) ok.1)
