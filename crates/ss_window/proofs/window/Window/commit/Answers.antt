use Rattle.std.proofs.Common.{◌≡◌, ◌-◌, drop, sym, ap, subst, ◌∙◌, arith}
use Rattle.ss_window.specs.contracts.window.Window.{the_view}
use Rattle.ss_window.specs.Slides.{first_kept}
use Rattle.ss_window.specs.WindowValue.{WindowValue, unit_count, commit, WindowInvariant}
use Rattle.ss_window.proofs.Rises.{given_up_first, passed_within, still_held}
use Rattle.ss_window.proofs.window.Window.commit.Goals as goal

pub overflow_sub-first : goal.overflow_sub-first
overflow_sub-first c =
    let h : WindowValue = the_view c.self.inside in
    let first : c.first_kept-first.result ≡ first_kept h.size h.slide (unit_count h) = c.first_kept-first.ensures.is ∙ ap (first_kept h.size h.slide) (c.units.ensures ∙ ap unit_count (sym c.self.view_is)) in
    omega (arith, given_up_first h c.self.invariant, first)

pub drop_front-requires : goal.drop_front-requires
drop_front-requires c =
    let h : WindowValue = the_view c.self.inside in
    let first : c.first_kept-first.result ≡ first_kept h.size h.slide (unit_count h) = c.first_kept-first.ensures.is ∙ ap (first_kept h.size h.slide) (c.units.ensures ∙ ap unit_count (sym c.self.view_is)) in
    omega (arith, passed_within h c.self.invariant, first)

pub invariant_of-self : goal.invariant_of-self
invariant_of-self c =
    let h : WindowValue = the_view c.self.inside in
    let first : c.first_kept-first.result ≡ first_kept h.size h.slide (unit_count h) = c.first_kept-first.ensures.is ∙ ap (first_kept h.size h.slide) (c.units.ensures ∙ ap unit_count (sym c.self.view_is)) in
    let units : c.drop_front.new.self ≡ (commit h).kept = c.drop_front.ensures ∙ ap (λ n. drop (n - h.gone) h.kept) first in
    let is : commit h ≡ record h { gone = c.first_kept-first.result; kept = c.drop_front.new.self; fresh = 0 } = (λ i. record h { gone = sym first i; kept = sym units i; fresh = 0 }) in
    subst (λ (h : WindowValue). WindowInvariant h) is (still_held h c.self.invariant)
