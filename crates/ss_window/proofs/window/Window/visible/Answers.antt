use Rattle.std.proofs.Common.{◌≡◌, sym, ap, ◌∙◌, arith}
use Rattle.ss_window.specs.contracts.window.Window.{the_view}
use Rattle.ss_window.specs.Slides.{first_kept}
use Rattle.ss_window.specs.WindowValue.{WindowValue, unit_count}
use Rattle.ss_window.proofs.Rises.{given_up_first}
use Rattle.ss_window.proofs.window.Window.visible.Goals as goal

pub overflow_sub-from : goal.overflow_sub-from
overflow_sub-from c =
    let h : WindowValue = the_view c.self.inside in
    let first : c.first_kept.result ≡ first_kept h.size h.slide (unit_count h) = c.first_kept.ensures.is ∙ ap (first_kept h.size h.slide) (c.units-count.ensures ∙ ap unit_count (sym c.self.view_is)) in
    omega (arith, given_up_first h c.self.invariant, first)
