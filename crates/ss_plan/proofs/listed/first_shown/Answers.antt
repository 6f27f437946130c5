use Rattle.std.proofs.Common.{option_map, sym, ap, ◌∙◌}
use Rattle.ss_window.specs.WindowValue.{shown_rows}
use Rattle.ss_plan.proofs.Meant.{first_row}
use Rattle.ss_plan.proofs.listed.first_shown.Goals as goal

pub returns-in-Some : goal.returns-in-Some
returns-in-Some c = sym (first_row (shown_rows c.args.window.now) ∙ ap (option_map (λ _. 0)) (sym c.in-Some.ensures))

pub returns-in-None : goal.returns-in-None
returns-in-None c = sym (first_row (shown_rows c.args.window.now) ∙ ap (option_map (λ _. 0)) (sym c.in-None.ensures))
