use Rattle.std.proofs.Common.{◌+◌, option_map, sym, ap, ◌∙◌, arith}
use Rattle.ss_window.specs.WindowValue.{shown_rows}
use Rattle.ss_window.proofs.CallerLemmas.{shown_countable}
use Rattle.ss_plan.proofs.Meant.{next_there, number_within}
use Rattle.ss_plan.proofs.listed.next_shown.Goals as goal

pub overflow_add-next : goal.overflow_add-next
overflow_add-next c =
    let within = number_within (shown_rows c.args.window.now) c.args.at c.requires in
    let few = shown_countable c.args.window.now c.invariant_holds.ensures in
    omega arith

pub returns-in-Some : goal.returns-in-Some
returns-in-Some c = λ row behind stands. sym (next_there (shown_rows c.args.window.now) c.args.at row behind stands ∙ ap (option_map (λ _. c.args.at + 1)) (sym c.in-Some.ensures))

pub returns-in-None : goal.returns-in-None
returns-in-None c = λ row behind stands. sym (next_there (shown_rows c.args.window.now) c.args.at row behind stands ∙ ap (option_map (λ _. c.args.at + 1)) (sym c.in-None.ensures))
