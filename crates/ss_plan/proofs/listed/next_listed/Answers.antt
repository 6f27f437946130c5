use Rattle.std.proofs.Common.{◌+◌, ◌≤◌, ◌<◌, length, option_map, sym, ap, ◌∙◌, arith}
use Rattle.std.proofs.lemmas.Option.{slice_get_past, slice_get-get_or}
use Rattle.ss_plan.proofs.Meant.{next_there, number_within}
use Rattle.ss_plan.proofs.listed.next_listed.Goals as goal

pub overflow_add-at : goal.overflow_add-at
overflow_add-at c = let within = number_within c.args.rows.now c.args.at c.requires in omega (arith, c.count-count.ensures)

pub returns-then-at-count : goal.returns-then-at-count
returns-then-at-count c = λ row behind stands.
    let within : c.args.at + 1 < length c.args.rows.now = omega (arith, c.count-count.ensures) in
    sym (next_there c.args.rows.now c.args.at row behind stands ∙ ap (option_map (λ _. c.args.at + 1)) (slice_get-get_or c.args.rows.now (c.args.at + 1) row within))

pub returns-else-at-count : goal.returns-else-at-count
returns-else-at-count c = λ row behind stands.
    let past : length c.args.rows.now ≤ c.args.at + 1 = omega (arith, c.count-count.ensures) in
    sym (next_there c.args.rows.now c.args.at row behind stands ∙ ap (option_map (λ _. c.args.at + 1)) (slice_get_past c.args.rows.now (c.args.at + 1) past))
