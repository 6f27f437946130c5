use Rattle.std.proofs.Common.{◌≡◌, ℕ, map}
use Rattle.std.specs.Global.{Vec}
use Rattle.ss_lemmas.proofs.Results.{if_ok}
use Rattle.ss_sql_trees.specs.declared.typed.SourceId.TheVariants.{Table as FromTable}
use Rattle.ss_plan.specs.Plans.{seen_in, SlotsAreEnough}
use Rattle.ss_plan.proofs.Finding.{all_found}
use Rattle.ss_plan.proofs.found_slots.slots_by_plan.Goals as goal

pub returns-in-None-clause-ok : goal.returns-in-None-clause-ok
returns-in-None-clause-ok c =
    let seen = seen_in c.args.from (FromTable c.args.table) in
    if_ok
    (λ (slots : Vec ℕ). slots.items ≡ map (λ p. p.0) seen)
    (λ (slots : Vec ℕ). SlotsAreEnough seen c.args.params.now c.args.test.now slots.items)
    (λ slots are. (seen, all_found c.args.params.now c.args.test.now seen, are))
    c.all_positions.result c.all_positions.ensures
