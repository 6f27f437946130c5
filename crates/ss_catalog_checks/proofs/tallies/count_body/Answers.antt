use Rattle.std.proofs.Common.{◌≡◌, ◌+◌, ◌||◌, ap, sym, ◌∙◌, take}
use Rattle.std.specs.List.{list_any}
use Rattle.std.proofs.lemmas.List.Folds.{list_any_more}
use Rattle.ss_model.specs.Database.{emits_to}
use Rattle.ss_catalog_checks.specs.Tallies.{tally, count_at}
use Rattle.ss_catalog_checks.proofs.Noting.{noted_twice}
use Rattle.ss_catalog_checks.proofs.tallies.count_body.Goals as goal

pub loop-step-preserved : goal.loop-step-preserved
loop-step-preserved c = λ s.
    let more : list_any (emits_to s) (take (c.loop-step.step-index + 1) c.args.body.now) ≡ (list_any (emits_to s) (take c.loop-step.step-index c.args.body.now) || emits_to s c.step-item.result) = list_any_more (emits_to s) c.args.body.now c.loop-step.step-index c.step-item.result c.loop-step-test.true ∙ ap (λ x. list_any (emits_to s) (take c.loop-step.step-index c.args.body.now) || emits_to s x) (sym c.step-item.is) in
    c.in_ok-count_step.ensures s
    ∙ ap (tally (emits_to s c.step-item.result) c.args.mark) (c.loop-step.invariant s)
    ∙ noted_twice (list_any (emits_to s) (take c.loop-step.step-index c.args.body.now)) (emits_to s c.step-item.result) c.args.mark (count_at c.args.tallies.now s)
    ∙ ap (λ b. tally b c.args.mark (count_at c.args.tallies.now s)) (sym more)
