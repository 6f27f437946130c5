use Rattle.std.proofs.Common.{◌≤◌, ◌∙◌, ℕ, List, IfOk, subst}
use Rattle.ss_value.specs.Rows.{Rows}
use Rattle.ss_turns.specs.Runs.{HasRun}
use Rattle.ss_turns.proofs.stepping.run_step.Goals as goal

pub returns-clause-ok : goal.returns-clause-ok
returns-clause-ok g c =
    subst (λ (batches : List Rows). IfOk c.run.result (λ x. (n : ℕ) → 1 ≤ n → HasRun g.I.Life.catalog n c.args.shard.now c.run.new.shard (record { entry = c.args.entry.now; outcome = x.outcome }) batches x.emitted))
    (c.all-batches.ensures ∙ c.as_slice.ensures) c.run.ensures.ok
