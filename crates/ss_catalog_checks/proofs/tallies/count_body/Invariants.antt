use Rattle.std.proofs.Common.{◌≡◌, ℕ, take}
use Rattle.std.specs.List.{list_any}
use Rattle.ss_model.specs.Database.{emits_to}
use Rattle.ss_catalog_checks.specs.Tallies.{tally, count_at}
use Rattle.ss_catalog_checks.proofs.tallies.count_body.Given as goal

abbrev pub invariant-loop-step : goal.invariant-loop-step
invariant-loop-step l = (s : ℕ) → count_at l.tallies s ≡ tally (list_any (emits_to s) (take l.step-index l.body)) l.mark (count_at l.fn.tallies s)
