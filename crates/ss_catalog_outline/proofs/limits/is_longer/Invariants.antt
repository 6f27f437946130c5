use Rattle.std.proofs.Common.{◌≡◌, ◌+◌, take}
use Rattle.std.specs.List.{sum_by}
use Rattle.ss_catalog_outline.specs.Limits.{step_count}
use Rattle.ss_catalog_outline.proofs.limits.is_longer.Given as goal

abbrev pub invariant-loop-step : goal.invariant-loop-step
invariant-loop-step l = l.left + sum_by step_count (take l.step-index l.body) ≡ l.most
