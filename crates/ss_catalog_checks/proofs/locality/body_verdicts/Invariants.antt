use Rattle.std.proofs.Common.{◌≡◌, ◌++◌, drop}
use Rattle.std.specs.List.{flat_map}
use Rattle.ss_catalog_checks.specs.Localities.{verdicts}
use Rattle.ss_catalog_checks.proofs.locality.body_verdicts.Given as goal

abbrev pub invariant-loop-step : goal.invariant-loop-step
invariant-loop-step l = l.all ++ flat_map (verdicts l.catalog l.touch) (drop l.step-index l.body) ≡ flat_map (verdicts l.catalog l.touch) l.body
