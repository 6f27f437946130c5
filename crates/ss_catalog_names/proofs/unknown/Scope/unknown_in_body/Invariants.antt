use Rattle.std.proofs.Common.{◌≡◌, drop}
use Rattle.std.specs.List.{flat_map}
use Rattle.ss_catalog_outline.specs.Unknown.{step_uses, first_unknown}
use Rattle.ss_catalog_names.proofs.unknown.Scope.unknown_in_body.Given as goal

abbrev pub invariant-loop-step : goal.invariant-loop-step
invariant-loop-step l = first_unknown (flat_map (step_uses l.self) l.body) ≡ first_unknown (flat_map (step_uses l.self) (drop l.step-index l.body))
