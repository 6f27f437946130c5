use Rattle.std.proofs.Common.{◌≡◌, ◌++◌, drop}
use Rattle.std.specs.List.{flat_map}
use Rattle.ss_model_computed.proofs.windows.unit_rows.Given as goal

abbrev pub invariant-loop-unit : goal.invariant-loop-unit
invariant-loop-unit l = l.rows ++ flat_map (λ u. u) (drop l.unit-index l.units) ≡ flat_map (λ u. u) l.units
