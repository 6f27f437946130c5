use Rattle.std.proofs.Common.{◌≡◌, drop}
use Rattle.std.specs.List.{flat_map}
use Rattle.ss_catalog_outline.specs.Unknown.{given_uses, first_unknown}
use Rattle.ss_catalog_names.proofs.unknown.Scope.unknown_in_values.Given as goal

abbrev pub invariant-loop-given : goal.invariant-loop-given
invariant-loop-given l = first_unknown (flat_map (given_uses l.self) l.values) ≡ first_unknown (flat_map (given_uses l.self) (drop l.given-index l.values))
