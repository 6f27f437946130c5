use Rattle.std.proofs.Common.{◌≡◌, drop}
use Rattle.std.specs.List.{flat_map}
use Rattle.ss_catalog_outline.specs.Unknown.{own_procedure_uses, first_unknown}
use Rattle.ss_catalog_names.proofs.unknown.unknown_in_each.Given as goal

abbrev pub invariant-loop-procedure : goal.invariant-loop-procedure
invariant-loop-procedure l = first_unknown (flat_map (own_procedure_uses l.tables l.streams) l.procedures) ≡ first_unknown (flat_map (own_procedure_uses l.tables l.streams) (drop l.procedure-index l.procedures))
