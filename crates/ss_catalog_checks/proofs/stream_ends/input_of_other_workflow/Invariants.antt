use Rattle.std.proofs.Common.{◌≡◌, ◌-◌, slice_get, length}
use Rattle.std.specs.List.{flat_map, range_with_len}
use Rattle.ss_model.specs.Settling.{procedure_numbers}
use Rattle.ss_catalog_checks.specs.StreamEnds.{foreign_inputs}
use Rattle.ss_catalog_checks.proofs.stream_ends.input_of_other_workflow.Given as goal

abbrev pub invariant-loop-procedure : goal.invariant-loop-procedure
invariant-loop-procedure l =
    slice_get (flat_map (foreign_inputs l.catalog) (range_with_len l.procedure (length l.catalog.procedures - l.procedure))) 0
    ≡ slice_get (flat_map (foreign_inputs l.catalog) (procedure_numbers l.catalog)) 0
