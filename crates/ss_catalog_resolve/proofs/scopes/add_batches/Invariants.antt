use Rattle.std.proofs.Common.{◌≡◌, ◌++◌, take}
use Rattle.ss_model.specs.Results.{map_indexed}
use Rattle.ss_catalog_resolve.specs.Numbered.{sections_of}
use Rattle.ss_catalog_resolve.specs.Scopes.{named_batch}
use Rattle.ss_catalog_resolve.proofs.scopes.add_batches.Given as goal

abbrev pub invariant-loop-position : goal.invariant-loop-position
invariant-loop-position l = l.names ≡ l.initial.names ++ map_indexed (named_batch (sections_of l.outline)) (take l.position l.inputs)
