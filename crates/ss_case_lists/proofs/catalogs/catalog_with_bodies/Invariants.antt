use Rattle.ss_model.specs.Accepted.{Accepted}
use Rattle.ss_nest.specs.Reads.{WasNested}
use Rattle.ss_case_lists.proofs.catalogs.catalog_with_bodies.Given as goal

abbrev pub invariant-loop-asked : goal.invariant-loop-asked
invariant-loop-asked l = Accepted l.catalog × WasNested l.catalog
