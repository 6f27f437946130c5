use Rattle.std.proofs.Common.{◌≡◌, ◌++◌, map, take}
use Rattle.ss_catalog_checks.specs.Localities.{is_local_inner}
use Rattle.ss_catalog_checks.proofs.locality.add_inner.Given as goal

abbrev pub invariant-loop-inner : goal.invariant-loop-inner
invariant-loop-inner l = l.all ≡ l.fn.all ++ map (is_local_inner l.catalog l.touch) (take l.inner-index l.body)
