use Rattle.std.proofs.Common.{◌+◌, length}
use Rattle.std.specs.List.{sum_by}
use Rattle.ss_catalog_checks.proofs.Searches.{Search, unset}
use Rattle.ss_catalog_checks.proofs.graph.reached_nodes.Given as goal

abbrev pub invariant-search : goal.invariant-search
invariant-search l = Search l.graph l.starts l.seen l.todo

abbrev pub decreases-search : goal.decreases-search
decreases-search l = sum_by unset l.seen + length l.todo
