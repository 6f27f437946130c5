use Rattle.std.proofs.Common.{[], ◌∷◌, map, drop}
use Rattle.ss_model.specs.Results.{try_filter}
use Rattle.ss_model.specs.Queries.{where_passes}
use Rattle.ss_rows.specs.Tuples.{tuples_of, rows_behind}
use Rattle.ss_rows.specs.Adding.{onto}
use Rattle.ss_rows.proofs.Adding.{Leaves}
use Rattle.ss_rows.proofs.filter.add_pairs.Given as goal

abbrev pub invariant-loop-inner : goal.invariant-loop-inner
invariant-loop-inner l = Leaves (where_passes l.wanted.params.now l.wanted.test.now) (onto (tuples_of l.fn.found.items) (try_filter (where_passes l.wanted.params.now l.wanted.test.now) (map (λ r. l.outer ∷ r ∷ []) (rows_behind l.partners)))) (tuples_of l.found.items) (map (λ r. l.outer ∷ r ∷ []) (rows_behind (drop l.inner-index l.partners)))
