use Rattle.std.proofs.Common.{◌≡◌, ◌++◌, ◌∷◌, [], Ok}
use Rattle.ss_model.specs.Results.{◌>>=◌, try_filter}
use Rattle.ss_model.specs.Queries.{where_passes}
use Rattle.ss_model_computed.proofs.edits.passing.Given as goal

abbrev pub invariant-loop-key : goal.invariant-loop-key
invariant-loop-key l =
    (try_filter (λ e. where_passes l.params l.test (e.1 ∷ [])) l.key-iterator.rest.items >>= λ found. Ok (l.found ++ found))
    ≡ try_filter (λ e. where_passes l.params l.test (e.1 ∷ [])) l.fn.entries
