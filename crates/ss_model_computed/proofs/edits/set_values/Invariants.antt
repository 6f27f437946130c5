use Rattle.std.proofs.Common.{◌≡◌, ◌++◌, drop, Ok}
use Rattle.ss_model.specs.Results.{◌>>=◌, try_map}
use Rattle.ss_model_computed.specs.Edits.{set_value}
use Rattle.ss_model_computed.proofs.edits.set_values.Given as goal

abbrev pub invariant-loop-set : goal.invariant-loop-set
invariant-loop-set l =
    (try_map (set_value l.params l.here) (drop l.set-index l.sets) >>= λ values. Ok (l.values ++ values)) ≡ try_map (set_value l.params l.here) l.sets
