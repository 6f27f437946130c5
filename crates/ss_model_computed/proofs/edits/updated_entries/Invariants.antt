use Rattle.std.proofs.Common.{◌≡◌, ◌++◌, Ok}
use Rattle.ss_model.specs.Results.{◌>>=◌, try_map}
use Rattle.ss_model_computed.specs.Edits.{updated_entry}
use Rattle.ss_model_computed.proofs.edits.updated_entries.Given as goal

abbrev pub invariant-loop-key : goal.invariant-loop-key
invariant-loop-key l =
    (try_map (updated_entry l.params l.sets) l.key-iterator.rest.items >>= λ new. Ok (l.new ++ new)) ≡ try_map (updated_entry l.params l.sets) l.fn.entries
