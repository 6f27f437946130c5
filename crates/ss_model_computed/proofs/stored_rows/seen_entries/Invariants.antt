use Rattle.std.proofs.Common.{◌≡◌, ◌++◌}
use Rattle.std.specs.List.{filter}
use Rattle.ss_model.specs.Contents.{matches_split}
use Rattle.ss_model_computed.specs.State.{context_of}
use Rattle.ss_model_computed.proofs.stored_rows.seen_entries.Given as goal

abbrev pub invariant-loop-key : goal.invariant-loop-key
invariant-loop-key l = let p = matches_split (context_of l.context).catalog (context_of l.context).split_value l.table in
    l.seen ++ filter (λ e. p e.0) l.key-iterator.rest.items ≡ filter (λ e. p e.0) l.fn.entries
