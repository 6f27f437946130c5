use Rattle.std.proofs.Common.{◌≡◌, length, option_copied}
use Rattle.ss_chunks.specs.Chunks.{rest_items}
use Rattle.ss_index.specs.Entries.{pair_in, ahead}
use Rattle.ss_index.specs.Merges.{ahead_of, skip_pair}
use Rattle.ss_index.proofs.merge.skip.Given as goal

abbrev pub invariant-loop-here : goal.invariant-loop-here
invariant-loop-here l = skip_pair (pair_in l.entry) (ahead (option_copied l.here) (rest_items l.behind)) ≡ skip_pair (pair_in l.entry) (ahead_of l.head)

abbrev pub decreases-loop-here : goal.decreases-loop-here
decreases-loop-here l = length (ahead (option_copied l.here) (rest_items l.behind))
