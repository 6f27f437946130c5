use Rattle.std.proofs.Common.{◌≡◌, ◌++◌, [], length}
use Rattle.ss_index.specs.Pairs.{slots_in}
use Rattle.ss_index.specs.Entries.{pairs_in}
use Rattle.ss_index.specs.Merges.{fronts, in_front, AllRise}
use Rattle.ss_index.proofs.merge.merged_slots.Given as goal

abbrev pub invariant-loop-entry : goal.invariant-loop-entry
invariant-loop-entry l =
    AllRise (fronts l.heads.items)
    × (l.slots ++ slots_in (pairs_in (in_front (fronts l.heads.items))) [] l.high ≡ slots_in (pairs_in (in_front (fronts l.fn.heads.items))) [] l.high)

abbrev pub decreases-loop-entry : goal.decreases-loop-entry
decreases-loop-entry l = length (in_front (fronts l.heads.items))
