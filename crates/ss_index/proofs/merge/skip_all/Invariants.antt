use Rattle.std.proofs.Common.{◌≡◌, take}
use Rattle.ss_index.specs.Entries.{pair_in}
use Rattle.ss_index.specs.Merges.{fronts, skip_all}
use Rattle.ss_index.proofs.merge.skip_all.Given as goal

abbrev pub invariant-loop-head : goal.invariant-loop-head
invariant-loop-head l = fronts l.made.items ≡ skip_all (pair_in l.entry) (fronts (take l.head-index l.heads))
