use Rattle.std.proofs.Common.{◌≡◌, length}
use Rattle.std.specs.List.{find}
use Rattle.ss_chunks.specs.Chunks.{rest_items}
use Rattle.ss_fragment.specs.Cells.{is_live}
use Rattle.ss_fragment.specs.Chunks.{slots_of}
use Rattle.ss_fragment.proofs.order.live_near.Given as goal

abbrev pub invariant-loop-mark : goal.invariant-loop-mark
invariant-loop-mark l = find (is_live l.cells) (slots_of (rest_items l.fn.rest)) ≡ find (is_live l.cells) (slots_of (rest_items l.behind))

abbrev pub decreases-loop-mark : goal.decreases-loop-mark
decreases-loop-mark l = length (rest_items l.behind)
