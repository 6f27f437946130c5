use Rattle.std.proofs.Common.{◌≡◌, length}
use Rattle.std.specs.List.{find}
use Rattle.std.specs.Option.{option_and_then}
use Rattle.ss_chunks.specs.Chunks.{rest_items}
use Rattle.ss_fragment.specs.Targets.{target_of, stops, hit}
use Rattle.ss_fragment.proofs.order.hit_in.Given as goal

abbrev pub invariant-loop-mark : goal.invariant-loop-mark
invariant-loop-mark l =
    option_and_then (hit (target_of l.aim)) (find (stops (target_of l.aim)) (rest_items l.fn.rest)) ≡ option_and_then (hit (target_of l.aim)) (find (stops (target_of l.aim)) (rest_items l.behind))

abbrev pub decreases-loop-mark : goal.decreases-loop-mark
decreases-loop-mark l = length (rest_items l.behind)
