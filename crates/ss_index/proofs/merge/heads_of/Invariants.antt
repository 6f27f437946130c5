use Rattle.std.proofs.Common.{◌≡◌, ◌∷◌, map, take}
use Rattle.ss_index.specs.Merges.{fronts, from_end}
use Rattle.ss_index.proofs.merge.heads_of.Given as goal

abbrev pub invariant-loop-part : goal.invariant-loop-part
invariant-loop-part l = fronts l.heads.items ≡ map (from_end l.aim.low.now) (l.first ∷ take l.part-index l.others)
