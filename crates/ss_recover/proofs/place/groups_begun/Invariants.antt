use Rattle.std.proofs.Common.{◌≡◌, ◌+◌, drop}
use Rattle.ss_recover.specs.Loading.{groups_begun}
use Rattle.ss_recover.proofs.place.groups_begun.Given as goal

abbrev pub invariant-loop-at : goal.invariant-loop-at
invariant-loop-at l = groups_begun l.sizes l.position ≡ l.at + groups_begun (drop l.at l.sizes) l.left
