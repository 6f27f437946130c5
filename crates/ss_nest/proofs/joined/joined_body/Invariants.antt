use Rattle.std.proofs.Common.{◌≡◌, take}
use Rattle.ss_model.specs.Nests.{joined_body}
use Rattle.ss_nest.proofs.joined.joined_body.Given as goal

abbrev pub invariant-loop-member : goal.invariant-loop-member
invariant-loop-member l = l.joined ≡ joined_body l.catalog l.reads l.inner (take l.member-index l.members)
