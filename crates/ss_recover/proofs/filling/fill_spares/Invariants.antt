use Rattle.std.proofs.Common.{ℕ, ◌<◌, [], get_or}
use Rattle.ss_recover.specs.Loading.{AreBodies, HasMore}
use Rattle.ss_recover.proofs.filling.fill_spares.Given as goal

abbrev pub invariant-loop-number : goal.invariant-loop-number
invariant-loop-number l = record { more : HasMore l.fn.catalog l.catalog; named : (q : ℕ) → q < l.number → AreBodies l.catalog q (get_or l.spares q []) }
