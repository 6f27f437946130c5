use Rattle.std.proofs.Common.{◌≡◌, ◌==◌, ℕ, take}
use Rattle.std.specs.List.{list_any}
use Rattle.ss_catalog_checks.specs.Tallies.{tally, count_at}
use Rattle.ss_catalog_checks.proofs.tallies.count_inputs.Given as goal

abbrev pub invariant-loop-input : goal.invariant-loop-input
invariant-loop-input l = (s : ℕ) → count_at l.tallies s ≡ tally (list_any (λ input. input == s) (take l.input-index l.inputs)) l.mark (count_at l.fn.tallies s)
