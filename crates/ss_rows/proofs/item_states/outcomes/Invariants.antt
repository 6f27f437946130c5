use Rattle.ss_model.proofs.CallerLemmas.{Maps}
use Rattle.ss_rows.specs.Folds.{outcome}
use Rattle.ss_rows.proofs.item_states.outcomes.Given as goal

abbrev pub invariant-loop-state : goal.invariant-loop-state
invariant-loop-state l = Maps outcome l.states l.state-index l.row
