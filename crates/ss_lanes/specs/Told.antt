-- What answers tell.
use Rattle.std.specs.Prelude.{ℕ, List, [], ◌∷◌, map}
use Rattle.ss_model.specs.declared.entry.Answer.{Answer}
use Rattle.ss_model.specs.declared.entry.Answer.TheVariants.{Listed as ListedAnswer, NoMemory, ListFull, Halted}
use Rattle.ss_model.specs.declared.entry.Outcome.{Outcome}
use Rattle.ss_lanes.specs.Mines.{Mine}

-- the places and outcomes of the listed answers; others tell of no entry
abbrev pub told : List Answer → List (ℕ × Outcome)
told [] = []
told (ListedAnswer place outcome ∷ more) = (place, outcome) ∷ told more
told (NoMemory ∷ more) = told more
told (ListFull count ∷ more) = told more
told (Halted faults ∷ more) = told more

abbrev pub outcome_at : Mine → ℕ × Outcome
outcome_at p = (p.0, p.1.outcome)

-- the places and outcomes of entries
abbrev pub outcomes : List Mine → List (ℕ × Outcome)
outcomes ps = map outcome_at ps
