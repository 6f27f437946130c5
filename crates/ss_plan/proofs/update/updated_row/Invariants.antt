use Rattle.std.proofs.Common.{◌≡◌, drop, Ok}
use Rattle.ss_model.specs.Results.{◌>>=◌, try_map}
use Rattle.ss_model.specs.Statements.{updated_row}
use Rattle.ss_plan.specs.Setting.{set_value, with_values}
use Rattle.ss_plan.proofs.update.updated_row.Given as goal

-- the SETs that are left make of the row so far what all of them make of the old one
abbrev pub invariant-loop-set : goal.invariant-loop-set
invariant-loop-set l =
    (try_map (set_value l.params l.row) (drop l.set-index l.sets) >>= λ values. Ok (with_values l.new values)) ≡ updated_row l.params l.sets l.row
