use Rattle.ss_audit_laws.proofs.Valid.{printed_right}
use Rattle.ss_audit_laws.proofs.laws.printed_is_right.Goals as goal

pub returns : goal.returns
returns c = λ catalog accepted requests lines end list one valid printed.
    printed_right catalog accepted (record { in_step = c.databases_stay_in_step.ensures; rest = c.drained_at_rest.ensures; whole = c.whole_databases_stay.ensures }) requests lines end list valid one
    printed.answers printed.written printed.readable
