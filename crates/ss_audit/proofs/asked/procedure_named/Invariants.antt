use Rattle.std.proofs.Common.{◌≡◌, ◌+◌, drop, option_map}
use Rattle.ss_audit_laws.specs.Checks.{procedure_named}
use Rattle.ss_audit.proofs.asked.procedure_named.Given as goal

abbrev pub invariant-loop-number : goal.invariant-loop-number
invariant-loop-number l = option_map (λ q. l.number + q) (procedure_named l.name (drop l.number l.procedures)) ≡ procedure_named l.name l.procedures
