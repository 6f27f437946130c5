use Rattle.std.proofs.Common.{Err, refl, rules}
use Rattle.ss_refusals.proofs.CallerLemmas.{source_told, source_held}
use Rattle.ss_audit_input.proofs.command.audit_source.Goals as goal

pub returns-in-Ok-clause-told : goal.returns-in-Ok-clause-told
returns-in-Ok-clause-told g c = source_held c.audit_lines.result _ _ (search rules)

pub returns-in-Err-clause-told : goal.returns-in-Err-clause-told
returns-in-Err-clause-told g c = source_told (Err c.in-Err.error) c.in-Err.error _ _ refl c.in-Err.ensures.told
