use Rattle.std.proofs.Common.{Err, refl, rules}
use Rattle.ss_refusals.proofs.SourceTold.{source_told, source_held}
use Rattle.ss_refusals.proofs.input.read_input.Goals as goal

pub returns-in-Err-clause-told : goal.returns-in-Err-clause-told
returns-in-Err-clause-told g c = source_told (Err c.in-Err.e) c.in-Err.e _ _ refl c.in-Err.ensures.told

pub returns-clause-told : goal.returns-clause-told
returns-clause-told g c = source_held c.parse_input.result _ _ (search rules)
