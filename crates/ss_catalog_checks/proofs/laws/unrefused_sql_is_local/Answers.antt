use Rattle.ss_catalog_checks.proofs.Allowing.{uses_only, reads_limited}
use Rattle.ss_catalog_checks.proofs.laws.unrefused_sql_is_local.Goals as goal

pub returns : goal.returns
returns c = λ catalog plain scope allowed unrefused q p is. record { local = uses_only catalog plain scope allowed unrefused q p is; limited = reads_limited catalog plain scope allowed unrefused q p is }
