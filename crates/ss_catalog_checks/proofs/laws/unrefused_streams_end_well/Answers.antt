use Rattle.ss_catalog_checks.proofs.Ending.{streams_end_well}
use Rattle.ss_catalog_checks.proofs.laws.unrefused_streams_end_well.Goals as goal

pub returns : goal.returns
returns c = λ catalog plain numbers scope none. streams_end_well catalog plain numbers scope none
