use Rattle.std.proofs.Common.{arith, ap, length}
use Rattle.ss_model.proofs.CallerLemmas.{few_procedures}
use Rattle.ss_audit.proofs.asked.step_as.Goals as goal

pub procedure_named-requires : goal.procedure_named-requires
procedure_named-requires c =
    let few = few_procedures c.args.catalog.now c.requires.form in
    let long = ap length c.as_slice.ensures in
    omega arith
