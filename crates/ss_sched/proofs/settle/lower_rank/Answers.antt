use Rattle.std.proofs.Common.{◌<◌, length, arith}
use Rattle.ss_model.proofs.CallerLemmas.{few_procedures}
use Rattle.ss_sched.proofs.settle.lower_rank.Goals as goal

pub of_procedure-requires : goal.of_procedure-requires
of_procedure-requires c = let few = few_procedures c.args.catalog.now c.requires.accepted.form in let lt = c.requires.procedure in omega arith

pub of_procedure-requires-2 : goal.of_procedure-requires-2
of_procedure-requires-2 c =
    let few = few_procedures c.args.catalog.now c.requires.accepted.form in
    let lt : c.in-Some.best < length c.args.catalog.now.procedures = rw c.in-Some.is at c.requires.found in
    omega arith
