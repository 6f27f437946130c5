use Rattle.std.proofs.Common.{arith}
use Rattle.ss_model.proofs.CallerLemmas.{few_procedures}
use Rattle.ss_sched.proofs.rank.Ranks.of.Goals as goal

pub next_ranks-by_number-requires-clause-small : goal.next_ranks-by_number-requires-clause-small
next_ranks-by_number-requires-clause-small c = λ q.
    let few = few_procedures c.args.catalog.now c.requires.form in
    let small = c.loop-round.invariant.small q in
    omega arith
