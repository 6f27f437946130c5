use Rattle.std.proofs.Common.{◌≤◌, rules}
use Rattle.ss_sched.proofs.Ranking.{greatest_within}
use Rattle.ss_sched.proofs.rank.next_rank.Goals as goal

pub overflow_add-result : goal.overflow_add-result
overflow_add-result c =
    let most = greatest_within c.args.ranks.now c.args.emitters.now c.as_slice.result.now 64 c.requires.small in
    let lt : c.greatest_rank.result ≤ 64 = rw c.greatest_rank.ensures most in
    search rules
