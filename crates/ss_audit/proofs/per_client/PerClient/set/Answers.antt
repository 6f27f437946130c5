use Rattle.std.proofs.Common.{◌∙◌, ◌==◌, cond, get_or, ap, arith}
use Rattle.ss_audit.proofs.Numbers.{one_set}
use Rattle.ss_audit.proofs.per_client.PerClient.set.Goals as goal

pub returns : goal.returns
returns c = λ other.
    one_set c.args.self.now.numbers c.from.result c.args.number other (omega arith)
    ∙ ap (λ n. cond (other == n) c.args.number (get_or c.args.self.now.numbers other 0)) c.from.ensures
