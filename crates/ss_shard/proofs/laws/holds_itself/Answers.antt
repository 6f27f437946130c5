use Rattle.ss_shard.proofs.Standing.{holds_itself}
use Rattle.ss_shard.proofs.laws.holds_itself.Goals as goal

pub returns : goal.returns
returns c = λ catalog shard is. holds_itself catalog shard is
