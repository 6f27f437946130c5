use Rattle.ss_shard.proofs.Standing.{carried}
use Rattle.ss_shard.proofs.laws.carried_to_each.Goals as goal

pub returns : goal.returns
returns c = λ catalog old new is now db holds e a value left. carried catalog old new is now db holds e a value left
