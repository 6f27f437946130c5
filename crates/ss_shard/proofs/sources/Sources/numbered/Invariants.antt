use Rattle.ss_shard.proofs.Numbered.{Lists}
use Rattle.ss_shard.proofs.Numbers.{key_bytes}
use Rattle.ss_shard.proofs.sources.Sources.numbered.Given as goal

abbrev pub invariant-loop-name : goal.invariant-loop-name
invariant-loop-name l = Lists key_bytes l.self l.name-iterator l.list.items
