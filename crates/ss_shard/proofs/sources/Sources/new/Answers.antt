use Rattle.std.proofs.Common.{ℕ, List, sym, subst}
use Rattle.std.specs.Global.{Vec}
use Rattle.ss_shard.specs.Sources.{AreNames}
use Rattle.ss_shard.proofs.Numbers.{key_bytes, numbers_of, no_names}
use Rattle.ss_shard.proofs.sources.Sources.new.Goals as goal

pub invariant_of-result : goal.invariant_of-result
invariant_of-result c = subst (λ (es : List (Vec ℕ × ℕ)). AreNames (numbers_of key_bytes es)) (sym c.new.ensures.empty) no_names
