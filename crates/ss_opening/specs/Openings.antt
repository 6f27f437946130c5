-- Partitions before the first entry.
use Rattle.std.specs.Prelude.{◌≡◌, ℕ, suc, List, [], ◌∷◌}
use Rattle.ss_model.specs.declared.catalog.Catalog.{Catalog}
use Rattle.ss_model.specs.Database.{Database}
use Rattle.ss_commitlog.specs.Tokens.{Known}
use Rattle.ss_shard.specs.ShardValue.{ShardValue}
use Rattle.ss_hand.specs.Partitions.{IsPartition}

-- the shards of the partitions from one on, in order, and their marks in the same order, as bays are to have them
abbrev pub ArePartitionsFrom : Catalog → ℕ → Database → ℕ → List ShardValue → List Known → Type 0
ArePartitionsFrom catalog n db p [] [] = Unit {0}
ArePartitionsFrom catalog n db p (s ∷ ss) (k ∷ ks) = (s.number ≡ p) × IsPartition catalog n db s k × ArePartitionsFrom catalog n db (suc p) ss ks
ArePartitionsFrom catalog n db p _ _ = ⊥
