-- What a bay has.
use Rattle.std.specs.Prelude.{◌≡◌, ◌<◌, ℕ, List, [], ◌∷◌, refl}
use Rattle.std.specs.Coded.{Coded, code_by, coded×, coded_ℕ, coded_list}
use Rattle.ss_model.specs.declared.catalog.Catalog.{Catalog}
use Rattle.ss_model.specs.Database.{Database}
use Rattle.ss_commitlog.specs.contracts.role.Role as role
use Rattle.ss_commitlog.specs.contracts.rule.Item as item
use Rattle.ss_commitlog.specs.declared.role.Role.{Role}
use Rattle.ss_commitlog.specs.declared.role.Role.TheVariants.{Part}
use Rattle.ss_commitlog.specs.declared.rule.Item.{Item}
use Rattle.ss_commitlog.specs.Right.{known_database}
use Rattle.ss_commitlog.specs.Tokens.{Known}
use Rattle.ss_shard.specs.Parts.{HasParts, HoldsParts}
use Rattle.ss_shard.specs.ShardValue.{ShardValue, coded_shard}

-- a shard and a mark
pub record PartitionView : Type 0 where
  pub shard : ShardValue
  pub mark : Known

-- how what tokens know is told apart
abbrev pub coded_known : Coded Known
coded_known = code_by (Role × (List Item × (ℕ × ℕ))) (coded× role.the_row.coded (coded× (coded_list item.the_row.coded) (coded× coded_ℕ coded_ℕ)))
    (λ k. (k.role, (k.list, (k.count, k.faults))))
    (λ p. record { role = p.0; list = p.1.0; count = p.1.1.0; faults = p.1.1.1 })
    (λ _. refl)

-- and how what bays have is
abbrev pub coded_partition : Coded PartitionView
coded_partition = code_by (ShardValue × Known) (coded× coded_shard coded_known) (λ p. (p.shard, p.mark)) (λ p. record { shard = p.0; mark = p.1 }) (λ _. refl)

-- the bay that it belongs to: that of its shard's number
abbrev pub number_of : PartitionView → ℕ
number_of p = p.shard.number

-- the shard of a partition that runs, between executions, with that partition's mark: it holds its part of the database after the
-- list that the mark knows
pub record IsPartition (catalog : Catalog) (n : ℕ) (db : Database) (shard : ShardValue) (mark : Known) : Type 0 where
  pub runs : shard.number < n
  pub own : mark.role ≡ Part shard.number
  pub parts : HasParts catalog n (shard.number ∷ []) shard
  pub holds : HoldsParts catalog n (shard.number ∷ []) shard (known_database catalog db mark)
