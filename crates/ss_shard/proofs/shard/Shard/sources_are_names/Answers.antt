use Rattle.std.proofs.Common.{List, subst}
use Rattle.std.specs.List.{AllByRecursion}
use Rattle.ss_model.specs.Database.{NextNumbers}
use Rattle.ss_shard.specs.ShardValue.{ShardValue}
use Rattle.ss_shard.specs.Sources.{AreNames, AllAreNames}
use Rattle.ss_shard.proofs.Named.{all_named, held_named}
use Rattle.ss_shard.proofs.shard.Shard.sources_are_names.Goals as goal

pub returns-clause-own : goal.returns-clause-own
returns-clause-own c =
    let all = subst (λ (ns : List NextNumbers). AllByRecursion AreNames ns) c.as_slice.ensures c.all_are_names.ensures in
    subst (λ (s : ShardValue). AllAreNames s.sources) c.self.view_is (all_named c.self.inside.sources all)

pub returns-clause-held : goal.returns-clause-held
returns-clause-held c = λ catalog db holds whole.
    let all = subst (λ (ns : List NextNumbers). AllByRecursion AreNames ns) c.as_slice.ensures c.all_are_names.ensures in
    held_named catalog c.args.self.now db (subst (λ (s : ShardValue). AllAreNames s.sources) c.self.view_is (all_named c.self.inside.sources all)) holds whole
