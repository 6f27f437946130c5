use Rattle.std.proofs.Common.{List, ◌∷◌, [], ◌++◌, sym, subst}
use Rattle.ss_commitlog.specs.Tokens.{Known}
use Rattle.ss_shard.specs.ShardValue.{ShardValue}
use Rattle.ss_hand.specs.Apart.{ArePartitions}
use Rattle.ss_hand.proofs.Partitions.{one_more}
use Rattle.ss_hand.proofs.apart.Apart.add.Goals as goal

pub returns-clause-are : goal.returns-clause-are
returns-clause-are g c =
    let catalog = g.I.Life.catalog in
    let n = g.I.Life.parts in
    let db = g.I.Life.opening in
    let first = c.args.self.now.first in
    let old = c.args.self.now.others.items in
    let marks = c.args.self.now.marks.items in
    let one = c.into_parts-shard.result in
    let more = one_more catalog n db (first ∷ old) marks one.0 one.1 c.requires.are c.into_parts-shard.ensures.own in
    subst (λ (ks : List Known). ArePartitions catalog n db (first ∷ c.push_reserved.new.self.items) ks) (sym c.push_reserved-2.ensures.items)
    (subst (λ (ss : List ShardValue). ArePartitions catalog n db (first ∷ ss) (marks ++ one.1 ∷ [])) (sym c.push_reserved.ensures.items) more)
