use Rattle.std.proofs.Common.{List, sym, subst}
use Rattle.ss_commitlog.specs.Tokens.{Known}
use Rattle.ss_hand.specs.Apart.{shards_of, ArePartitions}
use Rattle.ss_hand.proofs.apart.Apart.into_hand.Goals as goal

pub returns-clause-are : goal.returns-clause-are
returns-clause-are g c = subst (λ (ks : List Known). ArePartitions g.I.Life.catalog g.I.Life.parts g.I.Life.opening (shards_of c.args.self) ks) (sym c.from_vec.ensures) c.requires
