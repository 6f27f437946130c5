use Rattle.std.proofs.Common.{List, sym, subst}
use Rattle.ss_model.specs.declared.catalog.Catalog.{Catalog}
use Rattle.ss_model.specs.Accepted.{Accepted}
use Rattle.ss_commitlog.specs.Tokens.{Known}
use Rattle.ss_opening.specs.Openings.{ArePartitionsFrom}
use Rattle.ss_opening.proofs.Fresh.{whole_of, split_partitions}
use Rattle.ss_opening.proofs.bays.bays_of.Goals as goal

pub split-requires-clause-accepted : goal.split-requires-clause-accepted
split-requires-clause-accepted g c = subst (λ (x : Catalog). Accepted x) (sym c.requires.catalog) c.requires.opening.accepted

pub split-requires-clause-whole : goal.split-requires-clause-whole
split-requires-clause-whole g c = whole_of c.args.catalog.now g.I.Life.catalog c.args.parts g.I.Life.parts c.args.whole c.requires.catalog c.requires.parts.0 c.requires.whole.0

pub partitions-requires : goal.partitions-requires
partitions-requires g c =
    subst (λ (ks : List Known). ArePartitionsFrom g.I.Life.catalog g.I.Life.parts g.I.Life.opening 0 c.in-Ok.shards ks) (sym c.requires.marks)
    (split_partitions c.args.catalog.now g.I.Life.catalog c.args.parts g.I.Life.parts c.args.whole g.I.Life.opening g.I.Life.first c.in-Ok.shards c.requires.catalog c.requires.parts.0 c.requires.whole.1 c.in-Ok.ensures.ok)
