use Rattle.std.proofs.Common.{◌≡◌, true, subst, sym}
use Rattle.ss_model.specs.declared.catalog.Catalog.{Catalog}
use Rattle.ss_model.specs.Accepted.{Accepted}
use Rattle.ss_model.specs.Database.{fits_entry}
use Rattle.ss_shard.specs.Shards.{IsCommitted}
use Rattle.ss_turns.proofs.Begun.{has_run, has_stayed}
use Rattle.ss_turns.proofs.running.run.Goals as goal

pub execute-requires : goal.execute-requires
execute-requires g c =
    let same = sym c.args.works.now.catalog_is in
    record {
      accepted = subst Accepted same c.requires.accepted;
      fits = subst (λ (catalog : Catalog). fits_entry catalog c.args.entry.now ≡ true) same c.requires.fits;
      next = c.requires.next.0;
      committed = subst (λ (catalog : Catalog). IsCommitted catalog c.args.shard.now) same c.requires.committed;
    }

pub returns-clause-ok : goal.returns-clause-ok
returns-clause-ok g c =
    has_run g.I.Life.catalog c.args.works.now.catalog.now c.args.works.now.catalog_is c.args.shard.now c.execute.new.shard c.execute.result c.runs_on_parts.ensures c.requires.accepted c.args.entry.now c.args.batches.now c.requires.committed c.requires.next.1
    c.execute.ensures.ok c.execute.ensures.sourced c.execute.ensures.of_catalog c.execute.ensures.back

pub returns-clause-err : goal.returns-clause-err
returns-clause-err g c =
    has_stayed g.I.Life.catalog c.args.works.now.catalog.now c.args.works.now.catalog_is c.args.shard.now c.execute.new.shard c.execute.result c.execute.ensures.holds c.execute.ensures.err c.execute.ensures.committed
