use Rattle.std.proofs.Common.{[], refl}
use Rattle.ss_model.specs.Database.{Database}
use Rattle.ss_shard.specs.Bodies.{texts_of}
use Rattle.ss_shard.specs.Contents.{contents_of}
use Rattle.ss_execution_cases.proofs.joining.joined_again.Goals as goal

pub join-requires-clause-shards : goal.join-requires-clause-shards
join-requires-clause-shards c =
    let was = c.in-Ok.ensures.ok in
    let whole = c.args.whole in
    -- the shard's own database: no contract of a shard speaks of streams
    let own : Database = record { contents = contents_of whole; streams = []; counts = whole.cursors; next_numbers = whole.sources; bodies = texts_of c.args.catalog.now whole.bodies } in (
      was.shards_are,
      (
        own,
        was.holds own (record {
          contents = c.holds_itself.ensures c.args.catalog.now whole c.requires.whole.parts.committed.of_catalog;
          counts = refl;
          numbers = record { streams = refl; numbers = λ s source. refl };
          bodies = refl;
        }),
      ),
    )
