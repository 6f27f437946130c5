use Rattle.std.proofs.Common.{◌≡◌, ◌∙◌, ap, rules}
use Rattle.ss_shard.specs.ShardValue.{ShardValue}
use Rattle.ss_snapshot.specs.Beside.{with_beside}
use Rattle.ss_snapshot.proofs.WholeRead.{made_stands, streams_to_resume}
use Rattle.ss_snapshot.proofs.reading.database.made_of.Goals as goal

pub resumed_streams-requires-clause-kept : goal.resumed_streams-requires-clause-kept
resumed_streams-requires-clause-kept c =
    let lent : c.as_slice.result.now ≡ c.args.beside.progress.counts = search rules in
    (c.requires.kept.0, streams_to_resume c.args.catalog.now c.args.whole c.args.beside c.args.numbers c.as_slice.result.now lent c.requires.kept.0 c.requires.kept.1)

pub returns-clause-stands : goal.returns-clause-stands
returns-clause-stands c =
    let lent : c.as_slice.result.now ≡ c.args.beside.progress.counts = search rules in
    let whole : c.with_bodies-whole.result ≡ with_beside c.args.whole c.args.beside c.args.numbers =
    c.with_bodies-whole.ensures ∙ ap (λ (s : ShardValue). record s { bodies = c.args.numbers }) c.resumed.ensures in
    made_stands c.args.catalog.now c.args.whole c.args.beside c.args.numbers c.as_slice.result.now lent (record { whole = c.with_bodies-whole.result; streams = c.in-Ok.streams }) whole c.in-Ok.ensures
