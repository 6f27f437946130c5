use Rattle.std.proofs.lemmas.Result.{err_from_is_err_and}
use Rattle.ss_snapshot.specs.Beside.{but_bodies_of}
use Rattle.ss_snapshot.proofs.WholeRead.{filled_whole, no_memory}
use Rattle.ss_snapshot.proofs.reading.database.shard_and_beside_in.Goals as goal

pub but_bodies_in-requires-clause-committed : goal.but_bodies_in-requires-clause-committed
but_bodies_in-requires-clause-committed c = c.in_ok-whole.ensures.whole.parts.committed

pub returns-in_err-whole-clause-read : goal.returns-in_err-whole-clause-read
returns-in_err-whole-clause-read c =
    let p = err_from_is_err_and c.from_residual.result c.from_residual.ensures.1 in
    rw (p.1, p.2) (no_memory c.in_err-whole.field-0.0 (but_bodies_of c.args.catalog.now c.args.first c.args.bytes.now) c.in_err-whole.ensures.memory)

pub returns-in_err-beside-clause-read : goal.returns-in_err-beside-clause-read
returns-in_err-beside-clause-read c =
    let p = err_from_is_err_and c.from_residual-in_err-beside.result c.from_residual-in_err-beside.ensures.1 in
    rw (p.1, p.2) c.in_err-beside.ensures.read

pub returns-clause-whole : goal.returns-clause-whole
returns-clause-whole c = filled_whole c.args.catalog.now c.args.partitions c.in_ok-whole.whole c.but_bodies_in.new.whole c.in_ok-whole.ensures.whole c.in_ok-beside.ensures.settled
