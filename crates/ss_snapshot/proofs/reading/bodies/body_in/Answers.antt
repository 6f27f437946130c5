use Rattle.std.proofs.Common.{sym}
use Rattle.ss_snapshot.proofs.BodiesRead.{no_body_read}
use Rattle.ss_snapshot.proofs.reading.bodies.body_in.Goals as goal

pub returns-in-None-clause-read : goal.returns-in-None-clause-read
returns-in-None-clause-read c =
    no_body_read c.args.catalog.now c.args.procedure c.args.bytes.now c.in_ok-text.text.now c.in_ok-text.rest.now c.in_ok-text.ensures (sym c.in-None.ensures.there)
