use Rattle.std.proofs.Common.{◌∙◌, Ok, sym, arith}
use Rattle.ss_snapshot.proofs.BodiesRead.{enough, too_few}
use Rattle.ss_snapshot.proofs.reading.bodies.bytes_in.Goals as goal

pub returns-then-bytes-count : goal.returns-then-bytes-count
returns-then-bytes-count c = too_few c.args.count c.args.bytes.now c.if-bytes-count.true

pub returns : goal.returns
returns c = enough c.args.count c.args.bytes.now (omega (arith, c.if-bytes-count.false)) ∙ (λ k. Ok (sym c.split_at.ensures.front k, sym c.split_at.ensures.back k))
