use Rattle.std.proofs.Common.{◌∙◌, ◌++◌, ◌+◌, ◌≤◌, rules, arith, length, length-append}
use Rattle.std.proofs.lemmas.List.{length-take}
use Rattle.std.proofs.KnownBytes.{Consumes-trans}
use Rattle.ss_lines.proofs.SoFar.{read_more}
use Rattle.ss_lines.proofs.read.read_lines.Goals as goal

pub returns-then-is_err-clause-most : goal.returns-then-is_err-clause-most
returns-then-is_err-clause-most g c =
    let piece = c.split_at.result.0.now in
    let bytes = c.loop-taken.invariant.read.bytes in (
      bytes ++ piece,
      Consumes-trans _ _ _ bytes piece c.loop-taken.invariant.read.consumed (rw c.split_at.ensures.front c.in-Ok.ensures.bytes.0),
      omega (
        arith,
        length-append bytes piece,
        c.loop-taken.invariant.read.long,
        c.split_at.ensures.front_len,
        c.in-Ok.ensures.bound.0,
        c.pull.auto.buf,
        length-take c.min-room.result c.loop-taken.buf,
        c.min-room.ensures,
        c.loop-taken-test.true,
      ),
    )

pub loop-taken-preserved : goal.loop-taken-preserved
loop-taken-preserved g c =
    let number : c.take.new.self.number ≤ c.loop-taken.splitter.number + length c.split_at.result.0.now = search rules in
    record {
      read =
          read_more (g.S.Source.kind.left c.args.source.now) (g.S.Source.kind.left c.loop-taken.source) (g.S.Source.kind.left c.pull.new.self) c.loop-taken.splitter c.take.new.self
          c.loop-taken.taken c.in-Ok.count c.split_at.result.0.now
          c.loop-taken.invariant.read (rw c.split_at.ensures.front c.in-Ok.ensures.bytes.0) c.split_at.ensures.front_len
          (search rules);
      few = omega (arith, c.in-Ok.ensures.bound.0, c.pull.auto.buf, length-take c.min-room.result c.loop-taken.buf, c.min-room.ensures, c.loop-taken-test.true);
      number = omega (arith, number, c.split_at.ensures.front_len, c.loop-taken.invariant.number);
      still = c.in-Ok.ensures.cause.done ∙ c.loop-taken.invariant.still;
    }
