use Rattle.std.proofs.Common.{◌∙◌, arith}
use Rattle.std.proofs.Math.Seq.{take-add}
use Rattle.std.proofs.KnownBytes.{Appends-trans}
use Rattle.ss_lines.proofs.write.write_all.Goals as goal

pub loop-at-preserved : goal.loop-at-preserved
loop-at-preserved g c = record {
  front = rw (take-add c.loop-at.at c.in-Ok.count c.args.bytes.now, ← c.split_at.ensures.back) (Appends-trans _ _ _ _ _ c.loop-at.invariant.front c.in-Ok.ensures.bytes);
  within = omega (arith, c.in-Ok.ensures.bound.1, c.split_at.ensures.back_len);
  still = c.in-Ok.ensures.cause.done ∙ c.loop-at.invariant.still;
}
