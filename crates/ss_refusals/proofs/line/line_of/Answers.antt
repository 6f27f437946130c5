use Rattle.ss_refusals.proofs.FieldFloats.{line_no_float}
use Rattle.ss_refusals.proofs.line.line_of.Goals as goal

pub line_text-requires : goal.line_text-requires
line_text-requires c = rw c.in_ok-value.ensures (line_no_float c.args.kind.now c.args.fields.now)
