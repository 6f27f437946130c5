use Rattle.std.proofs.Common.{sym, ◌∙◌}
use Rattle.ss_value.proofs.CallerLemmas.{same_rows, rows_compare}
use Rattle.ss_lanes.proofs.own.same_rows.Goals as goal

pub returns : goal.returns
returns c = (λ equal. same_rows c.args.a.now c.args.b.now (sym c.eq.ensures ∙ equal), λ same. c.eq.ensures ∙ rows_compare c.args.a.now c.args.b.now same)
