use Rattle.std.proofs.Common.{sym, ◌∙◌, subst}
use Rattle.ss_rows.specs.Lent.{AreLent}
use Rattle.ss_rows.proofs.limit_cut.sorts_tuples.Goals as goal

pub returns : goal.returns
returns c = λ yes. record {
  plain = sym c.is_aggregated.ensures ∙ c.if-is_aggregated.false;
  items = subst AreLent c.as_slice.ensures (c.are_lent.ensures yes);
}
