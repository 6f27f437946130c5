use Rattle.std.proofs.Common.{ap, sym, ◌∙◌}
use Rattle.std.specs.List.{list_all}
use Rattle.ss_rows.specs.Counts.{is_count}
use Rattle.ss_rows.proofs.counting.counts_alone.Goals as goal

pub returns-in-None : goal.returns-in-None
returns-in-None c = λ yes. record {
  single = c.in-None.is;
  whole = c.is_empty.ensures.0 c.if-not-is_empty.false;
  aggregated = sym c.is_aggregated.ensures ∙ c.if-not-is_aggregated.false;
  items = ap (list_all is_count) (sym c.as_slice.ensures) ∙ sym c.are_counts.ensures ∙ yes;
}
