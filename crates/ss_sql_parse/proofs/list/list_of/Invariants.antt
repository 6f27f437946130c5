use Rattle.std.proofs.Common.{◌≡◌, ◌-◌}
use Rattle.ss_sql_parse.specs.Lists.{list_read}
use Rattle.ss_sql_parse.proofs.Series.{with_items, others}
use Rattle.ss_sql_parse.proofs.list.list_of.Given as goal

abbrev pub invariant-loop : goal.invariant-loop
invariant-loop g l = with_items l.items (others g.E.Element.reads (l.end - l.counter) l.rest) ≡ list_read g.E.Element.reads l.tokens
