use Rattle.std.proofs.Common.{[], ◌∷◌}
use Rattle.ss_model.specs.ReportLines.{database_lines, done_line}
use Rattle.ss_shard.specs.Contents.{tables_of}
use Rattle.ss_report.specs.Reported.{with_tables}
use Rattle.ss_report.proofs.Steps.{then_added}
use Rattle.ss_report.proofs.report.append_settled.Goals as goal

pub returns : goal.returns
returns c =
    then_added c.append_done.result c.args.out.now.items c.append_tables.new.out.items c.append_done.new.out.items
    (database_lines c.args.catalog.now (with_tables c.args.catalog.now (tables_of c.args.tables.now))) (done_line c.args.entries ∷ []) c.in_ok-append_tables.ensures c.append_done.ensures
