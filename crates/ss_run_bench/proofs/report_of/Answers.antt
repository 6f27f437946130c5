use Rattle.ss_run_bench.proofs.report_of.Goals as goal

pub write_report-requires-clause-tables : goal.write_report-requires-clause-tables
write_report-requires-clause-tables c = c.in-Ok.ensures.whole.committed.of_catalog.tables
