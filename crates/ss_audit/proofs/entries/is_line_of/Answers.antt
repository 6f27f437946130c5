use Rattle.ss_report.proofs.CallerLemmas.{entry_no_float}
use Rattle.ss_audit.proofs.entries.is_line_of.Goals as goal

pub says-requires : goal.says-requires
says-requires c = rw c.in_ok-printed.ensures (entry_no_float c.args.catalog.now c.args.place c.args.listed.now.outcome c.args.listed.now.entry)
