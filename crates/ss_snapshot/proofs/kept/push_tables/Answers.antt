use Rattle.std.proofs.Common.{◌∙◌}
use Rattle.std.specs.FinMap as finmap
use Rattle.ss_record.specs.Numbers.{number_bytes}
use Rattle.ss_standing.specs.Image.{table_bytes}
use Rattle.ss_standing.proofs.CallerLemmas.{no_table}
use Rattle.ss_snapshot.proofs.Repeated.{one_more}
use Rattle.ss_snapshot.proofs.kept.push_tables.Goals as goal

pub loop-preserved : goal.loop-preserved
loop-preserved c =
    c.in_ok-push_u64.ensures.spelled ∙ one_more table_bytes c.loop.counter finmap.empty c.args.out.now.items c.loop.out.items (number_bytes 8 0) c.loop.invariant no_table
