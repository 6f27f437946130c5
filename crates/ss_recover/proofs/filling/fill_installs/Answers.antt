use Rattle.ss_recover.specs.Loading.{IsNamed}
use Rattle.ss_recover.proofs.MoreBodies.{all_next, are_named_still, more_on}
use Rattle.std.proofs.Common.{take}
use Rattle.ss_recover.proofs.filling.fill_installs.Goals as goal

pub loop-entry-preserved : goal.loop-entry-preserved
loop-entry-preserved c =
    let old = c.loop-entry.catalog in
    let new = c.fill_entry.new.catalog in
    let e = c.in_ok-fill_entry.ensures in
    let so_far = c.loop-entry.invariant in
    record {
      more = more_on c.args.catalog.now old new so_far.more e.more;
      named = all_next (IsNamed new) c.args.entries.now c.loop-entry.entry-index c.entry-item.result c.loop-entry-test.true c.entry-item.is
          (are_named_still old new e.more (take c.loop-entry.entry-index c.args.entries.now) so_far.named) e.named.0;
    }
