use Rattle.std.proofs.Common.{◌≡◌, sym, ap, ◌∙◌, None, slice_get}
use Rattle.ss_plan.specs.Seen.{positioned_in, value_behind, seen_of, live_positions, live_of}
use Rattle.ss_plan.proofs.Meant.{nothing_seen}
use Rattle.ss_plan.proofs.visible_rows.ShardRows.rows_at.Goals as goal

pub returns-in-None : goal.returns-in-None
returns-in-None c =
    let s = c.args.self.now in
    let split = value_behind s.split in
    let none : slice_get s.shard.now.tables c.in-Table.table ≡ None = sym c.in-None.ensures in
    ap (positioned_in s.catalog.now split s.inputs.batches.now s.inputs.inserted.now s.shard.now) c.in-Table.is
    ∙ ap (λ o. seen_of s.catalog.now split c.in-Table.table (live_positions (live_of o))) none
    ∙ nothing_seen s.catalog.now split c.in-Table.table
