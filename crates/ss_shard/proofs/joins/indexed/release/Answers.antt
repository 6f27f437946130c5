use Rattle.std.proofs.Common.{sym, ◌∙◌}
use Rattle.ss_shard.proofs.Parting.{are_last, hold_parted, columns_parted}
use Rattle.ss_shard.proofs.joins.indexed.release.Goals as goal

pub release-requires : goal.release-requires
release-requires c = are_last c.args.table.now c.args.back.now c.requires.may c.args.indexes.now c.args.back_indexes.now c.requires.indexed.0 c.requires.indexed.1 c.requires.alike

pub returns-clause-columns : goal.returns-clause-columns
returns-clause-columns c =
    let went = columns_parted c.args.indexes.now c.release.new.self c.release.new.back c.release.ensures in
    (went.0, went.1 ∙ sym c.requires.alike)

pub returns-clause-indexed : goal.returns-clause-indexed
returns-clause-indexed c =
    hold_parted c.args.table.now c.args.back.now c.requires.may c.rows_are_placed.ensures c.release-2.new.self c.release-2.new.back c.release-2.ensures.parted c.release-2.ensures.own
    c.args.indexes.now c.release.new.self c.release.new.back c.requires.indexed.0 c.release.ensures
