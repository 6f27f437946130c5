use Rattle.std.proofs.Common.{[], rules}
use Rattle.ss_undo.specs.Indexed.{AreIndexed}
use Rattle.ss_shard.proofs.Each.{first_indexed, others_indexed}
use Rattle.ss_shard.proofs.joins.tables.+release_tables.Goals as goal

pub release-requires-clause-indexed : goal.release-requires-clause-indexed
release-requires-clause-indexed t c = (
  first_indexed c.args.tables.now c.args.indexes.now c.in-Some.table.now c.in-Some.behind.now c.in-Some-split_first_mut.group.now c.in-Some-split_first_mut.groups.now
      c.in-Some.ensures.cases.0 c.in-Some-split_first_mut.ensures.cases.0 c.requires.indexed.0,
  first_indexed c.args.backs.now c.args.back_indexes.now c.in-Some-split_first_mut-2.back.now c.in-Some-split_first_mut-2.fellows.now c.in-Some-split_first_mut-3.back_group.now c.in-Some-split_first_mut-3.fellow_groups.now
      c.in-Some-split_first_mut-2.ensures.cases.0 c.in-Some-split_first_mut-3.ensures.cases.0 c.requires.indexed.1,
)

pub release_tables-requires : goal.release_tables-requires
release_tables-requires t c =
    let tables : AreIndexed c.in-Some.behind.now [] c.in-Some-split_first_mut.groups.now =
    others_indexed c.args.tables.now c.args.indexes.now c.in-Some.table.now c.in-Some.behind.now c.in-Some-split_first_mut.group.now c.in-Some-split_first_mut.groups.now
    c.in-Some.ensures.cases.0 c.in-Some-split_first_mut.ensures.cases.0 c.requires.indexed.0 in
    let backs : AreIndexed c.in-Some-split_first_mut-2.fellows.now [] c.in-Some-split_first_mut-3.fellow_groups.now =
    others_indexed c.args.backs.now c.args.back_indexes.now c.in-Some-split_first_mut-2.back.now c.in-Some-split_first_mut-2.fellows.now c.in-Some-split_first_mut-3.back_group.now c.in-Some-split_first_mut-3.fellow_groups.now
    c.in-Some-split_first_mut-2.ensures.cases.0 c.in-Some-split_first_mut-3.ensures.cases.0 c.requires.indexed.1 in
    (search rules, (search rules, (search rules, (search rules, (tables, backs)))))
