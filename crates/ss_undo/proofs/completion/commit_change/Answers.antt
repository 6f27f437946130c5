use Rattle.std.proofs.Common.{[], ◌∷◌, ◌++◌, subst, sym, ap, ◌∙◌}
use Rattle.ss_table.specs.TableValue.{purge}
use Rattle.ss_undo.specs.Completion.{CanCommit}
use Rattle.ss_undo.specs.Indexed.{AreIndexed, columns_of}
use Rattle.ss_undo.proofs.Indexed.{purged_indexed, note_indexed, fresh_indexed, amend_indexed, columns_dropped, unit_indexed, found_as, reported_as, there_is}
use Rattle.ss_undo.proofs.completion.commit_change.Goals as goal

pub drop_pairs-requires : goal.drop_pairs-requires
drop_pairs-requires c =
    let tables = c.args.tables.now in
    let indexes = c.args.indexes.now in
    let rows = c.in-Some.rows.now in
    let before = c.requires.indexed.0 in
    let all = subst (λ change. AreIndexed tables (before ++ change ∷ []) indexes) c.in-Deleted.is c.requires.indexed.1 in
    (purged_indexed tables indexes c.in-Deleted.table c.in-Deleted.slot rows (found_as tables c.in-Deleted.table c.from.result rows c.from.ensures c.in-Some.ensures.item) before c.purge-dead.result c.purge-dead.ensures.old all).0

pub drop_pairs-requires-in-Replaced : goal.drop_pairs-requires-in-Replaced
drop_pairs-requires-in-Replaced c =
    let tables = c.args.tables.now in
    let indexes = c.args.indexes.now in
    let before = c.requires.indexed.0 in
    let all = subst (λ change. AreIndexed tables (before ++ change ∷ []) indexes) c.in-Replaced.is c.requires.indexed.1 in
    let there = there_is tables c.in-Replaced.table (subst (CanCommit tables) c.in-Replaced.is c.requires.settle) in
    (note_indexed tables indexes c.in-Replaced.table c.in-Replaced.slot there.0 there.1 before c.in-Replaced.old all).0

pub returns-in-Inserted-clause-indexed : goal.returns-in-Inserted-clause-indexed
returns-in-Inserted-clause-indexed c = λ before indexed.
    let tables = c.args.tables.now in
    let indexes = c.args.indexes.now in
    fresh_indexed tables indexes c.in-Inserted.table c.in-Inserted.slot before (subst (λ change. AreIndexed tables (before ++ change ∷ []) indexes) c.in-Inserted.is indexed)

pub returns-in-Deleted-clause-indexed : goal.returns-in-Deleted-clause-indexed
returns-in-Deleted-clause-indexed c = λ before indexed.
    let tables = c.args.tables.now in
    let indexes = c.args.indexes.now in
    let rows = c.in-Some.rows.now in
    let all = subst (λ change. AreIndexed tables (before ++ change ∷ []) indexes) c.in-Deleted.is indexed in
    reported_as tables c.in-Deleted.table c.from.result (purge rows c.in-Deleted.slot) c.purge-dead.new.self before _ c.drop_pairs.new.indexes c.from.ensures c.purge-dead.ensures.new c.drop_pairs.ensures
    (purged_indexed tables indexes c.in-Deleted.table c.in-Deleted.slot rows (found_as tables c.in-Deleted.table c.from.result rows c.from.ensures c.in-Some.ensures.item) before c.purge-dead.result c.purge-dead.ensures.old all).1

pub returns-in-Deleted-clause-columns : goal.returns-in-Deleted-clause-columns
returns-in-Deleted-clause-columns c = ap columns_of c.drop_pairs.ensures ∙ columns_dropped c.args.indexes.now c.in-Deleted.table c.in-Deleted.slot c.purge-dead.result

pub returns-in-Replaced-clause-indexed : goal.returns-in-Replaced-clause-indexed
returns-in-Replaced-clause-indexed c = λ before indexed.
    let tables = c.args.tables.now in
    let indexes = c.args.indexes.now in
    let all = subst (λ change. AreIndexed tables (before ++ change ∷ []) indexes) c.in-Replaced.is indexed in
    let there = there_is tables c.in-Replaced.table (subst (CanCommit tables) c.in-Replaced.is c.requires.settle) in
    subst (λ left. AreIndexed tables before left) (sym c.drop_pairs-in-Replaced.ensures)
    (note_indexed tables indexes c.in-Replaced.table c.in-Replaced.slot there.0 there.1 before c.in-Replaced.old all).1

pub returns-in-Replaced-clause-columns : goal.returns-in-Replaced-clause-columns
returns-in-Replaced-clause-columns c = ap columns_of c.drop_pairs-in-Replaced.ensures ∙ columns_dropped c.args.indexes.now c.in-Replaced.table c.in-Replaced.slot c.in-Replaced.old

pub returns-in-Amended-clause-indexed : goal.returns-in-Amended-clause-indexed
returns-in-Amended-clause-indexed c = λ before indexed.
    let tables = c.args.tables.now in
    let indexes = c.args.indexes.now in
    amend_indexed tables indexes c.in-Amended.table c.in-Amended.slot c.in-Amended.old before (subst (λ change. AreIndexed tables (before ++ change ∷ []) indexes) c.in-Amended.is indexed)

pub returns-clause-indexed : goal.returns-clause-indexed
returns-clause-indexed c = λ before indexed.
    unit_indexed c.args.tables.now c.args.indexes.now c.in-Staged.window before (subst (λ change. AreIndexed c.args.tables.now (before ++ change ∷ []) c.args.indexes.now) c.in-Staged.is indexed)
