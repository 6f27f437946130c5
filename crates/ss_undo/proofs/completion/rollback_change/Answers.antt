use Rattle.std.proofs.Common.{◌≡◌, [], ◌∷◌, ◌++◌, None, refl, subst, ap, ◌∙◌}
use Rattle.std.specs.Option.{IsSomeAnd}
use Rattle.std.specs.FinMap as finite
use Rattle.ss_table.specs.TableValue.{key_of, row_at, remove_fresh, unmark, replace}
use Rattle.ss_undo.specs.Completion.{CanRollBack}
use Rattle.ss_undo.specs.Indexed.{AreIndexed, columns_of}
use Rattle.ss_undo.proofs.Indexed.{removed_indexed, unmarked_indexed, put_back_indexed, amended_back_indexed, columns_dropped, unit_indexed, found_as, reported_as, is_within, some_of}
use Rattle.ss_undo.specs.Staying.{HasStayed}
use Rattle.ss_undo.proofs.Staying.{pairs_of}
use Rattle.ss_undo.proofs.completion.rollback_change.Goals as goal

pub drop_pairs-requires : goal.drop_pairs-requires
drop_pairs-requires c =
    let tables = c.args.tables.now in
    let indexes = c.args.indexes.now in
    let rows = c.in-Some.rows.now in
    let before = c.requires.indexed.0 in
    let all = subst (λ change. AreIndexed tables (before ++ change ∷ []) indexes) c.in-Inserted.is c.requires.indexed.1 in
    (removed_indexed tables indexes c.in-Inserted.table c.in-Inserted.slot rows (found_as tables c.in-Inserted.table c.from.result rows c.from.ensures c.in-Some.ensures.item) before c.remove_fresh-fresh.result
    c.rows_are_keyed.ensures c.remove_fresh-fresh.ensures.old all).0

pub unreachable-requires-in-None-get_mut : goal.unreachable-requires-in-None-get_mut
unreachable-requires-in-None-get_mut c =
    let tables = c.args.tables.now in
    let can = subst (CanRollBack tables) c.in-Deleted.is c.requires.undo in
    let within = is_within tables c.in-Deleted.table c.from-in-Deleted.result (λ h. IsSomeAnd (finite.get h.dead c.in-Deleted.slot) (λ row. finite.get h.live (key_of h.key row) ≡ None)) c.from-in-Deleted.ensures can in
    let no = c.in-None-get_mut.ensures.within.1 within in cc

pub unreachable-requires-in-None-get_mut-2 : goal.unreachable-requires-in-None-get_mut-2
unreachable-requires-in-None-get_mut-2 c =
    let tables = c.args.tables.now in
    let can = subst (CanRollBack tables) c.in-Replaced.is c.requires.undo in
    let within = is_within tables c.in-Replaced.table c.from-in-Replaced.result (λ h. IsSomeAnd (row_at h.live c.in-Replaced.slot) (λ now. key_of h.key c.in-Replaced.old ≡ key_of h.key now)) c.from-in-Replaced.ensures can in
    let no = c.in-None-get_mut-2.ensures.within.1 within in cc

pub returns-in-Some-clause-indexed : goal.returns-in-Some-clause-indexed
returns-in-Some-clause-indexed c = λ before indexed.
    let tables = c.args.tables.now in
    let indexes = c.args.indexes.now in
    let rows = c.in-Some.rows.now in
    let all = subst (λ change. AreIndexed tables (before ++ change ∷ []) indexes) c.in-Inserted.is indexed in
    reported_as tables c.in-Inserted.table c.from.result (remove_fresh rows c.in-Inserted.slot) c.remove_fresh-fresh.new.self before _ c.drop_pairs.new.indexes c.from.ensures c.remove_fresh-fresh.ensures.new c.drop_pairs.ensures
    (removed_indexed tables indexes c.in-Inserted.table c.in-Inserted.slot rows (found_as tables c.in-Inserted.table c.from.result rows c.from.ensures c.in-Some.ensures.item) before c.remove_fresh-fresh.result
    c.rows_are_keyed.ensures c.remove_fresh-fresh.ensures.old all).1

pub returns-in-Some-clause-columns : goal.returns-in-Some-clause-columns
returns-in-Some-clause-columns c = ap columns_of c.drop_pairs.ensures ∙ columns_dropped c.args.indexes.now c.in-Inserted.table c.in-Inserted.slot c.remove_fresh-fresh.result

pub returns-in-Some-get_mut-clause-indexed : goal.returns-in-Some-get_mut-clause-indexed
returns-in-Some-get_mut-clause-indexed c = λ before indexed.
    let tables = c.args.tables.now in
    let indexes = c.args.indexes.now in
    let rows = c.in-Some-get_mut.rows.now in
    let slot = c.in-Deleted.slot in
    let here = found_as tables c.in-Deleted.table c.from-in-Deleted.result rows c.from-in-Deleted.ensures c.in-Some-get_mut.ensures.item in
    let all = subst (λ change. AreIndexed tables (before ++ change ∷ []) indexes) c.in-Deleted.is indexed in
    let can = subst (λ o. IsSomeAnd o (λ h. IsSomeAnd (finite.get h.dead slot) (λ row. finite.get h.live (key_of h.key row) ≡ None))) here (subst (CanRollBack tables) c.in-Deleted.is c.requires.undo) in
    let dead = some_of (finite.get rows.dead slot) (λ row. finite.get rows.live (key_of rows.key row) ≡ None) can in
    reported_as tables c.in-Deleted.table c.from-in-Deleted.result (unmark rows slot) c.unmark.new.self before indexes indexes c.from-in-Deleted.ensures c.unmark.ensures refl
    (unmarked_indexed tables indexes c.in-Deleted.table slot rows here before dead.0 dead.1 dead.2 all)

pub drop_pairs-requires-in-Some-get_mut-2 : goal.drop_pairs-requires-in-Some-get_mut-2
drop_pairs-requires-in-Some-get_mut-2 c =
    let tables = c.args.tables.now in
    let indexes = c.args.indexes.now in
    let rows = c.in-Some-get_mut-2.rows.now in
    let slot = c.in-Replaced.slot in
    let here = found_as tables c.in-Replaced.table c.from-in-Replaced.result rows c.from-in-Replaced.ensures c.in-Some-get_mut-2.ensures.item in
    let before = c.requires.indexed.0 in
    let all = subst (λ change. AreIndexed tables (before ++ change ∷ []) indexes) c.in-Replaced.is c.requires.indexed.1 in
    let can = subst (λ o. IsSomeAnd o (λ h. IsSomeAnd (row_at h.live slot) (λ now. key_of h.key c.in-Replaced.old ≡ key_of h.key now))) here (subst (CanRollBack tables) c.in-Replaced.is c.requires.undo) in
    let alike = subst (λ o. IsSomeAnd o (λ now. key_of rows.key c.in-Replaced.old ≡ key_of rows.key now)) c.replace-newer.ensures.old can in
    (put_back_indexed tables indexes c.in-Replaced.table slot rows here before c.replace-newer.result c.in-Replaced.old c.rows_are_keyed-in-Some-get_mut-2.ensures c.replace-newer.ensures.old alike all).0

pub returns-in-Some-get_mut-2-clause-indexed : goal.returns-in-Some-get_mut-2-clause-indexed
returns-in-Some-get_mut-2-clause-indexed c = λ before indexed.
    let tables = c.args.tables.now in
    let indexes = c.args.indexes.now in
    let rows = c.in-Some-get_mut-2.rows.now in
    let slot = c.in-Replaced.slot in
    let here = found_as tables c.in-Replaced.table c.from-in-Replaced.result rows c.from-in-Replaced.ensures c.in-Some-get_mut-2.ensures.item in
    let all = subst (λ change. AreIndexed tables (before ++ change ∷ []) indexes) c.in-Replaced.is indexed in
    let can = subst (λ o. IsSomeAnd o (λ h. IsSomeAnd (row_at h.live slot) (λ now. key_of h.key c.in-Replaced.old ≡ key_of h.key now))) here (subst (CanRollBack tables) c.in-Replaced.is c.requires.undo) in
    let alike = subst (λ o. IsSomeAnd o (λ now. key_of rows.key c.in-Replaced.old ≡ key_of rows.key now)) c.replace-newer.ensures.old can in
    reported_as tables c.in-Replaced.table c.from-in-Replaced.result (replace rows slot c.in-Replaced.old) c.replace-newer.new.self before _ c.drop_pairs-in-Some-get_mut-2.new.indexes
    c.from-in-Replaced.ensures c.replace-newer.ensures.new c.drop_pairs-in-Some-get_mut-2.ensures
    (put_back_indexed tables indexes c.in-Replaced.table slot rows here before c.replace-newer.result c.in-Replaced.old c.rows_are_keyed-in-Some-get_mut-2.ensures c.replace-newer.ensures.old alike all).1

pub returns-in-Some-get_mut-2-clause-columns : goal.returns-in-Some-get_mut-2-clause-columns
returns-in-Some-get_mut-2-clause-columns c = ap columns_of c.drop_pairs-in-Some-get_mut-2.ensures ∙ columns_dropped c.args.indexes.now c.in-Replaced.table c.in-Replaced.slot c.replace-newer.result

pub unreachable-requires-in-None-get_mut-3 : goal.unreachable-requires-in-None-get_mut-3
unreachable-requires-in-None-get_mut-3 c =
    let tables = c.args.tables.now in
    let can = subst (CanRollBack tables) c.in-Amended.is c.requires.undo in
    let within = is_within tables c.in-Amended.table c.from-in-Amended.result (λ h. IsSomeAnd (row_at h.live c.in-Amended.slot) (λ now. key_of h.key c.in-Amended.old ≡ key_of h.key now)) c.from-in-Amended.ensures can in
    let no = c.in-None-get_mut-3.ensures.within.1 within in cc

pub returns-in-Some-get_mut-3-clause-indexed : goal.returns-in-Some-get_mut-3-clause-indexed
returns-in-Some-get_mut-3-clause-indexed c = λ before indexed.
    let tables = c.args.tables.now in
    let indexes = c.args.indexes.now in
    let rows = c.in-Some-get_mut-3.rows.now in
    let t = c.in-Amended.table in
    let slot = c.in-Amended.slot in
    let old = c.in-Amended.old in
    let here = found_as tables t c.from-in-Amended.result rows c.from-in-Amended.ensures c.in-Some-get_mut-3.ensures.item in
    let all = subst (λ change. AreIndexed tables (before ++ change ∷ []) indexes) c.in-Amended.is indexed in
    let can = subst (λ o. IsSomeAnd o (λ h. IsSomeAnd (row_at h.live slot) (λ now. key_of h.key old ≡ key_of h.key now))) here (subst (CanRollBack tables) c.in-Amended.is c.requires.undo) in
    let alike = subst (λ o. IsSomeAnd o (λ now. key_of rows.key old ≡ key_of rows.key now)) c.replace.ensures.old can in
    let same = pairs_of (columns_of indexes) tables t slot rows here c.replace.result old c.replace.ensures.old (subst (HasStayed (columns_of indexes) tables) c.in-Amended.is c.requires.stayed) in
    reported_as tables t c.from-in-Amended.result (replace rows slot old) c.replace.new.self before indexes indexes c.from-in-Amended.ensures c.replace.ensures.new refl
    (amended_back_indexed tables indexes t slot rows here before c.replace.result old c.rows_are_keyed-in-Some-get_mut-3.ensures c.replace.ensures.old alike same all)

pub returns-in-Staged-clause-indexed : goal.returns-in-Staged-clause-indexed
returns-in-Staged-clause-indexed c = λ before indexed.
    unit_indexed c.args.tables.now c.args.indexes.now c.in-Staged.window before (subst (λ change. AreIndexed c.args.tables.now (before ++ change ∷ []) c.args.indexes.now) c.in-Staged.is indexed)
