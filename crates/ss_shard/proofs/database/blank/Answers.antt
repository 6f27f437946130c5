use Rattle.std.proofs.Common.{refl, subst, sym, ap, ◌∙◌, List, []}
use Rattle.ss_lemmas.proofs.Results.{if_ok}
use Rattle.ss_table.specs.TableValue.{TableValue}
use Rattle.ss_undo.specs.Indexed.{AreIndexed}
use Rattle.ss_shard.specs.Databases.{empty_table, empty_tables, empty_indexes}
use Rattle.ss_shard.proofs.OpeningLemmas.{all_indexed}
use Rattle.ss_shard.proofs.Blanks.{blank_is_shard, blank_holds}
use Rattle.ss_shard.proofs.database.blank.Goals as goal

pub blanks_beside-requires-clause-indexed : goal.blanks_beside-requires-clause-indexed
blanks_beside-requires-clause-indexed c =
    let defs = c.args.catalog.now.tables in
    subst (λ (tables : List TableValue). AreIndexed tables [] (empty_indexes c.args.number defs)) (sym (c.in_ok-tables.ensures ∙ ap (empty_tables c.args.parts c.args.number) c.as_slice.ensures))
    (all_indexed c.args.number (empty_table c.args.parts c.args.number) (λ d. refl) (λ d. refl) (λ d. refl) defs)

pub returns-clause-is_shard : goal.returns-clause-is_shard
returns-clause-is_shard c =
    let is = c.in_ok-tables.ensures ∙ ap (empty_tables c.args.parts c.args.number) c.as_slice.ensures in
    if_ok _ _ (λ shard has. blank_is_shard c.args.catalog.now c.args.parts c.args.number c.in_ok-tables.tables shard has c.requires.sound is c.requires.runs) c.blanks_beside.result c.blanks_beside.ensures

pub returns-clause-holds : goal.returns-clause-holds
returns-clause-holds c =
    let is = c.in_ok-tables.ensures ∙ ap (empty_tables c.args.parts c.args.number) c.as_slice.ensures in
    if_ok _ _ (λ shard has. blank_holds c.args.catalog.now c.args.parts c.args.number c.in_ok-tables.tables shard has c.requires.sound is) c.blanks_beside.result c.blanks_beside.ensures
