use Rattle.std.proofs.Common.{[], replicate, sym, ap, subst, ◌∙◌, List}
use Rattle.std.specs.FinMap as finite
use Rattle.ss_undo.specs.Indexed.{Group, AreIndexed, columns_of}
use Rattle.ss_shard.specs.Databases.{empty_indexes, empty_windows}
use Rattle.ss_shard.proofs.OpeningLemmas.{all_columns}
use Rattle.ss_shard.proofs.database.blanks_beside.Goals as goal

pub new-requires : goal.new-requires
new-requires c =
    subst (λ (indexes : List Group). AreIndexed c.args.tables [] indexes) (sym (c.in_ok-indexes.ensures ∙ ap (empty_indexes c.args.number) c.as_slice.ensures)) c.requires.indexed

pub returns : goal.returns
returns c = record {
  number = c.new.ensures.number;
  tables = c.new.ensures.tables;
  changes = c.new.ensures.changes;
  indexes = c.new.ensures.columns ∙ ap columns_of (c.in_ok-indexes.ensures ∙ ap (empty_indexes c.args.number) c.as_slice.ensures) ∙ all_columns c.args.number c.args.catalog.now.tables;
  windows = c.new.ensures.windows ∙ c.in_ok-windows.ensures ∙ ap empty_windows c.as_slice-2.ensures;
  cursors = c.new.ensures.cursors ∙ c.in_ok-cursors.ensures ∙ ap (λ n. replicate n 0) c.len.ensures;
  sources = c.new.ensures.sources ∙ c.in_ok-sources.ensures ∙ ap (λ n. replicate n finite.empty) c.len-2.ensures;
  bodies = c.new.ensures.bodies ∙ c.in_ok-bodies.ensures ∙ ap (λ n. replicate n 0) c.len-3.ensures;
  none_coming = c.new.ensures.coming;
}
