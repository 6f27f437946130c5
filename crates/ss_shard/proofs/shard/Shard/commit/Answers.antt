use Rattle.std.proofs.Common.{List, map, sym, ap, subst, ◌∙◌}
use Rattle.ss_table.specs.TableValue.{TableValue}
use Rattle.ss_window.specs.WindowValue.{WindowValue}
use Rattle.ss_undo.specs.ResultsFrom.{AreCommitted}
use Rattle.ss_undo.specs.Windows.{AreCommittedWindows}
use Rattle.ss_undo.proofs.CallerLemmas.{all_are_committed}
use Rattle.ss_shard.specs.Bodies.{HasBodies, with_coming}
use Rattle.ss_shard.specs.Contents.{tables_of}
use Rattle.ss_shard.specs.ShardValue.{ShardValue}
use Rattle.ss_shard.specs.Windows.{kept_part}
use Rattle.ss_shard.specs.Shards.{HasTables, HasWindows, AllInvariant, IsOf}
use Rattle.ss_shard.proofs.Bodies.{none_comes, still_numbers}
use Rattle.ss_shard.proofs.Committing.{tables_final, all_settled, windows_settled, same_parts}
use Rattle.ss_shard.specs.Parts.{dealing_of}
use Rattle.ss_shard.proofs.Dealt.{dealt_final}
use Rattle.ss_shard.proofs.Tables.{final_tables}
use Rattle.ss_shard.proofs.shard.Shard.commit.Goals as goal

pub returns-clause-tables : goal.returns-clause-tables
returns-clause-tables c = ap tables_of c.commit.ensures.tables ∙ final_tables c.self.inside.tables ∙ ap (λ (s : ShardValue). tables_of s.tables) c.self.view_is

pub returns-clause-bodies : goal.returns-clause-bodies
returns-clause-bodies c = c.end_coming.ensures.bodies ∙ ap (λ (s : ShardValue). with_coming s.coming s.bodies) c.self.view_is

pub returns-clause-dealt : goal.returns-clause-dealt
returns-clause-dealt c =
    ap (map dealing_of) c.commit.ensures.tables
    ∙ dealt_final c.self.inside.tables
    ∙ ap (λ (s : ShardValue). map dealing_of s.tables) c.self.view_is

pub returns-clause-windows : goal.returns-clause-windows
returns-clause-windows c = λ held.
    ap (map kept_part) c.commit.ensures.windows
    ∙ same_parts c.self.inside.windows (subst (λ (s : ShardValue). AllInvariant s.windows) (sym c.self.view_is) held)
    ∙ ap (λ (s : ShardValue). map kept_part s.windows) c.self.view_is

pub returns-clause-committed : goal.returns-clause-committed
returns-clause-committed c = λ catalog given.
    let inside = c.self.inside in
    let is : IsOf catalog _ = subst (IsOf catalog) (sym c.self.view_is) given in
    record {
      of_catalog = record {
        tables = subst (HasTables catalog) (sym c.commit.ensures.tables) (tables_final catalog inside.tables is.tables);
        indexes = c.commit.ensures.columns ∙ is.indexes;
        windows = subst (HasWindows catalog) (sym c.commit.ensures.windows) (windows_settled catalog inside.windows is.windows);
        cursors = is.cursors;
        sources = is.sources;
        bodies = subst (HasBodies catalog) (sym c.end_coming.ensures.bodies) (still_numbers catalog inside.bodies inside.coming is.bodies is.coming);
        coming = none_comes catalog c.end_coming.new.coming c.end_coming.ensures.none;
      };
      final = subst (λ (tables : List TableValue). AreCommitted tables) (sym c.commit.ensures.tables) (all_are_committed inside.tables);
      committed = subst (λ (windows : List WindowValue). AreCommittedWindows windows) (sym c.commit.ensures.windows) (all_settled inside.windows is.windows.held);
      empty = c.commit.ensures.empty;
      none_coming = c.end_coming.ensures.none;
    }
