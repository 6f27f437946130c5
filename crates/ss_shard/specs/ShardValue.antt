-- A shard as contracts see it.
use Rattle.std.specs.Prelude.{ℕ, List, Option, refl}
use Rattle.std.specs.Coded.{Coded, code_by, coded×, coded_ℕ, coded_list, coded_option}
use Rattle.ss_table.specs.TableValue.{TableValue, coded_table}
use Rattle.ss_window.specs.WindowValue.{WindowValue, coded_window}
use Rattle.ss_model.specs.Database.{NextNumbers}
use Rattle.ss_shard.specs.Sources.{coded_numbers}
use Rattle.ss_undo.specs.contracts.change.Change as change
use Rattle.ss_undo.specs.declared.change.Change.{Change}

-- the columns of the indexes of each table
abbrev pub Listed : Type 0
Listed = List (List (List ℕ))

-- a shard: the partition's number, its tables, the changes since the last commit or rollback, the columns of its indexes, its
-- windows, how many batches each procedure has taken, the next numbers of each stream's sources, the number of the body that each
-- procedure has, and of an install that is neither committed nor rolled back the procedure and the number of its new body
pub record ShardValue : Type 0 where
  pub number : ℕ
  pub tables : List TableValue
  pub changes : List Change
  pub columns : Listed
  pub windows : List WindowValue
  pub cursors : List ℕ
  pub sources : List NextNumbers
  pub bodies : List ℕ
  pub coming : Option (ℕ × ℕ)

-- how the columns of indexes are told apart
abbrev pub coded_columns : Coded Listed
coded_columns = coded_list (coded_list (coded_list coded_ℕ))

-- how shards are told apart
abbrev pub coded_shard : Coded ShardValue
coded_shard = code_by (ℕ × (List TableValue × (List Change × (Listed × (List WindowValue × (List ℕ × (List NextNumbers × (List ℕ × Option (ℕ × ℕ)))))))))
    (coded× coded_ℕ (coded× (coded_list coded_table) (coded× (coded_list change.the_row.coded) (coded× coded_columns (coded× (coded_list coded_window) (coded× (coded_list coded_ℕ) (coded× (coded_list coded_numbers) (coded× (coded_list coded_ℕ) (coded_option (coded× coded_ℕ coded_ℕ))))))))))
    (λ s. (s.number, (s.tables, (s.changes, (s.columns, (s.windows, (s.cursors, (s.sources, (s.bodies, s.coming)))))))))
    (λ p. record { number = p.0; tables = p.1.0; changes = p.1.1.0; columns = p.1.1.1.0; windows = p.1.1.1.1.0; cursors = p.1.1.1.1.1.0; sources = p.1.1.1.1.1.1.0; bodies = p.1.1.1.1.1.1.1.0; coming = p.1.1.1.1.1.1.1.1 })
    (λ _. refl)
