-- A database split into the parts of the partitions that run.
use Rattle.std.specs.Prelude.{◌≡◌, ◌≤◌, ◌<◌, ℕ, ◌==◌, cond, List, [], map, get_or, None}
use Rattle.std.specs.List.{range_with_len}
use Rattle.std.specs.FinMap as finmap
use Rattle.ss_value.specs.Rows.{Row}
use Rattle.ss_model.specs.declared.catalog.Catalog.{Catalog}
use Rattle.ss_model.specs.Contents.{table_at, window_units}
use Rattle.ss_model.specs.Database.{Database, batch_count}
use Rattle.ss_model.specs.Partitions.{row_partition, window_partition, home_of, home_partition, border_procedure, DatabasePart, part}
use Rattle.ss_model.specs.parts.HeldParts.{SameButStreams}

-- the parts of all partitions, in their order
abbrev pub split_parts : Catalog → ℕ → Database → List DatabasePart
split_parts catalog n db = map (λ p. part catalog n p db) (range_with_len 0 n)

-- law: two databases with the same parts differ in their streams at most
abbrev pub SplitsDetermine : Type 0
SplitsDetermine = (catalog : Catalog) (n : ℕ) → 1 ≤ n → (x y : Database) → split_parts catalog n x ≡ split_parts catalog n y → SameButStreams x y

-- a thing stands in the part of its home, which is one of those that run, and in each other part a blank stands for it
pub record StandsOnce {A : Type 0} (n home : ℕ) (thing blank : A) (in_part : ℕ → A) : Type 0 where
  pub runs : home < n
  pub stands : (p : ℕ) → in_part p ≡ cond (home == p) thing blank

-- law: each row, window, count and next number of a database stands in just one part, and which bodies there are in each
pub record EachStandsOnce (catalog : Catalog) (n : ℕ) (db : Database) : Type 0 where
  pub rows : (t : ℕ) (key : Row) → StandsOnce n (row_partition catalog n t key) (finmap.get (table_at db.contents t) key) None (λ p. finmap.get (get_or (part catalog n p db).tables t finmap.empty) key)
  pub windows : (w : ℕ) → StandsOnce n (window_partition catalog n w) (window_units db.contents w) [] (λ p. get_or (part catalog n p db).windows w [])
  pub counts : (q : ℕ) → StandsOnce n (home_of catalog n q) (batch_count db q) 0 (λ p. get_or (part catalog n p db).counts q 0)
  pub bodies : (p : ℕ) → p < n → (part catalog n p db).bodies ≡ db.bodies
  pub next_numbers : (s : ℕ) → StandsOnce n (home_partition n (border_procedure catalog s)) (get_or db.next_numbers s finmap.empty) finmap.empty (λ p. get_or (part catalog n p db).next_numbers s finmap.empty)

-- law: this holds of each database
abbrev pub SplitsOnce : Type 0
SplitsOnce = (catalog : Catalog) (n : ℕ) → 1 ≤ n → (db : Database) → EachStandsOnce catalog n db
