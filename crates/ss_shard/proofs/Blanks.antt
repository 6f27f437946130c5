-- Databases with blanks, and shards of blanks.
use Rattle.std.proofs.Common.{◌≡◌, ◌≤◌, ◌<◌, ◌∙◌, ℕ, zero, suc, Bool, true, false, cond, List, [], ◌∷◌, map, length, replicate, refl, sym, ap, subst, Some, None, slice_get}
use Rattle.std.proofs.Math.Nat.{mod-lt}
use Rattle.std.specs.declared.option.Option.{Option}
use Rattle.std.specs.List.{AllByRecursion}
use Rattle.std.specs.FinMap as finite
use Rattle.ss_value.specs.Order.{row_cmp}
use Rattle.ss_value.specs.Rows.{Row, column_value}
use Rattle.ss_model.specs.declared.catalog.Placement.{Placement}
use Rattle.ss_model.specs.declared.catalog.Placement.TheVariants.{Part, By}
use Rattle.ss_model.specs.declared.catalog.Catalog.{Catalog}
use Rattle.ss_model.specs.Results.{map_indexed}
use Rattle.ss_model.specs.Contents.{Table, Window, window_owner, table_placement, key_columns, key_position}
use Rattle.ss_model.specs.Database.{Database, empty_database}
use Rattle.ss_model.specs.parts.HeldParts.{elsewhere_blank, holds_some}
use Rattle.ss_model.specs.Partitions.{key_partition, row_partition, window_partition, home_of, home_of_owner, home_partition, border_procedure}
use Rattle.ss_model.proofs.CallerLemmas.{get_cut, same_table, home_below, value_part_below}
use Rattle.ss_table.specs.TableValue.{TableValue}
use Rattle.ss_undo.specs.ResultsFrom.{AreCommitted}
use Rattle.ss_undo.specs.Windows.{AreCommittedWindows}
use Rattle.ss_window.specs.WindowValue.{WindowValue}
use Rattle.ss_shard.specs.Bodies.{HasBodies, texts_of}
use Rattle.ss_shard.specs.Contents.{tables_of, windows_of}
use Rattle.ss_shard.specs.Databases.{WindowIsSound, empty_tables, shell_tables, HasBlanksBeside}
use Rattle.ss_shard.specs.Parts.{is_among, dealing_of, HoldsParts, IsShardOf, IsShell}
use Rattle.ss_shard.specs.Shards.{HasTables, HasWindows}
use Rattle.ss_shard.specs.ShardValue.{ShardValue}
use Rattle.ss_shard.specs.Sources.{SameNumbers}
use Rattle.ss_shard.specs.Windows.{kept_part, kept_of, HoldsDatabase}
use Rattle.ss_shard.proofs.Bodies.{none_comes, own_numbers, own_seen, own_texts, seen_by}
use Rattle.ss_shard.proofs.OpeningLemmas.{all_dealt, all_empty, all_final, has_tables, has_windows, no_units, no_windows, none_staged}
use Rattle.ss_shard.proofs.Placed.{numbers_alike}
use Rattle.ss_shard.proofs.Staging.{length_replicate}
use Rattle.ss_shard.proofs.Standing.{parts_meant}

-- ---- each row, window, count and stream is of a partition that runs

row_below : (n : ℕ) (o : Option Placement) (cs : List ℕ) (key : Row) → 1 ≤ n → key_partition n o cs key < n
row_below n None cs key some = some
row_below n (Some (Part y)) cs key some = mod-lt y some
row_below n (Some (By c)) cs key some = value_part_below n (column_value key (key_position c cs)) some

owner_below : (catalog : Catalog) (n : ℕ) (o : Option ℕ) → 1 ≤ n → home_of_owner catalog n o < n
owner_below catalog n None some = some
owner_below catalog n (Some q) some = home_below n (slice_get catalog.procedures q) some

-- ---- lists, each item of which stays

same_items : {A : Type 0} (f : ℕ → A → A) (xs : List A) → ((i : ℕ) (x : A) → f i x ≡ x) → map_indexed f xs ≡ xs
same_items f [] same = refl
same_items f (x ∷ xs) same = λ i. same 0 x i ∷ same_items (λ k. f (suc k)) xs (λ k. same (suc k)) i

same_copies : {A : Type 0} (f : ℕ → A → A) (k : ℕ) (x : A) → ((i : ℕ) → f i x ≡ x) → map_indexed f (replicate k x) ≡ replicate k x
same_copies f zero x same = refl
same_copies f (suc k) x same = λ i. same 0 i ∷ same_copies (λ n. f (suc n)) k x (λ n. same (suc n)) i

either_way : {A : Type 0} (b : Bool) (x : A) → cond b x x ≡ x
either_way true x = refl
either_way false x = refl

all_rows : (m : Table) (test : Row → Bool) → ((key : Row) → test key ≡ true) → finite.retain_keys m test ≡ m
all_rows m test each = same_table _ _ (λ key. get_cut m test key ∙ ap (λ b. cond b (finite.get m key) None) (each key))

still_none : (test : Row → Bool) → finite.retain_keys {K = Row} {X = Row} {R = row_cmp} finite.empty test ≡ finite.empty
still_none test =
    same_table _ _ (λ key.
    let none = finite.get-empty row_cmp key in
    get_cut finite.empty test key ∙ ap (λ o. cond (test key) o None) none ∙ either_way (test key) None ∙ sym none)

-- ---- databases

-- the blanks of partitions that do not run are no more than what is there
pub nothing_blank : (catalog : Catalog) (n : ℕ) (test : ℕ → Bool) → 1 ≤ n → ((p : ℕ) → p < n → test p ≡ true) → (db : Database) → elsewhere_blank catalog n test db ≡ db
nothing_blank catalog n test some each db =
    let tables = same_items (λ t m. finite.retain_keys m (λ key. test (row_partition catalog n t key))) db.contents.tables (λ t m.
    all_rows m (λ key. test (row_partition catalog n t key)) (λ key. each _ (row_below n (table_placement (slice_get catalog.tables t)) (key_columns (slice_get catalog.tables t)) key some))) in
    let windows = same_items (λ w us. cond (test (window_partition catalog n w)) us []) db.contents.windows (λ w us.
    ap (λ b. cond b us []) (each _ (owner_below catalog n (window_owner catalog w) some))) in
    let counts = same_items (λ q c. cond (test (home_of catalog n q)) c 0) db.counts (λ q c. ap (λ b. cond b c 0) (each _ (home_below n (slice_get catalog.procedures q) some))) in
    let numbers = same_items (λ s m. cond (test (home_partition n (border_procedure catalog s))) m finite.empty) db.next_numbers (λ s m.
    ap (λ b. cond b m finite.empty) (each _ (home_below n (border_procedure catalog s) some))) in
    let bodies = seen_by catalog n test 0 some (each 0 some) db.bodies in
    λ i. record db { contents = record { tables = tables i; windows = windows i }; counts = counts i; next_numbers = numbers i; bodies = bodies i }

-- a database that has nothing has nothing but blanks
pub all_blank : (catalog : Catalog) (n : ℕ) (test : ℕ → Bool) → elsewhere_blank catalog n test (empty_database catalog) ≡ empty_database catalog
all_blank catalog n test =
    let tables = same_copies (λ t m. finite.retain_keys m (λ key. test (row_partition catalog n t key))) (length catalog.tables) finite.empty (λ t. still_none (λ key. test (row_partition catalog n t key))) in
    let windows = same_copies {A = Window} (λ w us. cond (test (window_partition catalog n w)) us []) (length catalog.windows) [] (λ w. either_way (test (window_partition catalog n w)) []) in
    let counts = same_copies (λ q c. cond (test (home_of catalog n q)) c 0) (length catalog.procedures) 0 (λ q. either_way (test (home_of catalog n q)) 0) in
    let numbers = same_copies (λ s m. cond (test (home_partition n (border_procedure catalog s))) m finite.empty) (length catalog.streams) finite.empty (λ s.
    either_way (test (home_partition n (border_procedure catalog s))) finite.empty) in
    let bodies = own_seen catalog (holds_some n test) in
    λ i. record (empty_database catalog) { contents = record { tables = tables i; windows = windows i }; counts = counts i; next_numbers = numbers i; bodies = bodies i }

pub parts_of_blank : (catalog : Catalog) (n : ℕ) (held : List ℕ) (shard : ShardValue) → HoldsDatabase catalog shard (empty_database catalog) → HoldsParts catalog n held shard (empty_database catalog)
parts_of_blank catalog n held shard holds = subst (λ (db : Database). HoldsDatabase catalog shard db) (sym (all_blank catalog n (is_among held))) holds

-- ---- shards

module _ (catalog : Catalog) (n part : ℕ) (made : List TableValue) (shard : ShardValue) (has : HasBlanksBeside catalog part made shard) (sound : AllByRecursion WindowIsSound catalog.windows) where
  are_windows : HasWindows catalog shard.windows
  are_windows = subst (HasWindows catalog) (sym has.windows) (has_windows catalog sound)

  are_committed : AreCommittedWindows shard.windows
  are_committed = subst (λ (windows : List WindowValue). AreCommittedWindows windows) (sym has.windows) (none_staged catalog.windows sound)

  no_unit : map kept_part shard.windows ≡ map_indexed (kept_of catalog) (replicate (length catalog.windows) [])
  no_unit = sym (parts_meant catalog shard.windows are_windows) ∙ ap (map_indexed (kept_of catalog)) (ap windows_of has.windows ∙ no_units catalog.windows)

  no_number : SameNumbers (replicate (length catalog.streams) finite.empty) shard.sources
  no_number = numbers_alike (replicate (length catalog.streams) finite.empty) shard.sources has.sources

  pub is_shell : made ≡ shell_tables n part catalog.tables → IsShell catalog n shard
  is_shell is = record {
    tables = has.tables ∙ is ∙ ap (λ k. shell_tables n k catalog.tables) (sym has.number);
    changes = has.changes;
    indexes = has.indexes;
    windows = are_windows;
    committed = are_committed;
    blank = no_unit ∙ ap (map_indexed (kept_of catalog)) (no_windows catalog.windows);
    cursors = has.cursors;
    sources = no_number;
    bodies = ap length has.bodies ∙ length_replicate (length catalog.procedures) 0;
    none_coming = has.none_coming;
  }

  module _ (is : made ≡ empty_tables n part catalog.tables) where
    tables_are : shard.tables ≡ empty_tables n part catalog.tables
    tables_are = has.tables ∙ is

    pub blank_is_shard : part < n → IsShardOf catalog n part shard
    blank_is_shard runs = record {
      number = has.number;
      parts = record {
        running = (runs, tt);
        committed = record {
          of_catalog = record {
            tables = subst (HasTables catalog) (sym tables_are) (has_tables n part catalog);
            indexes = has.indexes;
            windows = are_windows;
            cursors = ap length has.cursors ∙ length_replicate (length catalog.procedures) 0;
            sources = ap length has.sources ∙ length_replicate (length catalog.streams) finite.empty;
            bodies = subst (HasBodies catalog) (sym has.bodies) (own_numbers catalog);
            coming = none_comes catalog shard.coming has.none_coming;
          };
          final = subst (λ (tables : List TableValue). AreCommitted tables) (sym tables_are) (all_final n part catalog.tables);
          committed = are_committed;
          empty = has.changes;
          none_coming = has.none_coming;
        };
        dealt = ap (map dealing_of) tables_are ∙ all_dealt n part catalog.tables;
      };
    }

    pub blank_holds : HoldsDatabase catalog shard (empty_database catalog)
    blank_holds = record {
      contents = record { tables = ap tables_of tables_are ∙ all_empty n part catalog.tables; windows = no_unit };
      counts = has.cursors;
      numbers = no_number;
      bodies = ap (texts_of catalog) has.bodies ∙ own_texts catalog;
    }
