-- What shards are whose windows, counts and next numbers of one home change places: still of the catalogue, and blank where no partition is held.
use Rattle.std.proofs.Common.{◌≡◌, ◌≤◌, ◌∙◌, ◌==◌, ℕ, Bool, false, List, [], ◌∷◌, ◌++◌, map, length, replicate, sym, ap, subst, arith}
use Rattle.std.specs.FinMap as finite
use Rattle.std.proofs.lemmas.List.{length-map, length-replicate}
use Rattle.ss_model.specs.declared.catalog.Catalog.{Catalog}
use Rattle.ss_model.specs.Accepted.{Accepted}
use Rattle.ss_model.specs.Results.{map_indexed}
use Rattle.ss_model.specs.Contents.{Window}
use Rattle.ss_model.specs.Database.{Database, NextNumbers}
use Rattle.ss_model.specs.Partitions.{window_partition, home_of, home_partition, border_procedure}
use Rattle.ss_model.proofs.CallerLemmas.{few_windows, few_streams}
use Rattle.ss_model_kept.proofs.CallerLemmas.{length-map_index}
use Rattle.ss_window.specs.WindowValue.{WindowValue, WindowInvariant}
use Rattle.ss_undo.specs.Windows.{IsCommittedWindow, AreCommittedWindows}
use Rattle.ss_shard.specs.Exchanges.{exchanged}
use Rattle.ss_shard.specs.ShardValue.{ShardValue}
use Rattle.ss_shard.specs.Shards.{frame_of, frame_for, HasWindows, IsCommitted}
use Rattle.ss_shard.specs.Sources.{SameNumbers}
use Rattle.ss_shard.specs.Windows.{kept_part, kept_of}
use Rattle.ss_shard.specs.Parts.{is_among, HoldsAtHome, with_homes, IsShell}
use Rattle.ss_shard.proofs.Exchanged.{length_exchanged, exchanged_same, all_exchanged, map_exchanged, indexed_alike, map_alike}
use Rattle.ss_shard.proofs.Homes.{homes_lent, homes_kept, homes_given}
use Rattle.ss_shard.proofs.Shapes.{window_count}

-- a shard's windows, counts and next numbers are those of the catalogue, and no unit is staged
pub record HasHomes (catalog : Catalog) (shard : ShardValue) : Type 0 where
  pub windows : HasWindows catalog shard.windows
  pub committed : AreCommittedWindows shard.windows
  pub cursors : length shard.cursors ≡ length catalog.procedures
  pub sources : length shard.sources ≡ length catalog.streams

-- a database has as many windows, counts and next numbers as the catalogue lists
pub record IsAsLong (catalog : Catalog) (db : Database) : Type 0 where
  pub windows : length db.contents.windows ≡ length catalog.windows
  pub counts : length db.counts ≡ length catalog.procedures
  pub next_numbers : length db.next_numbers ≡ length catalog.streams

-- a shard's windows have no unit, its counts are 0 and it has no next number
pub record IsBlank (catalog : Catalog) (shard : ShardValue) : Type 0 where
  pub windows : map kept_part shard.windows ≡ map_indexed (kept_of catalog) (map (λ d. []) catalog.windows)
  pub cursors : shard.cursors ≡ replicate (length catalog.procedures) 0
  pub sources : SameNumbers (replicate (length catalog.streams) finite.empty) shard.sources

-- two shards of which some windows change places
windows_exchanged : (catalog : Catalog) (at : ℕ → Bool) (xs ys : List WindowValue) → HasWindows catalog xs → HasWindows catalog ys → HasWindows catalog (exchanged at xs ys)
windows_exchanged catalog at xs ys f g = record {
  frames = map_exchanged frame_of at xs ys ∙ (λ i. exchanged at (f.frames i) (g.frames i)) ∙ exchanged_same at (map frame_for catalog.windows);
  held = all_exchanged WindowInvariant at xs ys f.held g.held;
}

module _ (catalog : Catalog) where
  pub homes_stay : (n p : ℕ) (a b : ShardValue) → HasHomes catalog a → HasHomes catalog b → HasHomes catalog (with_homes catalog n p a b)
  homes_stay n p a b own other = record {
    windows = windows_exchanged catalog (λ w. window_partition catalog n w == p) a.windows b.windows own.windows other.windows;
    committed = all_exchanged IsCommittedWindow (λ w. window_partition catalog n w == p) a.windows b.windows own.committed other.committed;
    cursors = length_exchanged (λ q. home_of catalog n q == p) a.cursors b.cursors ∙ own.cursors;
    sources = length_exchanged (λ s. home_partition n (border_procedure catalog s) == p) a.sources b.sources ∙ own.sources;
  }

  -- a shard between executions has them
  pub has_homes : (shard : ShardValue) → IsCommitted catalog shard → HasHomes catalog shard
  has_homes shard is = record { windows = is.of_catalog.windows; committed = is.committed; cursors = is.of_catalog.cursors; sources = is.of_catalog.sources }

  -- and so has a shell, which is blank
  pub shell_homes : (n : ℕ) (shell : ShardValue) → IsShell catalog n shell → HasHomes catalog shell
  shell_homes n shell is = record {
    windows = is.windows;
    committed = is.committed;
    cursors = ap length is.cursors ∙ length-replicate (length catalog.procedures) 0;
    sources = is.sources.streams ∙ length-replicate (length catalog.streams) finite.empty;
  }

  pub shell_blank : (n : ℕ) (shell : ShardValue) → IsShell catalog n shell → IsBlank catalog shell
  shell_blank n shell is = record { windows = is.blank; cursors = is.cursors; sources = is.sources }

  -- a database that a shard stands for is as long
  pub is_as_long : (n : ℕ) (held : List ℕ) (shard : ShardValue) (db : Database) → HasHomes catalog shard → HoldsAtHome catalog n held shard db → IsAsLong catalog db
  is_as_long n held shard db has holds = record {
    windows =
        sym (length-map_index _ db.contents.windows)
        ∙ sym (length-map_index (kept_of catalog) _)
        ∙ sym (ap length holds.windows)
        ∙ length-map shard.windows kept_part
        ∙ window_count catalog shard.windows has.windows;
    counts = sym (length-map_index _ db.counts) ∙ sym (ap length holds.counts) ∙ has.cursors;
    next_numbers = sym (length-map_index _ db.next_numbers) ∙ sym holds.numbers.streams ∙ has.sources;
  }

  -- ---- a shard of no partition is blank, and the other way round

  module _ (db : Database) (long : IsAsLong catalog db) where
    no_units : map_indexed {B = Window} (λ w us. []) db.contents.windows ≡ map {B = Window} (λ d. []) catalog.windows
    no_units = indexed_alike {B = Window} [] db.contents.windows ∙ ap (λ k. replicate {A = Window} k []) long.windows ∙ sym (map_alike {B = Window} [] catalog.windows)

    no_counts : map_indexed {B = ℕ} (λ q c. 0) db.counts ≡ replicate (length catalog.procedures) 0
    no_counts = indexed_alike {B = ℕ} 0 db.counts ∙ ap (λ k. replicate {A = ℕ} k 0) long.counts

    no_numbers : map_indexed {B = NextNumbers} (λ s m. finite.empty) db.next_numbers ≡ replicate (length catalog.streams) finite.empty
    no_numbers = indexed_alike {B = NextNumbers} finite.empty db.next_numbers ∙ ap (λ k. replicate {A = NextNumbers} k finite.empty) long.next_numbers

    pub blank_left : (n : ℕ) (shard : ShardValue) → HoldsAtHome catalog n [] shard db → IsBlank catalog shard
    blank_left n shard holds = record {
      windows = holds.windows ∙ ap (map_indexed (kept_of catalog)) no_units;
      cursors = holds.counts ∙ no_counts;
      sources = subst (λ (ms : List NextNumbers). SameNumbers ms shard.sources) no_numbers holds.numbers;
    }

    pub blank_holds : (n : ℕ) (shard : ShardValue) → IsBlank catalog shard → HoldsAtHome catalog n [] shard db
    blank_holds n shard is = record {
      windows = is.windows ∙ sym (ap (map_indexed (kept_of catalog)) no_units);
      counts = is.cursors ∙ sym no_counts;
      numbers = subst (λ (ms : List NextNumbers). SameNumbers ms shard.sources) (sym no_numbers) is.sources;
    }

  -- ---- beside a shell

  module _ (n p : ℕ) (a b : ShardValue) (db : Database) (held : List ℕ) where
    -- a shard that lends its part to another leaves a shell
    pub shell_left : is_among held p ≡ false → HasHomes catalog a → HoldsAtHome catalog n (p ∷ []) a db → HoldsAtHome catalog n held b db → IsBlank catalog (with_homes catalog n p a b)
    shell_left fresh has lends holds =
        blank_left db (is_as_long n (p ∷ []) a db has lends) n (with_homes catalog n p a b) (homes_lent catalog n p a b db held fresh lends holds)

    -- a shard that gives a shell its part back keeps its own, and the other holds its part
    pub kept_beside : is_among held p ≡ false → HasHomes catalog a → IsBlank catalog b → HoldsAtHome catalog n (held ++ p ∷ []) a db → HoldsAtHome catalog n held (with_homes catalog n p a b) db
    kept_beside fresh has blank holds = homes_kept catalog n p a b db held fresh holds (blank_holds db (is_as_long n (held ++ p ∷ []) a db has holds) n b blank)

    pub given_back : IsBlank catalog a → HasHomes catalog b → HoldsAtHome catalog n (held ++ p ∷ []) b db → HoldsAtHome catalog n (p ∷ []) (with_homes catalog n p a b) db
    given_back blank has holds = homes_given catalog n p a b db held (blank_holds db (is_as_long n (held ++ p ∷ []) b db has holds) n a blank) holds

  -- ---- what an exchange asks for

  -- another shard with the same of these
  pub has_alike : (shard other : ShardValue) → other.windows ≡ shard.windows → other.cursors ≡ shard.cursors → other.sources ≡ shard.sources → HasHomes catalog shard → HasHomes catalog other
  has_alike shard other windows cursors sources has = record {
    windows = subst (HasWindows catalog) (sym windows) has.windows;
    committed = subst (λ (windows : List WindowValue). AreCommittedWindows windows) (sym windows) has.committed;
    cursors = ap length cursors ∙ has.cursors;
    sources = ap length sources ∙ has.sources;
  }

  pub few_homes : (shard : ShardValue) → Accepted catalog → HasHomes catalog shard → (length shard.windows ≤ 64) × (length shard.sources ≤ 64)
  few_homes shard accepted has =
      let windows : length shard.windows ≤ 32 = subst (λ k. k ≤ 32) (sym (window_count catalog shard.windows has.windows)) (few_windows catalog accepted.form) in
      let sources : length shard.sources ≤ 32 = subst (λ k. k ≤ 32) (sym has.sources) (few_streams catalog accepted.form) in
      (omega (arith, windows), omega (arith, sources))

  pub as_many : (shard other : ShardValue) → HasHomes catalog shard → HasHomes catalog other → (length other.windows ≡ length shard.windows) × (length other.cursors ≡ length shard.cursors) × (length other.sources ≡ length shard.sources)
  as_many shard other own others =
      (window_count catalog other.windows others.windows ∙ sym (window_count catalog shard.windows own.windows), others.cursors ∙ sym own.cursors, others.sources ∙ sym own.sources)
