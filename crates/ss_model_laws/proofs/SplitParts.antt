-- A database split into its parts.
use Rattle.std.proofs.Common.{◌≡◌, ◌≤◌, ◌<◌, ℕ, ◌==◌, nat_lt, Bool, true, false, cond, List, [], get_or, refl, sym, ap, ◌∙◌, Some, None, arith}
use Rattle.std.proofs.Math.Nat.{mod-lt}
use Rattle.std.proofs.lemmas.Bool.{lt-ltb, ltb-true, ltb-false}
use Rattle.std.proofs.lemmas.List.FromFn.{get_or-map-range_with_len}
use Rattle.std.specs.declared.option.Option.{Option}
use Rattle.std.specs.FinMap as finmap
use Rattle.ss_value.specs.Rows.{Row, column_value}
use Rattle.ss_value.specs.Order.{row_cmp}
use Rattle.ss_model.specs.declared.catalog.Catalog.{Catalog}
use Rattle.ss_model.specs.declared.catalog.Placement.{Placement}
use Rattle.ss_model.specs.declared.catalog.Placement.TheVariants.{Part as PlacedAt, By}
use Rattle.ss_model.specs.Contents.{Table, table_at, window_owner, key_position}
use Rattle.ss_model.specs.Database.{Database, batch_count}
use Rattle.ss_model.specs.Partitions.{key_partition, row_partition, window_partition, home_of, home_of_owner, home_partition, border_procedure, part, seen_bodies}
use Rattle.ss_model.specs.parts.HeldParts.{SameButStreams}
use Rattle.ss_model.specs.parts.SplitParts.{split_parts, StandsOnce, EachStandsOnce}
use Rattle.ss_model.proofs.CallerLemmas.{get_cut, home_below, same_table, value_part_below}
use Rattle.ss_model_kept.proofs.CallerLemmas.{part_table, part_window, same_slots}
use Rattle.ss_lemmas.proofs.Numbers.{eqb_apart}
use Rattle.ss_model_laws.proofs.BlankItems.{blank_slot}
use Rattle.ss_model_laws.proofs.PartLocality.{same_part}
use Rattle.ss_model_laws.proofs.HeldParts.{same_lengths}
use Rattle.ss_model_laws.proofs.EntryLocality.{not_below}
use Rattle.ss_model_laws.proofs.PartsAreAll.{parts_are_all}
use Rattle.ss_model_laws.proofs.SeenBodies.{seen_all, seen_none}

-- ---- each thing has its home on a partition that runs

key_below : (n : ℕ) (o : Option Placement) (cs : List ℕ) (key : Row) → 1 ≤ n → key_partition n o cs key < n
key_below n (Some (PlacedAt y)) cs key some = mod-lt y some
key_below n (Some (By c)) cs key some = value_part_below n (column_value key (key_position c cs)) some
key_below n None cs key some = some

owner_below : (catalog : Catalog) (n : ℕ) (o : Option ℕ) → 1 ≤ n → home_of_owner catalog n o < n
owner_below catalog n None some = some
owner_below catalog n (Some q) some = home_below n _ some

module _ (catalog : Catalog) (n : ℕ) (some : 1 ≤ n) where
  pub row_below : (t : ℕ) (key : Row) → row_partition catalog n t key < n
  row_below t key = key_below n _ _ key some

  pub window_below : (w : ℕ) → window_partition catalog n w < n
  window_below w = owner_below catalog n (window_owner catalog w) some

  pub home_runs : (q : ℕ) → home_of catalog n q < n
  home_runs q = home_below n _ some

  pub border_below : (s : ℕ) → home_partition n (border_procedure catalog s) < n
  border_below s = home_below n (border_procedure catalog s) some

  -- ---- each thing stands once

  module _ (db : Database) where
    counts_once : (q : ℕ) → StandsOnce n (home_of catalog n q) (batch_count db q) 0 (λ p. get_or (part catalog n p db).counts q 0)
    unfolding part
    counts_once q = record { runs = home_runs q; stands = λ p. blank_slot (λ i. home_of catalog n i == p) 0 db.counts q }

    numbers_once : (s : ℕ) → StandsOnce n (home_partition n (border_procedure catalog s)) (get_or db.next_numbers s finmap.empty) finmap.empty (λ p. get_or (part catalog n p db).next_numbers s finmap.empty)
    unfolding part
    numbers_once s = record { runs = border_below s; stands = λ p. blank_slot (λ i. home_partition n (border_procedure catalog i) == p) finmap.empty db.next_numbers s }

    bodies_there : (p : ℕ) → p < n → (part catalog n p db).bodies ≡ db.bodies
    unfolding part
    bodies_there p l = ap (λ b. seen_bodies catalog b db.bodies) (lt-ltb p n l) ∙ seen_all catalog db.bodies

    pub each_stands_once : EachStandsOnce catalog n db
    each_stands_once = record {
      rows = λ t key. record {
        runs = row_below t key;
        stands = λ p. ap (λ m. finmap.get m key) (part_table catalog n db p t) ∙ get_cut (table_at db.contents t) (λ k. row_partition catalog n t k == p) key;
      };
      windows = λ w. record { runs = window_below w; stands = λ p. part_window catalog n db p w };
      counts = counts_once;
      bodies = bodies_there;
      next_numbers = numbers_once;
    }

  -- ---- past the partitions that run all is blank

  not_there : {A : Type 0} (b : Bool) (x d : A) → b ≡ false → cond b x d ≡ d
  not_there b x d e = ap (λ b. cond b x d) e

  module _ (p : ℕ) (past : n ≤ p) (x y : Database) (first : part catalog n 0 x ≡ part catalog n 0 y) where
    elsewhere : (at : ℕ) → at < n → (at == p) ≡ false
    elsewhere at below = eqb_apart at p (λ e. (let same : at ≡ p = e in omega arith))

    no_rows : (t : ℕ) (m : Table) → finmap.retain_keys m (λ key. row_partition catalog n t key == p) ≡ finmap.empty
    no_rows t m = same_table _ _ (λ k. get_cut m (λ key. row_partition catalog n t key == p) k ∙ not_there _ (finmap.get m k) None (elsewhere _ (row_below t k)) ∙ sym (finmap.get-empty row_cmp k))

    all_blank : part catalog n p x ≡ part catalog n p y
    unfolding part
    all_blank =
        let long = same_lengths catalog n 0 x y first in
        same_part _ _
        (same_slots _ x.contents.tables y.contents.tables finmap.empty long.tables (λ t. no_rows t (get_or x.contents.tables t finmap.empty) ∙ sym (no_rows t (get_or y.contents.tables t finmap.empty))))
        (same_slots _ x.contents.windows y.contents.windows [] long.windows (λ w. not_there _ _ [] (elsewhere _ (window_below w)) ∙ sym (not_there _ _ [] (elsewhere _ (window_below w)))))
        (same_slots _ x.counts y.counts 0 long.counts (λ q. not_there _ _ 0 (elsewhere _ (home_runs q)) ∙ sym (not_there _ _ 0 (elsewhere _ (home_runs q)))))
        (same_slots _ x.next_numbers y.next_numbers finmap.empty long.next_numbers (λ s. not_there _ _ finmap.empty (elsewhere _ (border_below s)) ∙ sym (not_there _ _ finmap.empty (elsewhere _ (border_below s)))))
        (ap (λ b. seen_bodies catalog b x.bodies) (not_below p n past) ∙ seen_none catalog x.bodies y.bodies long.bodies ∙ sym (ap (λ b. seen_bodies catalog b y.bodies) (not_below p n past)))

  -- ---- equal splits

  module _ (x y : Database) (same : split_parts catalog n x ≡ split_parts catalog n y) where
    part_at : (db : Database) (p : ℕ) → p < n → get_or (split_parts catalog n db) p (part catalog n 0 x) ≡ part catalog n p db
    part_at db p l = get_or-map-range_with_len (λ q. part catalog n q db) 0 n p p (part catalog n 0 x) l (omega arith)

    below_same : (p : ℕ) → p < n → part catalog n p x ≡ part catalog n p y
    below_same p l = sym (part_at x p l) ∙ ap (λ ds. get_or ds p (part catalog n 0 x)) same ∙ part_at y p l

    each_same : (p : ℕ) → part catalog n p x ≡ part catalog n p y
    each_same p = by (nat_lt p n) refl
      where
        by : (b : Bool) → nat_lt p n ≡ b → part catalog n p x ≡ part catalog n p y
        by true e = below_same p (ltb-true p n e)
        by false e = all_blank p (ltb-false p n e) x y (below_same 0 some)

    pub splits_determine : SameButStreams x y
    splits_determine = parts_are_all catalog n some x y each_same
