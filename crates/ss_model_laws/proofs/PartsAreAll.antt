-- A database by its parts.
use Rattle.std.proofs.Common.{◌≡◌, ◌≤◌, ℕ, ◌==◌, true, [], refl, sym, ap, ◌∙◌}
use Rattle.std.proofs.lemmas.Bool.{lt-ltb}
use Rattle.std.proofs.lemmas.List.{ext_get_or}
use Rattle.std.specs.FinMap as finmap
use Rattle.ss_model.specs.declared.catalog.Catalog.{Catalog}
use Rattle.ss_model.specs.Contents.{table_at, window_units}
use Rattle.ss_model.specs.Database.{Database}
use Rattle.ss_model.specs.Partitions.{home_of, home_partition, border_procedure, part}
use Rattle.ss_model.specs.parts.HeldParts.{SameButStreams}
use Rattle.ss_model.proofs.CallerLemmas.{retain_all}
use Rattle.ss_model_kept.proofs.CallerLemmas.{parts_agree}
use Rattle.ss_lemmas.proofs.Numbers.{eqb_self}
use Rattle.ss_model_laws.proofs.BlankItems.{read_both}
use Rattle.ss_model_laws.proofs.EntryLocality.{bodies_from}
use Rattle.ss_model_laws.proofs.HeldParts.{same_lengths}

module _ (catalog : Catalog) (n : ℕ) (x y : Database) (same : (p : ℕ) → part catalog n p x ≡ part catalog n p y) where
  counts_same : x.counts ≡ y.counts
  unfolding part
  counts_same =
      ext_get_or 0 x.counts y.counts (same_lengths catalog n 0 x y (same 0)).counts
      (λ q _. read_both (λ i. home_of catalog n i == home_of catalog n q) 0 x.counts y.counts q (ap (λ d. d.counts) (same (home_of catalog n q))) (eqb_self (home_of catalog n q)))

  numbers_same : x.next_numbers ≡ y.next_numbers
  unfolding part
  numbers_same =
      let home : ℕ → ℕ = λ s. home_partition n (border_procedure catalog s) in
      ext_get_or finmap.empty x.next_numbers y.next_numbers (same_lengths catalog n 0 x y (same 0)).next_numbers
      (λ s _. read_both (λ i. home i == home s) finmap.empty x.next_numbers y.next_numbers s (ap (λ d. d.next_numbers) (same (home s))) (eqb_self (home s)))

  bodies_same : 1 ≤ n → x.bodies ≡ y.bodies
  bodies_same some = bodies_from catalog n x y 0 (lt-ltb 0 n some) (same 0)

  contents_same : x.contents ≡ y.contents
  unfolding table_at window_units
  contents_same =
      let agree = parts_agree catalog n (λ p. true) x y 0 refl (λ p t. same p) in
      let tables : x.contents.tables ≡ y.contents.tables = ext_get_or finmap.empty x.contents.tables y.contents.tables agree.table_count (λ t _. sym (retain_all (table_at x.contents t)) ∙ agree.tables t ∙ retain_all (table_at y.contents t)) in
      let windows : x.contents.windows ≡ y.contents.windows = ext_get_or [] x.contents.windows y.contents.windows agree.window_count (λ w _. agree.windows w refl) in
      (λ i. record { tables = tables i; windows = windows i })

pub parts_are_all : (catalog : Catalog) (n : ℕ) → 1 ≤ n → (x y : Database) → ((p : ℕ) → part catalog n p x ≡ part catalog n p y) → SameButStreams x y
parts_are_all catalog n some x y same = record { contents = contents_same catalog n x y same; counts = counts_same catalog n x y same; next_numbers = numbers_same catalog n x y same; bodies = bodies_same catalog n x y same some }
