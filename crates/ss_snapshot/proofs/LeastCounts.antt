-- The least of the first counts of those that take a stream, count by count.
use Rattle.std.proofs.Common.{◌≡◌, ◌∙◌, ℕ, ◌+◌, ◌-◌, ◌<◌, ◌≤◌, min, List, [], ◌∷◌, ◌++◌, length, get_or, length-append, true, cond, sym, ap, arith}
use Rattle.std.specs.List.{fold, range_with_len}
use Rattle.std.proofs.Math.ListN.{get_or-append}
use Rattle.std.proofs.Math.Seq.{get_or-append_seam}
use Rattle.std.proofs.lemmas.List.Sums.{fold-append}
use Rattle.ss_lemmas.proofs.Firsts.{range_done, range_on}
use Rattle.ss_model.specs.declared.catalog.Catalog.{Catalog}
use Rattle.ss_model.specs.Orders.{procedure_takes}
use Rattle.ss_standing.specs.ImageForm.{least_of}
use Rattle.ss_standing.proofs.Places.{fold_alike, range_parts}

module _ (catalog : Catalog) (s : ℕ) where
  -- the least of one more
  abbrev pub step : List ℕ → ℕ → ℕ → ℕ
  step counts least q = cond (procedure_takes catalog q s) (min least (get_or counts q 0)) least

  -- the least of those behind the first ones
  abbrev pub least_behind : List ℕ → ℕ → ℕ → ℕ
  least_behind counts q least = fold (step counts) least (range_with_len q (length counts - q))

  pub least_all : (had : ℕ) (counts : List ℕ) → least_of catalog s had counts ≡ least_behind counts 0 had
  least_all had counts = (let all : length counts ≡ length counts - 0 = omega arith in ap (λ n. fold (step counts) had (range_with_len 0 n)) all)

  pub least_on : (counts : List ℕ) (q least : ℕ) → q < length counts → least_behind counts q least ≡ least_behind counts (q + 1) (step counts least q)
  least_on counts q least within = ap (fold (step counts) least) (range_on (length counts) q within)

  pub least_done : (counts : List ℕ) (q least : ℕ) → length counts ≤ q → least_behind counts q least ≡ least
  least_done counts q least end = ap (fold (step counts) least) (range_done (length counts) q end)

  pub least_next : (had : ℕ) (counts : List ℕ) (q least next count : ℕ) → least_of catalog s had counts ≡ least_behind counts q least → q < length counts → count ≡ get_or counts q 0
      → next ≡ cond (procedure_takes catalog q s) (min least count) least → least_of catalog s had counts ≡ least_behind counts (q + 1) next
  least_next had counts q least next count so_far within is with =
      so_far ∙ least_on counts q least within
      ∙ ap (least_behind counts (q + 1)) (ap (λ m. cond (procedure_takes catalog q s) (min least m) least) (sym is) ∙ sym with)

  -- with the count of one more that takes the stream
  pub least_more : (had n : ℕ) (before : List ℕ) → procedure_takes catalog (length before) s ≡ true → least_of catalog s had (before ++ n ∷ []) ≡ min (least_of catalog s had before) n
  least_more had n before taken =
      let counts : List ℕ = before ++ n ∷ [] in
      let more : length counts ≡ length before + 1 = length-append before (n ∷ []) in
      let plain : 0 + length before ≡ length before = omega arith in
      ap (λ m. fold (step counts) had (range_with_len 0 m)) more
      ∙ ap (fold (step counts) had) (range_parts (length before) 1 0 ∙ ap (λ i. range_with_len 0 (length before) ++ range_with_len i 1) plain)
      ∙ fold-append (step counts) had (range_with_len 0 (length before)) (range_with_len (length before) 1)
      ∙ ap (λ least. step counts least (length before))
      (fold_alike (step counts) (step before) had (length before) 0
      (λ q above below least. ap (λ m. cond (procedure_takes catalog q s) (min least m) least) (get_or-append before (n ∷ []) 0 q (omega (arith, below)))))
      ∙ (λ k. cond (taken k) (min (least_of catalog s had before) (get_or-append_seam before n [] 0 k)) (least_of catalog s had before))
