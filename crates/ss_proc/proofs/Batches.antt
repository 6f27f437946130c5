-- The batches of the streams from one on.
use Rattle.std.proofs.Common.{◌≡◌, ◌≢◌, ◌+◌, ◌-◌, ◌<◌, ℕ, zero, suc, Bool, true, false, cond, List, [], ◌∷◌, ◌++◌, get_or, set, refl, sym, ap, ◌∙◌, append_assoc, arith}
use Rattle.std.specs.List.{filter, range_with_len}
use Rattle.std.proofs.lemmas.List.{get_or-set_other}
use Rattle.ss_value.specs.Rows.{Rows}
use Rattle.ss_model.specs.declared.entry.Emitted.{Emitted}
use Rattle.ss_proc.specs.Entries.{batches_for}
use Rattle.ss_proc.proofs.Owned.{numbers_from, takes_number, passes_number}

others_stay : (p : ℕ → Bool) (e : List Rows) (n m k : ℕ) → n < m → batches_for (filter p (range_with_len m k)) (set e n []) ≡ batches_for (filter p (range_with_len m k)) e
others_stay p e n m zero h = refl
others_stay p e n m (suc k) h = by (p m) (others_stay p e n (m + 1) k (omega arith))
  where
    apart : m ≢ n
    apart = λ same. omega (arith, same)

    same : get_or (set e n []) m [] ≡ get_or e m []
    same = get_or-set_other e n m [] [] (λ same. apart same)

    by : (b : Bool) → batches_for (filter p (range_with_len (m + 1) k)) (set e n []) ≡ batches_for (filter p (range_with_len (m + 1) k)) e
        → batches_for (cond b (m ∷ filter p (range_with_len (m + 1) k)) (filter p (range_with_len (m + 1) k))) (set e n []) ≡ batches_for (cond b (m ∷ filter p (range_with_len (m + 1) k)) (filter p (range_with_len (m + 1) k))) e
    by true rest = λ i. record { stream = m; rows = same i } ∷ rest i
    by false rest = rest

-- one is taken out
pub batch_taken : (p : ℕ → Bool) (e : List Rows) (n count : ℕ) (made : List Emitted) → n < count → p n ≡ true →
    (made ++ record { stream = n; rows = get_or e n [] } ∷ []) ++ batches_for (numbers_from p (n + 1) count) (set e n []) ≡ made ++ batches_for (numbers_from p n count) e
batch_taken p e n count made within fires =
    append_assoc made (record { stream = n; rows = get_or e n [] } ∷ []) (batches_for (numbers_from p (n + 1) count) (set e n []))
    ∙ ap (λ rest. made ++ record { stream = n; rows = get_or e n [] } ∷ rest) (others_stay p e n (n + 1) (count - (n + 1)) (omega arith))
    ∙ ap (λ ns. made ++ batches_for ns e) (sym (takes_number p n count within fires))

pub none_taken : (p : ℕ → Bool) (e : List Rows) (n count : ℕ) (made : List Emitted) → n < count → p n ≡ false → made ++ batches_for (numbers_from p (n + 1) count) e ≡ made ++ batches_for (numbers_from p n count) e
none_taken p e n count made within still = ap (λ ns. made ++ batches_for ns e) (sym (passes_number p n count within still))
