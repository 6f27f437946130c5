-- The numbers that pass a test, one number more.
use Rattle.std.proofs.Common.{◌≡◌, ℕ, ◌+◌, [], ◌∷◌, ◌++◌, Bool, true, false, cond, sym, ap, ◌∙◌, zero-add}
use Rattle.std.specs.List.{filter, range_with_len}
use Rattle.std.proofs.lemmas.List.{map-id, append-nil}
use Rattle.std.proofs.lemmas.List.FromFn.{filter_of_map_range_with_len_more}

-- one number more
filter_more : (p : ℕ → Bool) (n : ℕ) → filter p (range_with_len 0 (n + 1)) ≡ filter p (range_with_len 0 n) ++ cond (p n) (n ∷ []) []
filter_more p n =
    ap (filter p) (sym (map-id (range_with_len 0 (n + 1))))
    ∙ filter_of_map_range_with_len_more p (λ x. x) 0 n n (zero-add n)
    ∙ ap (λ ns. filter p ns ++ cond (p n) (n ∷ []) []) (map-id (range_with_len 0 n))

pub filter_takes : (p : ℕ → Bool) (n : ℕ) → p n ≡ true → filter p (range_with_len 0 n) ++ n ∷ [] ≡ filter p (range_with_len 0 (n + 1))
filter_takes p n e = sym (filter_more p n ∙ ap (λ b. filter p (range_with_len 0 n) ++ cond b (n ∷ []) []) e)

pub filter_passes_by : (p : ℕ → Bool) (n : ℕ) → p n ≡ false → filter p (range_with_len 0 n) ≡ filter p (range_with_len 0 (n + 1))
filter_passes_by p n e =
    sym (filter_more p n ∙ ap (λ b. filter p (range_with_len 0 n) ++ cond b (n ∷ []) []) e ∙ append-nil (filter p (range_with_len 0 n)))
