-- The numbers from one on that pass a test.
use Rattle.std.proofs.Common.{◌≡◌, ◌+◌, ◌-◌, ◌<◌, ℕ, suc, Bool, true, false, cond, List, [], ◌∷◌, sym, ap, ◌∙◌, Ok, arith}
use Rattle.std.specs.List.{filter, range_with_len}
use Rattle.ss_model.specs.Results.{OrAbort, ◌>>=◌, try_fold}
use Rattle.ss_model.specs.declared.run_error.RunError.{RunError}
use Rattle.ss_model.specs.Stops.{StopsAs}
use Rattle.ss_model.proofs.CallerLemmas.{stops_before, stops_same}

-- from n on, below a count
abbrev pub numbers_from : (ℕ → Bool) → ℕ → ℕ → List ℕ
numbers_from p n count = filter p (range_with_len n (count - n))

next_number : (p : ℕ → Bool) (n count : ℕ) → n < count → numbers_from p n count ≡ cond (p n) (n ∷ numbers_from p (n + 1) count) (numbers_from p (n + 1) count)
next_number p n count within =
    let some : count - n ≡ suc (count - (n + 1)) = omega arith in
    ap (λ k. filter p (range_with_len n k)) some

pub takes_number : (p : ℕ → Bool) (n count : ℕ) → n < count → p n ≡ true → numbers_from p n count ≡ n ∷ numbers_from p (n + 1) count
takes_number p n count within e = next_number p n count within ∙ ap (λ b. cond b (n ∷ numbers_from p (n + 1) count) (numbers_from p (n + 1) count)) e

pub passes_number : (p : ℕ → Bool) (n count : ℕ) → n < count → p n ≡ false → numbers_from p n count ≡ numbers_from p (n + 1) count
passes_number p n count within e = next_number p n count within ∙ ap (λ b. cond b (n ∷ numbers_from p (n + 1) count) (numbers_from p (n + 1) count)) e

pub no_number : (p : ℕ → Bool) (n count : ℕ) → (n < count → ⊥) → numbers_from p n count ≡ []
no_number p n count ended = let none : count - n ≡ 0 = omega (arith, ended) in ap (λ k. filter p (range_with_len n k)) none

-- ---- what is done for each of them, up to the first abort

module _ {S : Type 0} (f : ℕ → S → OrAbort S) (p : ℕ → Bool) (n count : ℕ) (within : n < count) (s : S) where
  pub owned_stops : (stop : RunError) → p n ≡ true → StopsAs (f n s) stop → StopsAs (try_fold f (numbers_from p n count) s) stop
  owned_stops stop mine h = stops_same _ _ stop (ap (λ ns. try_fold f ns s) (takes_number p n count within mine)) (stops_before (f n s) _ stop h)

  pub owned_goes_on : (t : S) → p n ≡ true → f n s ≡ Ok t → try_fold f (numbers_from p (n + 1) count) t ≡ try_fold f (numbers_from p n count) s
  owned_goes_on t mine e = sym (ap (λ ns. try_fold f ns s) (takes_number p n count within mine) ∙ ap (λ r. r >>= λ t. try_fold f (numbers_from p (n + 1) count) t) e)

  pub owned_passes : p n ≡ false → try_fold f (numbers_from p (n + 1) count) s ≡ try_fold f (numbers_from p n count) s
  owned_passes other = sym (ap (λ ns. try_fold f ns s) (passes_number p n count within other))
