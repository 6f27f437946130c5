-- A loop that reads an item for each number below a bound.
use Rattle.std.proofs.Common.{◌≡◌, ◌∙◌, ℕ, ◌+◌, ◌-◌, ◌<◌, ◌≤◌, List, [], ◌∷◌, ◌++◌, map, Result, Ok, sym, ap, arith}
use Rattle.std.specs.List.{range_with_len}
use Rattle.ss_lemmas.proofs.Firsts.{range_done, range_on}
use Rattle.ss_standing.specs.Readers.{Reader, each, with_front}
use Rattle.ss_standing.proofs.CallerLemmas.{for_refused, next_for, no_more_for}
use Rattle.ss_snapshot.specs.declared.reading.fields.PartError.{PartError}
use Rattle.ss_snapshot.specs.declared.reading.fields.PartError.TheVariants.{NoMemory, Foreign}
use Rattle.ss_snapshot.specs.Parts.{Refuses}
use Rattle.ss_snapshot.proofs.AllTables.{front_none}
use Rattle.ss_snapshot.proofs.Eaches.{map_more}

-- the numbers below n from this one on
abbrev pub numbers_from : ℕ → ℕ → List ℕ
numbers_from n s = range_with_len s (n - s)

module _ {A B : Type 0} (read : ℕ → Reader B) (view : A → B) (n : ℕ) where
  pub numbers_begin : (bytes : List ℕ) → with_front [] (each read (numbers_from n 0) bytes) ≡ each read (range_with_len 0 n) bytes
  numbers_begin bytes =
      let all : n - 0 ≡ n = omega arith in
      ap (λ m. with_front [] (each read (range_with_len 0 m) bytes)) all ∙ front_none (each read (range_with_len 0 n) bytes)

  module _ (front : List A) (s : ℕ) (bytes : List ℕ) (all : Result (List B × List ℕ) ℕ) (so_far : with_front (map view front) (each read (numbers_from n s) bytes) ≡ all) where
    pub numbers_end : n ≤ s → all ≡ Ok (map view front, bytes)
    numbers_end end = sym so_far ∙ ap (λ ss. with_front (map view front) (each read ss bytes)) (range_done n s end) ∙ no_more_for read (map view front) bytes

    module _ (there : s < n) where
      this_on : with_front (map view front) (each read (s ∷ numbers_from n (s + 1)) bytes) ≡ all
      this_on = ap (λ ss. with_front (map view front) (each read ss bytes)) (sym (range_on n s there)) ∙ so_far

      pub one_number : (x : A) (rest : List ℕ) → read s bytes ≡ Ok (view x, rest) → with_front (map view (front ++ x ∷ [])) (each read (numbers_from n (s + 1)) rest) ≡ all
      one_number x rest is =
          ap (λ l. with_front l (each read (numbers_from n (s + 1)) rest)) (map_more view front x)
          ∙ sym (next_for read (map view front) s (numbers_from n (s + 1)) bytes (view x) rest is) ∙ this_on

      pub number_refused : (e : PartError) → Refuses e (read s bytes) → Refuses e all
      number_refused NoMemory refused = tt
      number_refused (Foreign left) refused = sym this_on ∙ for_refused read (map view front) s (numbers_from n (s + 1)) bytes left refused
