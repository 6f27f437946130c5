-- Of what is kept of a database one can be made of which the same is kept.
use Rattle.std.proofs.Common.{◌≡◌, ◌∙◌, ⊎_elim, ℕ, zero, suc, ◌-◌, ◌≤◌, ◌<◌, List, [], ◌∷◌, length, map, drop, get_or, replicate, refl, sym, ap, arith, drop_at, length-append, length-drop}
use Rattle.std.proofs.lemmas.Bool.{cases_lt}
use Rattle.std.proofs.lemmas.List.{length-replicate, nil_from_length}
use Rattle.ss_value.specs.Rows.{Rows}
use Rattle.ss_model.specs.declared.catalog.Catalog.{Catalog}
use Rattle.ss_model.specs.Contents.{Window, first_kept, kept_units, window_def}
use Rattle.ss_model.specs.Database.{Database as Model, stream_batches}
use Rattle.ss_model.specs.Results.{map_indexed}
use Rattle.ss_model.specs.Settling.{kept, least_count}
use Rattle.ss_model_kept.proofs.CallerLemmas.{same_least}
use Rattle.ss_recover.specs.Recovering.{behind_blanks, database_of}

-- ---- lists with blank items before those that are kept

abbrev blanks : ℕ → List Rows
blanks n = replicate n []

long_blanks : (n : ℕ) → length (blanks n) ≡ n
long_blanks n = length-replicate n []

module _ (us : List Rows) (k : ℕ) where
  abbrev again : List Rows
  again = behind_blanks (length us) (drop k us)

  long_again : length again ≡ length us
  long_again = omega (arith, length-append (blanks (length us - length (drop k us))) (drop k us), long_blanks (length us - length (drop k us)), length-drop k us)

  rest_again : drop k again ≡ drop k us
  rest_again = ⊎_elim
      (λ (lt : length us < k).
      (let none : drop k us ≡ [] = nil_from_length (drop k us) (omega (arith, length-drop k us)) in
      nil_from_length (drop k again) (omega (arith, length-drop k again, long_again)) ∙ sym none))
      (λ (le : k ≤ length us).
      (let before : length us - length (drop k us) ≡ k = omega (arith, length-drop k us) in
      drop_at (blanks (length us - length (drop k us))) (drop k us) k (long_blanks (length us - length (drop k us)) ∙ before)))
      (cases_lt (length us) k)

-- ---- lists of them

-- items that are made again of what is made of them
made_again : {A B : Type 0} (f g : ℕ → A → B) (back : B → A) → ((i : ℕ) (x : A) → g i (back (f i x)) ≡ f i x) → (xs : List A) → map_indexed g (map back (map_indexed f xs)) ≡ map_indexed f xs
made_again f g back same [] = refl
made_again f g back same (x ∷ xs) = λ k. same 0 x k ∷ made_again (λ i. f (suc i)) (λ i. g (suc i)) back (λ i. same (suc i)) xs k

-- each as long as it was
long_there : {B : Type 0} (f : ℕ → List Rows → B) (back : B → List Rows) → ((i : ℕ) (x : List Rows) → length (back (f i x)) ≡ length x) → (xs : List (List Rows)) (i : ℕ)
    → length (get_or (map back (map_indexed f xs)) i []) ≡ length (get_or xs i [])
long_there f back same [] i = refl
long_there f back same (x ∷ xs) zero = same 0 x
long_there f back same (x ∷ xs) (suc i) = long_there (λ i. f (suc i)) back (λ i. same (suc i)) xs i

-- ---- databases

module _ (catalog : Catalog) (db : Model) where
  abbrev told : Model
  told = database_of (kept catalog db)

  abbrev window_at : ℕ → Window → ℕ × Window
  window_at w us = (length us, kept_units (window_def catalog w) us)

  abbrev stream_at : Model → ℕ → List Rows → ℕ × (ℕ × List Rows)
  stream_at d s bs = (length bs, (least_count catalog d s, drop (least_count catalog d s) bs))

  window_again : (w : ℕ) (us : Window) → window_at w (behind_blanks (length us) (kept_units (window_def catalog w) us)) ≡ window_at w us
  window_again w us =
      let k = first_kept (window_def catalog w) (length us) in
      let long = long_again us k in
      λ i. (long i, (ap (λ n. drop (first_kept (window_def catalog w) n) (again us k)) long ∙ rest_again us k) i)

  streams_long : (s : ℕ) → length (stream_batches told s) ≡ length (stream_batches db s)
  unfolding kept
  streams_long s = long_there (stream_at db) (λ t. behind_blanks t.0 t.1.1) (λ i bs. long_again bs (least_count catalog db i)) db.streams s

  least_again : (s : ℕ) → least_count catalog told s ≡ least_count catalog db s
  unfolding kept
  least_again s = same_least catalog told db s refl (streams_long s)

  stream_again : (s : ℕ) (bs : List Rows) → stream_at told s (behind_blanks (length bs) (drop (least_count catalog db s) bs)) ≡ stream_at db s bs
  stream_again s bs =
      let k = least_count catalog db s in
      let least = least_again s in
      λ i. (long_again bs k i, (least i, (ap (λ n. drop n (again bs k)) least ∙ rest_again bs k) i))

  pub told_keeps : kept catalog told ≡ kept catalog db
  unfolding kept
  told_keeps =
      let windows = made_again window_at window_at (λ w. behind_blanks w.0 w.1) window_again db.contents.windows in
      let streams = made_again (stream_at db) (stream_at told) (λ s. behind_blanks s.0 s.1.1) stream_again db.streams in
      λ i. record { tables = db.contents.tables; windows = windows i; streams = streams i; counts = db.counts; next_numbers = db.next_numbers; bodies = db.bodies }
