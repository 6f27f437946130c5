-- One turn of a loop over a list, and walks that end at the first abort.
use Rattle.std.proofs.Common.{◌≡◌, ℕ, ◌+◌, ◌<◌, Bool, cond, List, [], ◌∷◌, ◌++◌, length, get_or, drop, fold, refl, sym, ap, subst, ◌∙◌, append_assoc, Ok, Err, arith}
use Rattle.std.proofs.lemmas.List.{drop_all, drop_more}
use Rattle.std.specs.List.{AllByRecursion}
use Rattle.std.specs.Prelude.{OnOk}
use Rattle.std.specs.declared.result.Result.{Result}
use Rattle.ss_lemmas.proofs.LoopItem.{next}
use Rattle.ss_value.specs.declared.value.Value.{Value}
use Rattle.ss_value.specs.Order.{value_cmp}
use Rattle.ss_model.specs.declared.entry.Reason.{Reason}
use Rattle.ss_model.specs.Results.{OrAbort, ◌>>=◌, try_map, try_filter, try_fold}
use Rattle.ss_model.specs.declared.extreme.Extreme.{Extreme}
use Rattle.ss_model.specs.Extremes.{beats}
use Rattle.ss_model.specs.declared.run_error.RunError.{RunError}
use Rattle.ss_model.specs.declared.run_error.RunError.TheVariants.{NoMemory, Abort}
use Rattle.ss_model.specs.Stops.{StopsAs}

pub on_ok : {A E P Q : Type 0} (r : Result A E) → (P → Q) → OnOk r P → OnOk r Q
on_ok (Ok a) f h = f h
on_ok (Err e) f h = tt

-- ---- one behind the other

-- a stop of the first is a stop of both
pub stops_before : {A B : Type 0} (x : OrAbort A) (f : A → OrAbort B) (stop : RunError) → StopsAs x stop → StopsAs (x >>= f) stop
stops_before x f NoMemory h = tt
stops_before x f (Abort r) h = ap (λ y. y >>= f) h

-- what is the same stops as the same
pub stops_same : {A : Type 0} (x y : OrAbort A) (stop : RunError) → x ≡ y → StopsAs y stop → StopsAs x stop
stops_same x y NoMemory e h = tt
stops_same x y (Abort r) e h = e ∙ h

-- ---- from state to state

module _ {A S : Type 0} (f : A → S → OrAbort S) (xs : List A) (i : ℕ) (x : A) (s : S) where
  -- the next element, and then the rest
  step : i < length xs → x ≡ get_or xs i x → try_fold f (drop i xs) s ≡ (f x s >>= λ t. try_fold f (drop (i + 1) xs) t)
  step within is = ap (λ ys. try_fold f ys s) (next xs i x within is)

  pub fold_goes_on : (t : S) → i < length xs → x ≡ get_or xs i x → f x s ≡ Ok t → try_fold f (drop (i + 1) xs) t ≡ try_fold f (drop i xs) s
  fold_goes_on t within is e = sym (step within is ∙ ap (λ r. r >>= λ t. try_fold f (drop (i + 1) xs) t) e)

  pub fold_stops : (stop : RunError) → i < length xs → x ≡ get_or xs i x → StopsAs (f x s) stop → StopsAs (try_fold f (drop i xs) s) stop
  fold_stops stop within is h = stops_same _ _ stop (step within is) (stops_before (f x s) _ stop h)

-- past the last element nothing happens
pub fold_ends : {A S : Type 0} (f : A → S → OrAbort S) (xs : List A) (i : ℕ) (s : S) → (i < length xs → ⊥) → try_fold f (drop i xs) s ≡ Ok s
fold_ends f xs i s ended = ap (λ ys. try_fold f ys s) (drop_all i xs (omega (arith, ended)))

-- what holds of the rest holds of the rest behind its first
pub rest_of : {A : Type 0} (P : A → Type 0) (xs : List A) (i : ℕ) (x : A) → i < length xs → AllByRecursion P (drop i xs) → AllByRecursion P (drop (i + 1) xs)
rest_of P xs i x within all = (subst (AllByRecursion P) (drop_more xs i x within) all).1

-- ---- what f gives for each, in order

-- `done` is what it gave for the first i
abbrev pub Maps : {A B : Type 0} → (A → OrAbort B) → List A → ℕ → List B → Type 0
Maps f xs i done = try_map f xs ≡ (try_map f (drop i xs) >>= λ ys. Ok (done ++ ys))

map_on : {B : Type 0} (r : OrAbort (List B)) (done : List B) (y : B) → ((r >>= λ ys. Ok (y ∷ ys)) >>= λ ys. Ok (done ++ ys)) ≡ (r >>= λ ys. Ok ((done ++ y ∷ []) ++ ys))
map_on (Ok ys) done y = ap Ok (sym (append_assoc done (y ∷ []) ys))
map_on (Err r) done y = refl

module _ {A B : Type 0} (f : A → OrAbort B) (xs : List A) where
  module _ (i : ℕ) (done : List B) (so_far : Maps f xs i done) where
    module _ (x : A) (h : i < length xs) (e : x ≡ get_or xs i x) where
      maps_at : try_map f xs ≡ ((f x >>= λ y. try_map f (drop (i + 1) xs) >>= λ ys. Ok (y ∷ ys)) >>= λ ys. Ok (done ++ ys))
      maps_at = so_far ∙ ap (λ zs. try_map f zs >>= λ ys. Ok (done ++ ys)) (next xs i x h e)

      maps_stops : (r : Reason) → f x ≡ Err r → try_map f xs ≡ Err r
      maps_stops r is = maps_at ∙ ap (λ z. (z >>= λ y. try_map f (drop (i + 1) xs) >>= λ ys. Ok (y ∷ ys)) >>= λ ys. Ok (done ++ ys)) is

      pub maps_more : (y : B) (now : List B) → f x ≡ Ok y → now ≡ done ++ y ∷ [] → Maps f xs (i + 1) now
      maps_more y now is grown =
          maps_at
          ∙ ap (λ z. (z >>= λ y. try_map f (drop (i + 1) xs) >>= λ ys. Ok (y ∷ ys)) >>= λ ys. Ok (done ++ ys)) is
          ∙ map_on (try_map f (drop (i + 1) xs)) done y
          ∙ ap (λ (now : List B). try_map f (drop (i + 1) xs) >>= λ ys. Ok (now ++ ys)) (sym grown)

      pub maps_stopped : (stop : RunError) → StopsAs (f x) stop → StopsAs (try_map f xs) stop
      maps_stopped NoMemory is = tt
      maps_stopped (Abort r) is = maps_stops r is

-- ---- those that pass, in order

-- `done` are those of the first i that pass
abbrev pub Filters : {A : Type 0} → (A → OrAbort Bool) → List A → ℕ → List A → Type 0
Filters p xs i done = try_filter p xs ≡ (try_filter p (drop i xs) >>= λ ys. Ok (done ++ ys))

-- ---- the value that no other one beats

abbrev pub best : Extreme → Value → List Value → Value
best extreme first values = fold (λ best v. cond (beats extreme (value_cmp v best)) v best) first values
