-- Items that are all there, read one by one.
use Rattle.std.proofs.Common.{◌≡◌, List, [], ◌∷◌, ◌++◌, Option, Some, None, Ok, Err, refl, ap, append_assoc, sym}
use Rattle.std.proofs.lemmas.List.{append-nil}
use Rattle.std.specs.Prelude.{option_map}
use Rattle.ss_catalog_json.specs.Readings.{OrFault, ◌>>=◌}
use Rattle.ss_catalog_requests.specs.Shape.{all_there, with_another}

-- these, and those behind them
abbrev pub joined : {A : Type 0} → Option (List A) → Option (List A) → Option (List A)
joined None rest = None
joined (Some xs) rest = option_map (λ ys. xs ++ ys) rest

-- of what is read behind these, all
abbrev pub all_behind : {A : Type 0} → Option (List A) → OrFault (List (Option A)) → OrFault (Option (List A))
all_behind all rest = rest >>= λ xs. Ok (joined all (all_there xs))

nothing_before : {A : Type 0} (o : Option (List A)) → o ≡ joined (Some []) o
nothing_before None = refl
nothing_before (Some xs) = refl

pub all_behind-nothing : {A : Type 0} (rest : OrFault (List (Option A))) → (rest >>= λ xs. Ok (all_there xs)) ≡ all_behind (Some []) rest
all_behind-nothing (Ok xs) = ap Ok (nothing_before (all_there xs))
all_behind-nothing (Err way) = refl

one_more : {A : Type 0} (xs : List A) (x : A) (rest : Option (List A)) → option_map (λ ys. xs ++ ys) (option_map (λ ys. x ∷ ys) rest) ≡ option_map (λ ys. (xs ++ x ∷ []) ++ ys) rest
one_more xs x None = refl
one_more xs x (Some ys) = ap Some (sym (append_assoc xs (x ∷ []) ys))

joined-another : {A : Type 0} (all : Option (List A)) (x : Option A) (xs : List (Option A)) → joined all (all_there (x ∷ xs)) ≡ joined (with_another all x) (all_there xs)
joined-another None x xs = refl
joined-another (Some before) None xs = refl
joined-another (Some before) (Some x) xs = one_more before x (all_there xs)

pub all_behind-another : {A : Type 0} (all : Option (List A)) (x : Option A) (rest : OrFault (List (Option A))) → all_behind all (rest >>= λ xs. Ok (x ∷ xs)) ≡ all_behind (with_another all x) rest
all_behind-another all x (Ok xs) = ap Ok (joined-another all x xs)
all_behind-another all x (Err way) = refl

pub joined-end : {A : Type 0} (all : Option (List A)) → joined all (Some []) ≡ all
joined-end None = refl
joined-end (Some xs) = ap Some (append-nil xs)
