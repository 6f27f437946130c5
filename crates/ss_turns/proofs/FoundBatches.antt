-- The batches of a step, as they are found.
use Rattle.std.proofs.Common.{inl, inr, zero, suc, arith, ◌+◌, take, get_or, IfOk, ◌≡◌, ◌==◌, ◌||◌, ⊎_elim, ◌<◌, ℕ, Bool, true, nat_lt, List, [], ◌∷◌, ◌++◌, map, length, slice_get, refl, sym, ap, subst, ◌∙◌, Some, None}
use Rattle.std.proofs.lemmas.Bool.Decides.{Decides-eqb}
use Rattle.std.proofs.lemmas.List.{map-append, map_more}
use Rattle.std.proofs.lemmas.Option.{slice_get_within}
use Rattle.std.specs.declared.option.Option.{Option}
use Rattle.std.specs.declared.result.Result.{Result}
use Rattle.std.specs.Prelude.{Ok, Err}
use Rattle.std.specs.List.{AllByRecursion, list_any}
use Rattle.ss_lemmas.proofs.Bools.{chosen, some_same}
use Rattle.ss_value.specs.Rows.{Rows}
use Rattle.ss_model.specs.declared.catalog.Catalog.{Catalog}
use Rattle.ss_model.specs.declared.catalog.Procedure.{Procedure}
use Rattle.ss_model.specs.declared.entry.Entry.TheVariants.{Step as StepEntry}
use Rattle.ss_model.specs.declared.entry.Listed as model
use Rattle.ss_model.specs.Database.{Database, batch_count, stream_batches, takes_stream}
use Rattle.ss_model.specs.Orders.{procedure_takes, procedure_has}
use Rattle.ss_model.specs.Replays.{after}
use Rattle.ss_model_laws.proofs.CallerLemmas.{stream_grows}
use Rattle.ss_proc.specs.Entries.{AreAtHand, AreBatchesOf}
use Rattle.ss_commitlog.specs.Meaning.{listed_of}
use Rattle.ss_commitlog.specs.Reading.{found_batch}
use Rattle.ss_commitlog.specs.Right.{known_database}
use Rattle.ss_commitlog.specs.Roles.{In}
use Rattle.ss_commitlog.specs.Tokens.{Known, Continues}
use Rattle.ss_commitlog.proofs.CallerLemmas.{after_rest}
use Rattle.ss_turns.specs.Runs.{AreGiven}
use Rattle.ss_turns.specs.Stepping.{AreFound, AreFoundFor}

-- ---- batches that were found

-- what a consumer finds stands in the stream
found_there : (d : Database) (s q r : ℕ) (batch : Rows) → found_batch d s q r ≡ Some batch → slice_get (stream_batches d s) r ≡ Some batch
found_there d s q r batch e =
    ⊎_elim (λ (h : (nat_lt r (batch_count d q) ≡ true) × (None ≡ Some batch)). absurd (cc)) (λ h. h.1)
    (chosen (nat_lt r (batch_count d q)) None (slice_get (stream_batches d s) r) (Some batch) e)

-- and behind a list still
found_stay : (catalog : Catalog) (d : Database) (list : List model.Listed) (r : ℕ) (ss : List ℕ) (bs : List Rows) → map (λ s. slice_get (stream_batches d s) r) ss ≡ map Some bs
    → map (λ s. slice_get (stream_batches (after catalog d list) s) r) ss ≡ map Some bs
found_stay catalog d list r [] [] e = refl
found_stay catalog d list r [] (b ∷ bs) e = cc
found_stay catalog d list r (s ∷ ss) [] e = cc
found_stay catalog d list r (s ∷ ss) (b ∷ bs) e =
    let here : slice_get (stream_batches d s) r ≡ Some b = cc in
    let rest : map (λ s. slice_get (stream_batches d s) r) ss ≡ map Some bs = cc in
    λ i. (stream_grows catalog d list s).stays r b here i ∷ found_stay catalog d list r ss bs rest i

found_on : (catalog : Catalog) (parts : ℕ) (db : Database) (k l : Known) → Continues catalog parts l.list k → (r : ℕ) (ss : List ℕ) (bs : List Rows) → map (λ s. slice_get (stream_batches (known_database catalog db k) s) r) ss ≡ map Some bs
    → map (λ s. slice_get (stream_batches (known_database catalog db l) s) r) ss ≡ map Some bs
found_on catalog parts db k l on r ss bs e =
    subst (λ (d : Database). map (λ s. slice_get (stream_batches d s) r) ss ≡ map Some bs) (sym (after_rest catalog parts db l.list k on))
    (found_stay catalog (known_database catalog db k) (listed_of on.rest) r ss bs e)

-- one batch more, by a mark that has gone on
pub found_next : (catalog : Catalog) (parts : ℕ) (db : Database) (k l : Known) → Continues catalog parts l.list k → (q r i : ℕ) (ss : List ℕ) (bs new : List Rows) (batch : Rows) → i < length ss
    → map (λ s. slice_get (stream_batches (known_database catalog db k) s) r) (take i ss) ≡ map Some bs → found_batch (known_database catalog db l) (get_or ss i 0) q r ≡ Some batch → new ≡ bs ++ batch ∷ []
    → map (λ s. slice_get (stream_batches (known_database catalog db l) s) r) (take (i + 1) ss) ≡ map Some new
found_next catalog parts db k l on q r i ss bs new batch below e found pushed =
    map_more (λ s. slice_get (stream_batches (known_database catalog db l) s) r) ss i 0 below
    ∙ (λ j. found_on catalog parts db k l on r (take i ss) bs e j ++ found_there (known_database catalog db l) (get_or ss i 0) q r batch found j ∷ [])
    ∙ sym (map-append Some bs (batch ∷ []))
    ∙ ap (λ (x : List Rows). map Some x) (sym pushed)

-- a stream that has none
in_at : (ss : List ℕ) (i : ℕ) → i < length ss → In (get_or ss i 0) ss
in_at [] i below = absurd (omega arith)
in_at (s ∷ ss) zero below = inl refl
in_at (s ∷ ss) (suc i) below = inr (in_at ss i (omega arith))

pub lacks_one : {E : Type 0} (d : Database) (q r i : ℕ) (ss : List ℕ) → i < length ss → (x : Result (Option Rows) E) (found : Option Rows) → IfOk x (λ y. y ≡ found_batch d (get_or ss i 0) q r) → x ≡ Ok found → found ≡ None
    → (s : ℕ) × In s ss × (found_batch d s q r ≡ None)
lacks_one d q r i ss below x found looked was none = (get_or ss i 0, in_at ss i below, sym (subst (λ (z : Result (Option Rows) _). IfOk z (λ y. y ≡ found_batch d (get_or ss i 0) q r)) was looked) ∙ none)

-- what was found
pub looked_so : {E : Type 0} (o : Option Rows) (r : Result (Option Rows) E) (found : Option Rows) (batch : Rows) → IfOk r (λ x. x ≡ o) → r ≡ Ok found → found ≡ Some batch → o ≡ Some batch
looked_so o r found batch looked was some = sym (subst (λ (x : Result (Option Rows) _). IfOk x (λ y. y ≡ o)) was looked) ∙ some

-- ---- the batches of a step

below_all : (d : Database) (r : ℕ) (ss : List ℕ) (bs : List Rows) → map (λ s. slice_get (stream_batches d s) r) ss ≡ map Some bs → AllByRecursion (λ s. r < length (stream_batches d s)) ss
below_all d r [] bs e = tt
below_all d r (s ∷ ss) [] e = cc
below_all d r (s ∷ ss) (b ∷ bs) e =
    let here : slice_get (stream_batches d s) r ≡ Some b = cc in
    let rest : map (λ s. slice_get (stream_batches d s) r) ss ≡ map Some bs = cc in
    (slice_get_within (stream_batches d s) r b here, below_all d r ss bs rest)

same_at : (x y : Database) (r : ℕ) (ss : List ℕ) → AllByRecursion (λ s. slice_get (stream_batches x s) r ≡ slice_get (stream_batches y s) r) ss → map (λ s. slice_get (stream_batches x s) r) ss ≡ map (λ s. slice_get (stream_batches y s) r) ss
same_at x y r [] all = refl
same_at x y r (s ∷ ss) all = λ i. all.0 i ∷ same_at x y r ss all.1 i

module _ (catalog : Catalog) (q r : ℕ) (p : Procedure) (named : slice_get catalog.procedures q ≡ Some p) where
  hand_of : (d : Database) (batches : List Rows) → map (λ s. slice_get (stream_batches d s) r) p.inputs ≡ map Some batches → AreAtHand catalog d (StepEntry q r) batches
  hand_of d batches e = subst (AreBatchesOf d r batches) (sym named) e

  given_step : (db : Database) (ks : List Known) (k : Known) → In k ks → (batches : List Rows) → map (λ s. slice_get (stream_batches (known_database catalog db k) s) r) p.inputs ≡ map Some batches
      → AreGiven catalog db ks (StepEntry q r) batches
  given_step db ks k i batches e = record {
    source = known_database catalog db k;
    known = (k, i, refl);
    inputs = λ d is. subst (λ (x : Procedure). AllByRecursion (λ s. r < length (stream_batches (known_database catalog db k) s)) x.inputs) (some_same p d (sym named ∙ is)) (below_all (known_database catalog db k) r p.inputs batches e);
    at_hand = λ d same. hand_of d batches (same_at d (known_database catalog db k) r p.inputs (same p named) ∙ e);
  }

  pub found_for : {E : Type 0} (db : Database) (ks : List Known) (k : Known) → In k ks → (found : Result (Option (List Rows)) E) → AreFound (known_database catalog db k) q r p.inputs found → AreFoundFor catalog db ks q r found
  found_for db ks k i (Ok (Some batches)) are = given_step db ks k i batches are
  found_for db ks k i (Ok None) are = record { mark = k; one_of = i; procedure = p; named = named; stream = are.0; input = are.1; none = are.2 }
  found_for db ks k i (Err e) are = tt

  later : (x s : ℕ) (xs : List ℕ) → list_any (λ i. i == s) xs ≡ true → list_any (λ i. i == s) (x ∷ xs) ≡ true
  later x s xs any = by (x == s)
    where
      by : (b : Bool) → (b || list_any (λ i. i == s) xs) ≡ true
      by true = refl
      by _ = any

  takes_each : (xs : List ℕ) → ((s : ℕ) → list_any (λ i. i == s) xs ≡ true → procedure_takes catalog q s ≡ true) → AllByRecursion (λ s. procedure_takes catalog q s ≡ true) xs
  takes_each [] all = tt
  takes_each (x ∷ xs) all = (all x (ap (λ b. b || list_any (λ i. i == x) xs) ((Decides-eqb x x).1 refl)), takes_each xs (λ s any. all s (later x s xs any)))

  -- a procedure takes its inputs
  pub takes_inputs : AllByRecursion (λ s. procedure_takes catalog q s ≡ true) p.inputs
  takes_inputs = takes_each p.inputs (λ s any. ap (procedure_has (takes_stream s)) named ∙ any)
