-- Entries replay up to any position, or stop at one before it, or settling what is before them passes the last place.
use Rattle.std.proofs.Common.{◌≡◌, ◌∙◌, ◌⊎◌, inl, inr, ⊎_elim, ◌+◌, ◌<◌, ◌≤◌, ◌^◌, ℕ, zero, suc, List, [], ◌∷◌, ◌++◌, length, slice_get, take, Option, Some, None, refl, sym, ap, arith, subst, unwrap_or, length-append, length-take-le}
use Rattle.std.specs.Option.{option_map}
use Rattle.std.proofs.lemmas.Bool.{cases_lt}
use Rattle.std.proofs.lemmas.List.{length-map, map-append}
use Rattle.std.proofs.lemmas.Option.{slice_get_within}
use Rattle.ss_model.specs.declared.catalog.Catalog.{Catalog}
use Rattle.ss_model.specs.declared.entry.Entry.{Entry}
use Rattle.ss_model.specs.declared.entry.Listed.{Listed}
use Rattle.ss_model.specs.declared.entry.Mode.{Mode}
use Rattle.ss_model.specs.declared.entry.Mode.TheVariants.{Strong, Weak}
use Rattle.ss_model.specs.declared.entry.Outcome.TheVariants.{Done}
use Rattle.ss_model.specs.Accepted.{Accepted}
use Rattle.ss_model.specs.Database.{Applied, Database as Model, apply}
use Rattle.ss_model.specs.InStep.{IsInStep}
use Rattle.ss_model.specs.Replays.{after, database_after}
use Rattle.ss_model.specs.Settled.{SettlesOnce, SettlingTerminates}
use Rattle.ss_model.specs.Settling.{IsWeakList, Settles}
use Rattle.ss_model.proofs.CallerLemmas.{goes_on}
use Rattle.ss_model_laws.proofs.CallerLemmas.{in_step_after}
use Rattle.ss_weak_lists.specs.Stops.{PassesLast, ReplaysWeakly}
use Rattle.ss_weak_lists.specs.WeakLists.{WeakListsGrow}
use Rattle.ss_weak_lists.proofs.CallerLemmas.{after_is}
use Rattle.ss_standing.specs.Standing.{listed_entries}
use Rattle.ss_recover.specs.Faults.{ReplaysAs, ReplaysAsTheyStand, StopsAfter}

-- the first so many entries replay, or they stop at one of those, or settling passes the last place before any of them
abbrev pub Reaches : Mode → Catalog → Model → ℕ → List Entry → ℕ → Type 0
Reaches mode catalog d first entries n =
    ReplaysAs mode catalog d first (take n entries) ⊎ (((m : ℕ) × StopsAfter mode catalog d first entries m × m < n) ⊎ ((mode ≡ Weak) × PassesLast catalog d first))

take_one : (xs : List Entry) (n : ℕ) (x : Entry) → slice_get xs n ≡ Some x → take (suc n) xs ≡ take n xs ++ x ∷ []
take_one [] n x is = absurd (cc)
take_one (y ∷ ys) zero x is = (let same : y ≡ x = cc in ap (λ (z : Entry). z ∷ []) same)
take_one (y ∷ ys) (suc n) x is = ap (λ (l : List Entry). y ∷ l) (take_one ys n x is)

take_past : (xs : List Entry) (n : ℕ) → slice_get xs n ≡ None → take (suc n) xs ≡ take n xs
take_past [] zero is = refl
take_past [] (suc n) is = refl
take_past (y ∷ ys) zero is = absurd (cc)
take_past (y ∷ ys) (suc n) is = ap (λ (l : List Entry). y ∷ l) (take_past ys n is)

-- the first so many are so many, where there are
long_front : (list : List Listed) (entries : List Entry) (n : ℕ) (e : Entry) → listed_entries list ≡ take n entries → slice_get entries n ≡ Some e → length list ≡ n
long_front list entries n e is there =
    let within = slice_get_within entries n e there in
    sym (length-map list (λ (l : Listed). l.entry)) ∙ ap (λ (l : List Entry). length l) is ∙ length-take-le n entries (omega (arith, within))

next_is : (catalog : Catalog) (d : Model) (e : Entry) (a : Applied) → apply catalog d e ≡ Some a → database_after catalog d e ≡ a.db
next_is catalog d e a is = ap (λ (o : Option Applied). unwrap_or (option_map (λ (a : Applied). a.db) o) d) is

module _ (catalog : Catalog) (d : Model) (first : ℕ) (entries : List Entry) where
  -- ---- as they stand

  module _ (n : ℕ) (front : ReplaysAsTheyStand catalog d first (take n entries)) (e : Entry) (there : slice_get entries n ≡ Some e) where
    long : length front.list ≡ n
    long = long_front front.list entries n e front.entries_are there

    stops_here : (front_stops : (first + length front.list ≡ 2 ^ 60) ⊎ (apply catalog (after catalog d front.list) e ≡ None)) → Reaches Strong catalog d first entries (suc n)
    stops_here stops = inr (inl (
      n,
      (
        front.list,
        sym long,
        record {
          before = front.entries_are ∙ ap (λ (k : ℕ). take k entries) (sym long);
          replays = front.replays;
          few = front.few;
          entry = e;
          there = ap (λ (k : ℕ). slice_get entries k) long ∙ there;
          stops = stops;
        },
      ),
      omega arith,
    ))

    one_more : (a : Applied) → apply catalog (after catalog d front.list) e ≡ Some a → first + length front.list < 2 ^ 60 → Reaches Strong catalog d first entries (suc n)
    one_more a is less =
        let last : List Listed = record { entry = e; outcome = a.outcome } ∷ [] in
        inl (record {
          list = front.list ++ last;
          entries_are = map-append (λ (l : Listed). l.entry) front.list last ∙ ap (λ (es : List Entry). es ++ e ∷ []) front.entries_are ∙ sym (take_one entries n e there);
          replays = (goes_on catalog d front.list last).joins front.replays (ap (option_map (λ (a : Applied). a.outcome)) is, tt);
          few = omega (arith, less, length-append front.list last);
        })

    one_further : Reaches Strong catalog d first entries (suc n)
    one_further = ⊎_elim
        (λ (less : first + length front.list < 2 ^ 60). by (apply catalog (after catalog d front.list) e) refl less)
        (λ (full : 2 ^ 60 ≤ first + length front.list). stops_here (inl (omega (arith, full, front.few))))
        (cases_lt (first + length front.list) (2 ^ 60))
      where
        by : (o : Option Applied) → apply catalog (after catalog d front.list) e ≡ o → first + length front.list < 2 ^ 60 → Reaches Strong catalog d first entries (suc n)
        by None is less = stops_here (inr is)
        by (Some a) is less = one_more a is less

  reaches_strong : first ≤ 2 ^ 60 → (n : ℕ) → Reaches Strong catalog d first entries n
  reaches_strong few zero = inl (record { list = []; entries_are = refl; replays = tt; few = omega (arith, few) })
  reaches_strong few (suc n) = by (reaches_strong few n)
    where
      further : ReplaysAsTheyStand catalog d first (take n entries) → (o : Option Entry) → slice_get entries n ≡ o → Reaches Strong catalog d first entries (suc n)
      further front None is = inl (record { list = front.list; entries_are = front.entries_are ∙ sym (take_past entries n is); replays = front.replays; few = front.few })
      further front (Some e) is = one_further n front e is

      by : Reaches Strong catalog d first entries n → Reaches Strong catalog d first entries (suc n)
      by (inl front) = further front (slice_get entries n) refl
      by (inr (inl (m, stops, less))) = inr (inl (m, stops, omega (arith, less)))
      by (inr (inr passes)) = inr (inr passes)

  -- ---- with the settlings between them

  module _ (terminates : SettlingTerminates) (grow : WeakListsGrow) (accepted : Accepted catalog) (in_step : IsInStep catalog d) where
    module _ (n : ℕ) (front : ReplaysWeakly catalog d first (take n entries)) (e : Entry) (there : slice_get entries n ≡ Some e) where
      abbrev place : ℕ
      place = first + length front.list

      abbrev before : Model
      before = after catalog d front.list

      weak_stops : (stops : (apply catalog before e ≡ None) ⊎ PassesLast catalog (database_after catalog before e) (place + 1)) → Reaches Weak catalog d first entries (suc n)
      weak_stops stops = inr (inl (n, record { before = front; entry = e; there = there; stops = stops }, omega arith))

      settled : SettlesOnce catalog (database_after catalog before e)
      settled = terminates catalog accepted (database_after catalog before e)
          (in_step_after catalog accepted.structure.streams.wired before (record { entry = e; outcome = Done [] } ∷ []) (in_step_after catalog accepted.structure.streams.wired d front.list in_step))

      weak_more : (a : Applied) → apply catalog before e ≡ Some a → place + 1 + length settled.list ≤ 2 ^ 60 → Reaches Weak catalog d first entries (suc n)
      weak_more a is few =
          let (steps, are, replays) = settled.replays in
          let more : List Listed = record { entry = e; outcome = a.outcome } ∷ steps in
          let same = after_is catalog d front.list in
          let settles = subst (λ (z : Model). Settles catalog (database_after catalog z e) settled.list) same settled.settles in
          let weak = grow catalog d (take n entries) (listed_entries front.list) e settled.list front.is_weak settles in
          let is_list : listed_entries (front.list ++ more) ≡ listed_entries front.list ++ e ∷ settled.list =
          map-append (λ (l : Listed). l.entry) front.list more ∙ ap (λ (es : List Entry). listed_entries front.list ++ e ∷ es) are in
          let long : length steps ≡ length settled.list = sym (length-map steps (λ (l : Listed). l.entry)) ∙ ap (λ (es : List Entry). length es) are in
          inl (record {
            list = front.list ++ more;
            is_weak = subst (λ (es : List Entry). IsWeakList catalog d es (listed_entries (front.list ++ more))) (sym (take_one entries n e there)) (subst (IsWeakList catalog d (take n entries ++ e ∷ [])) (sym is_list) weak);
            replays = (goes_on catalog d front.list more).joins front.replays (ap (option_map (λ (a : Applied). a.outcome)) is, replays);
            few = omega (arith, few, long, length-append front.list more);
          })

      weak_further : Reaches Weak catalog d first entries (suc n)
      weak_further = by (apply catalog before e) refl
        where
          by : (o : Option Applied) → apply catalog before e ≡ o → Reaches Weak catalog d first entries (suc n)
          by None is = weak_stops (inl is)
          by (Some a) is = ⊎_elim
              (λ (past : 2 ^ 60 < place + 1 + length settled.list). weak_stops (inr (record { steps = settled.list; settles = settled.settles; past = past })))
              (λ (few : place + 1 + length settled.list ≤ 2 ^ 60). weak_more a is few)
              (cases_lt (2 ^ 60) (place + 1 + length settled.list))

    weak_begins : Reaches Weak catalog d first entries 0
    weak_begins =
        let settled = terminates catalog accepted d in_step in
        let (steps, are, replays) = settled.replays in
        let long : length steps ≡ length settled.list = sym (length-map steps (λ (l : Listed). l.entry)) ∙ ap (λ (es : List Entry). length es) are in
        ⊎_elim
        (λ (past : 2 ^ 60 < first + length settled.list). inr (inr (refl, record { steps = settled.list; settles = settled.settles; past = past })))
        (λ (few : first + length settled.list ≤ 2 ^ 60). inl (record { list = steps; is_weak = subst (Settles catalog d) (sym are) settled.settles; replays = replays; few = omega (arith, few, long) }))
        (cases_lt (2 ^ 60) (first + length settled.list))

    reaches_weak : (n : ℕ) → Reaches Weak catalog d first entries n
    reaches_weak zero = weak_begins
    reaches_weak (suc n) = by (reaches_weak n)
      where
        further : ReplaysWeakly catalog d first (take n entries) → (o : Option Entry) → slice_get entries n ≡ o → Reaches Weak catalog d first entries (suc n)
        further front None is = inl (subst (ReplaysWeakly catalog d first) (sym (take_past entries n is)) front)
        further front (Some e) is = weak_further n front e is

        by : Reaches Weak catalog d first entries n → Reaches Weak catalog d first entries (suc n)
        by (inl front) = further front (slice_get entries n) refl
        by (inr (inl (m, stops, less))) = inr (inl (m, stops, omega (arith, less)))
        by (inr (inr passes)) = inr (inr passes)

    pub reaches : first ≤ 2 ^ 60 → (mode : Mode) (n : ℕ) → Reaches mode catalog d first entries n
    reaches few Strong n = reaches_strong few n
    reaches few Weak n = reaches_weak n
