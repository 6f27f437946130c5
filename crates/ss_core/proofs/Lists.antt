-- What a commit and a recovery keep of the list.
use Rattle.std.proofs.Common.{◌≡◌, ◌<◌, ◌+◌, ℕ, Bool, true, false, cond, ◌==◌, nat_lt, ◌&&◌, ◌⊎◌, inl, inr, List, [], ◌∷◌, ◌++◌, length, take, drop, map, get_or, refl, sym, ap, ◌∙◌, subst, Some, None, arith, length-append, append-nil}
use Rattle.std.proofs.lemmas.List.{get_or-map, length-map, drop_all, take-append-drop}
use Rattle.std.proofs.lemmas.List.Elements.{filter_map-append}
use Rattle.std.proofs.lemmas.Bool.{ltb-true, lt-ltb}
use Rattle.std.proofs.lemmas.Bool.Decides.{Decides-eqb}
use Rattle.std.specs.declared.option.Option.{Option}
use Rattle.std.specs.Option.{option_map}
use Rattle.std.specs.List.{AllByRecursion, cons_option, filter_map, list_all}
use Rattle.ss_model.specs.declared.catalog.Catalog.{Catalog}
use Rattle.ss_model.specs.declared.entry.Entry.{Entry}
use Rattle.ss_model.specs.declared.entry.Entry.TheVariants.{Call, Push, Step as StepEntry, Install}
use Rattle.ss_model.specs.declared.entry.Listed.{Listed}
use Rattle.ss_model.specs.Database.{Database, Applied, apply, empty_database}
use Rattle.ss_model.specs.Replays.{Replays, after, entry_outcome}
use Rattle.ss_model.specs.Report.{client_index, Rising}
use Rattle.ss_model.specs.Partitions.{touches}
use Rattle.ss_model.specs.parts.ListLocality.{Untouched, IsApart}
use Rattle.ss_model.specs.parts.Locality.{SameApplied}
use Rattle.ss_lemmas.proofs.Bools.{first_of_two, second_of_two}
use Rattle.ss_lemmas.proofs.Dropped.{drop_longer, drop_one_more, all_left_later, all_left_more}
use Rattle.ss_lemmas.proofs.Results.{map_some}
use Rattle.ss_model.proofs.CallerLemmas.{goes_on}
use Rattle.ss_model_kept.proofs.CallerLemmas.{get_or-map_index, length-map_index}
use Rattle.ss_model_laws.proofs.CallerLemmas.{list_is_local, touched_run}
use Rattle.ss_core.specs.declared.machine.Core.{Core}
use Rattle.ss_core.specs.Commits.{is_touched, has_lower_index, is_next_index, MayCommit, known_after}
use Rattle.ss_core.specs.Invariant.{ListInvariant}
use Rattle.ss_core.proofs.RisingNumbers.{rising_front, rising_end}

-- ---- indexes

-- a client's index that passes the test is below
index_below : (client index : ℕ) (e : Entry) (rest : List ℕ) → has_lower_index client index e ≡ true → AllByRecursion (λ i. i < index) rest → AllByRecursion (λ i. i < index) (cons_option (client_index client e) rest)
index_below client index (Call c i q args) rest t h = by (c == client) t
  where
    by : (b : Bool) → cond b (nat_lt i index) true ≡ true → AllByRecursion (λ i. i < index) (cons_option (cond b (Some i) None) rest)
    by true t = (ltb-true i index t, h)
    by false t = h
index_below client index (Push c i s source seq rows) rest t h = by (c == client) t
  where
    by : (b : Bool) → cond b (nat_lt i index) true ≡ true → AllByRecursion (λ i. i < index) (cons_option (cond b (Some i) None) rest)
    by true t = (ltb-true i index t, h)
    by false t = h
index_below client index (Install c i q text) rest t h = by (c == client) t
  where
    by : (b : Bool) → cond b (nat_lt i index) true ≡ true → AllByRecursion (λ i. i < index) (cons_option (cond b (Some i) None) rest)
    by true t = (ltb-true i index t, h)
    by false t = h
index_below client index (StepEntry q r) rest t h = h

indexes_below : (client index : ℕ) (list : List Listed) → list_all (λ (l : Listed). has_lower_index client index l.entry) list ≡ true → AllByRecursion (λ i. i < index) (filter_map (λ (l : Listed). client_index client l.entry) list)
indexes_below client index [] t = tt
indexes_below client index (l ∷ ls) t =
    index_below client index l.entry _ (first_of_two (has_lower_index client index l.entry) _ t) (indexes_below client index ls (second_of_two (has_lower_index client index l.entry) _ t))

-- the indexes of a client, with those of an entry behind them
module _ (client : ℕ) (list : List Listed) (rises : Rising (filter_map (λ (l : Listed). client_index client l.entry) list)) where
  abbrev indexes : List ℕ
  indexes = filter_map (λ (l : Listed). client_index client l.entry) list

  own_index : (c i : ℕ) → list_all (λ (l : Listed). has_lower_index c i l.entry) list ≡ true → (b : Bool) → c == client ≡ b → Rising (indexes ++ cons_option (cond b (Some i) None) [])
  own_index c i t true e = rising_end indexes i rises (subst (λ k. AllByRecursion (λ j. j < i) (filter_map (λ (l : Listed). client_index k l.entry) list)) ((Decides-eqb c client).0 e) (indexes_below c i list t))
  own_index c i t false e = subst Rising (sym (append-nil indexes)) rises

  one_index_more : (e : Entry) → is_next_index e list ≡ true → Rising (indexes ++ cons_option (client_index client e) [])
  one_index_more (Call c i q args) t = own_index c i t (c == client) refl
  one_index_more (Push c i s source seq rows) t = own_index c i t (c == client) refl
  one_index_more (Install c i q text) t = own_index c i t (c == client) refl
  one_index_more (StepEntry q r) t = subst Rising (sym (append-nil indexes)) rises

-- ---- a commit

module _ (c : Core) (actor : ℕ) (l : Listed) (seen : ℕ) (may : MayCommit c actor l seen) (fits : ListInvariant c.catalog c.parts c.base c.list c.known) where
  -- a partition below the number of partitions is one of them
  is_one : (p : ℕ) → p < c.parts → is_touched c l.entry p ≡ touches c.catalog c.parts l.entry p
  is_one p below = ap (λ b. b && touches c.catalog c.parts l.entry p) (lt-ltb p c.parts below)

  -- nothing past what the actor has seen touches a partition of the entry
  apart : IsApart c.catalog c.parts (drop seen c.list) l.entry
  apart p t =
      let below = touched_run c.catalog c.parts fits.some l.entry p t in
      all_left_later _ (get_or c.known p 0) seen c.list (may.sees p (is_one p below ∙ t)) (fits.untouched p below)

  abbrev seen_database : Database
  seen_database = after c.catalog (empty_database c.catalog) (take seen c.list)

  abbrev last_database : Database
  last_database = after c.catalog (empty_database c.catalog) c.list

  -- the list goes on where the actor has seen it end
  goes_from_seen : last_database ≡ after c.catalog seen_database (drop seen c.list)
  goes_from_seen =
      ap (after c.catalog (empty_database c.catalog)) (sym (take-append-drop seen c.list))
      ∙ (goes_on c.catalog (empty_database c.catalog) (take seen c.list) (drop seen c.list)).ends

  -- so the entry comes to its outcome at the list's end
  outcome_now : entry_outcome c.catalog last_database l.entry ≡ Some l.outcome
  outcome_now =
      let (a, here, same) = map_some (λ (a : Applied). a.outcome) (apply c.catalog seen_database l.entry) l.outcome may.outcome in
      let carried = (list_is_local c.catalog fits.accepted c.parts fits.some seen_database (drop seen c.list)).carries l.entry a here apart in
      ap (λ db. entry_outcome c.catalog db l.entry) goes_from_seen ∙ there (apply c.catalog (after c.catalog seen_database (drop seen c.list)) l.entry) a same carried
    where
      there : (x : Option Applied) (a : Applied) → a.outcome ≡ l.outcome → SameApplied c.catalog c.parts l.entry (Some a) x → option_map (λ (a : Applied). a.outcome) x ≡ Some l.outcome
      there None a same h = absurd h
      there (Some b) a same h = ap Some (sym h.outcome ∙ same)

  replays_more : Replays c.catalog (empty_database c.catalog) (c.list ++ l ∷ [])
  replays_more = (goes_on c.catalog (empty_database c.catalog) c.list (l ∷ [])).joins fits.replays (outcome_now, tt)

  in_turn_more : (client : ℕ) → Rising (filter_map (λ (k : Listed). client_index client k.entry) (drop c.base (c.list ++ l ∷ [])))
  in_turn_more client = by (drop_one_more c.base c.list l)
    where
      by : (drop c.base (c.list ++ l ∷ []) ≡ drop c.base c.list ++ l ∷ []) ⊎ (drop c.base (c.list ++ l ∷ []) ≡ []) → Rising (filter_map (λ (k : Listed). client_index client k.entry) (drop c.base (c.list ++ l ∷ [])))
      by (inl e) =
          subst (λ list. Rising (filter_map (λ (k : Listed). client_index client k.entry) list)) (sym e)
          (subst Rising (sym (filter_map-append (λ (k : Listed). client_index client k.entry) (drop c.base c.list) (l ∷ [])))
          (one_index_more client (drop c.base c.list) (fits.in_turn client) l.entry may.in_turn))
      by (inr e) = subst (λ list. Rising (filter_map (λ (k : Listed). client_index client k.entry) list)) (sym e) tt

  known_more : (part : ℕ) → part < c.parts → Untouched c.catalog c.parts (drop (get_or (known_after c l.entry (length c.list + 1)) part 0) (c.list ++ l ∷ [])) part
  known_more part below =
      subst (λ n. AllByRecursion (λ (k : Listed). touches c.catalog c.parts k.entry part ≡ false) (drop n (c.list ++ l ∷ [])))
      (sym (get_or-map_index _ c.known part 0 0 (let e = fits.each_part in omega arith)))
      (by (is_touched c l.entry part) refl)
    where
      by : (b : Bool) → is_touched c l.entry part ≡ b → AllByRecursion (λ (k : Listed). touches c.catalog c.parts k.entry part ≡ false) (drop (cond b (length c.list + 1) (get_or c.known part 0)) (c.list ++ l ∷ []))
      by true e = subst (AllByRecursion (λ (k : Listed). touches c.catalog c.parts k.entry part ≡ false)) (sym (drop_all (length c.list + 1) (c.list ++ l ∷ []) (let h = length-append c.list (l ∷ []) in omega arith))) tt
      by false e = all_left_more _ (get_or c.known part 0) c.list l (fits.untouched part below) (sym (is_one part below) ∙ e)

  pub committed_fits : ListInvariant c.catalog c.parts c.base (c.list ++ l ∷ []) (known_after c l.entry (length c.list + 1))
  committed_fits = record {
    accepted = fits.accepted;
    some = fits.some;
    each_part = length-map_index _ c.known ∙ fits.each_part;
    replays = replays_more;
    in_turn = in_turn_more;
    untouched = known_more;
  }

-- ---- a recovery

module _ (catalog : Catalog) (parts base : ℕ) (list : List Listed) (known : List ℕ) (n : ℕ) (fits : ListInvariant catalog parts base list known) where
  in_turn_less : (client : ℕ) → Rising (filter_map (λ (k : Listed). client_index client k.entry) (drop base (take n list)))
  in_turn_less client =
      let longer = drop_longer base (take n list) (drop n list) in
      let cut : drop base list ≡ drop base (take n list) ++ longer.0 = ap (drop base) (sym (take-append-drop n list)) ∙ longer.1 in
      rising_front _ (filter_map (λ (k : Listed). client_index client k.entry) longer.0)
      (subst Rising (ap (filter_map (λ (k : Listed). client_index client k.entry)) cut ∙ filter_map-append (λ (k : Listed). client_index client k.entry) (drop base (take n list)) longer.0) (fits.in_turn client))

  pub recovered_fits : ListInvariant catalog parts base (take n list) (map (λ old. length (take n list)) known)
  recovered_fits = record {
    accepted = fits.accepted;
    some = fits.some;
    each_part = length-map known _ ∙ fits.each_part;
    replays = ((goes_on catalog (empty_database catalog) (take n list) (drop n list)).splits (subst (Replays catalog (empty_database catalog)) (sym (take-append-drop n list)) fits.replays)).0;
    in_turn = in_turn_less;
    untouched = λ part below.
        subst (λ m. AllByRecursion (λ (k : Listed). touches catalog parts k.entry part ≡ false) (drop m (take n list)))
        (sym (get_or-map (λ old. length (take n list)) known part 0 0 (let e = fits.each_part in omega arith)))
        (subst (AllByRecursion (λ (k : Listed). touches catalog parts k.entry part ≡ false)) (sym (drop_all (length (take n list)) (take n list) (omega arith))) tt);
  }
