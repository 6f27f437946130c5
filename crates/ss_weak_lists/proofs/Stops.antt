-- A weak replay stops in one way.
use Rattle.std.proofs.Common.{◌≡◌, ◌∙◌, ⊎_elim, ℕ, zero, suc, ◌+◌, ◌≤◌, ◌<◌, ◌^◌, List, [], ◌∷◌, ◌++◌, length, take, slice_get, Some, None, unwrap_or, refl, sym, ap, subst, arith, append_assoc, append-nil, length-append, take_all}
use Rattle.std.proofs.lemmas.List.{length-map}
use Rattle.std.specs.Option.{option_map}
use Rattle.std.proofs.lemmas.Bool.{cases_lt}
use Rattle.ss_model.specs.declared.catalog.Catalog.{Catalog}
use Rattle.ss_model.specs.declared.entry.Entry.{Entry}
use Rattle.ss_model.specs.declared.entry.Entry.TheVariants.{Step as StepEntry}
use Rattle.ss_model.specs.declared.entry.Listed.{Listed}
use Rattle.ss_model.specs.Accepted.{Accepted}
use Rattle.ss_model.specs.Database.{Database, Applied, apply, batch_count}
use Rattle.ss_model.specs.InStep.{IsInStep}
use Rattle.ss_model.specs.Replays.{Replays, database_after, after}
use Rattle.ss_model.specs.Settled.{SettlesOn, SettlingTerminates}
use Rattle.ss_model.specs.Settling.{Settles, IsWeakList, after_entries, next_settled}
use Rattle.ss_model.specs.Asked.{listed_entries}
use Rattle.ss_weak_lists.proofs.WeakLists.{after_is, entries_append}
use Rattle.ss_weak_lists.specs.Stops.{PassesLast, StopsAt, ReplaysWeakly, StopsBehind, StopsOnce}

module _ (catalog : Catalog) where
  -- ---- settling

  -- two lists that settling runs are one
  settles_one : (list other : List Entry) (db : Database) → Settles catalog db list → Settles catalog db other → other ≡ list
  settles_one [] [] db h k = refl
  settles_one [] (f ∷ fs) db h k = let no : None ≡ Some k.0 = sym h ∙ k.1 in cc
  settles_one (e ∷ es) [] db h k = let no : None ≡ Some h.0 = sym k ∙ h.1 in cc
  settles_one (e ∷ es) (f ∷ fs) db h k =
      let same_q : k.0 ≡ h.0 = ap (λ o. unwrap_or o k.0) (sym k.1 ∙ h.1) in
      let same : f ≡ e = k.2 ∙ ap (λ q. StepEntry q (batch_count db q)) same_q ∙ sym h.2 in
      let rest = settles_one es fs (database_after catalog db e) h.3 (subst (λ z. Settles catalog (database_after catalog db z) fs) same k.3) in
      λ i. same i ∷ rest i

  -- what settling runs is longer than steps behind which there is a next one
  longer : (steps list : List Entry) (db : Database) (q : ℕ) → SettlesOn catalog db steps → next_settled catalog (after_entries catalog db steps) ≡ Some q → Settles catalog db list → length steps < length list
  longer [] [] db q on next h = let no : None ≡ Some q = sym h ∙ next in cc
  longer [] (e ∷ es) db q on next h = omega arith
  longer (e ∷ es) [] db q on next h = let no : None ≡ Some on.0 = sym h ∙ on.1 in cc
  longer (e ∷ es) (f ∷ fs) db q on next h =
      let same_q : on.0 ≡ h.0 = ap (λ o. unwrap_or o on.0) (sym on.1 ∙ h.1) in
      let same : f ≡ e = h.2 ∙ ap (λ p. StepEntry p (batch_count db p)) (sym same_q) ∙ sym on.2 in
      let rest = longer es fs (database_after catalog db e) q on.3 next (subst (λ z. Settles catalog (database_after catalog db z) fs) same h.3) in
      omega (arith, rest)

  pub loops_pass : SettlingTerminates → Accepted catalog → (db : Database) → IsInStep catalog db → (steps : List Entry) → SettlesOn catalog db steps → (q : ℕ)
      → next_settled catalog (after_entries catalog db steps) ≡ Some q → (place : ℕ) → 2 ^ 60 ≤ place + length steps → PassesLast catalog db place
  loops_pass ends accepted db in_step steps on q next place full =
      let all = ends catalog accepted db in_step in
      record { steps = all.list; settles = all.settles; past = omega (arith, full, longer steps all.list db q on next all.settles) }

  -- ---- weak lists

  -- a weak list begins with what settling runs
  begins : (entries : List Entry) (db : Database) (list : List Entry) → IsWeakList catalog db entries list → (steps rest : List Entry) × (list ≡ steps ++ rest) × Settles catalog db steps
  begins [] db list h = (list, [], sym (append-nil list), h)
  begins (e ∷ es) db list h = (h.0, e ∷ h.1, h.2, h.3)

  -- a weak list of some entries, of one more, and of others behind it: the list of the first ones, the entry, what settling runs then, and more
  record Fronted (db : Database) (front : List Entry) (e : Entry) (list : List Entry) : Type 0 where
    steps : List Entry
    rest : List Entry
    is : list ≡ front ++ e ∷ (steps ++ rest)
    settles : Settles catalog (database_after catalog (after_entries catalog db front) e) steps

  fronted : (es fs : List Entry) (e : Entry) (db : Database) (front list : List Entry) → IsWeakList catalog db es front → IsWeakList catalog db (es ++ e ∷ fs) list → Fronted db front e list
  fronted [] fs e db front list h k =
      let same : k.0 ≡ front = settles_one front k.0 db h k.3 in
      let mid = database_after catalog (after_entries catalog db k.0) e in
      let b = begins fs mid k.1 k.4 in
      record {
        steps = b.0;
        rest = b.1;
        is = k.2 ∙ (λ i. same i ++ e ∷ b.2 i);
        settles = subst (λ z. Settles catalog (database_after catalog (after_entries catalog db z) e) b.0) same b.3;
      }
  fronted (f ∷ es) fs e db front list h k =
      let same : k.0 ≡ h.0 = settles_one h.0 k.0 db h.3 k.3 in
      let mid = database_after catalog (after_entries catalog db h.0) f in
      let later = fronted es fs e mid h.1 k.1 h.4 (subst (λ z. IsWeakList catalog (database_after catalog (after_entries catalog db z) f) (es ++ e ∷ fs) k.1) same k.4) in
      let end : after_entries catalog mid h.1 ≡ after_entries catalog db front = sym (ap (after_entries catalog db) h.2 ∙ entries_append catalog db h.0 (f ∷ h.1)) in
      record {
        steps = later.steps;
        rest = later.rest;
        is = k.2 ∙ (λ i. same i ++ f ∷ later.is i) ∙ sym (append_assoc h.0 (f ∷ h.1) (e ∷ (later.steps ++ later.rest))) ∙ ap (λ z. z ++ e ∷ (later.steps ++ later.rest)) (sym h.2);
        settles = subst (λ z. Settles catalog (database_after catalog z e) later.steps) end later.settles;
      }

  -- ---- what replays has values

  -- behind the first entries of a list that replays the next one has a value
  next_valued : (front rest : List Entry) (e : Entry) (list : List Listed) (db : Database) → listed_entries list ≡ front ++ e ∷ rest → Replays catalog db list → apply catalog (after_entries catalog db front) e ≡ None → ⊥
  next_valued [] rest e [] db is r none = cc
  next_valued [] rest e (l ∷ ls) db is r none =
      let here : l.entry ≡ e = cc in
      let no : option_map (λ (a : Applied). a.outcome) (apply catalog db l.entry) ≡ None = ap (option_map (λ (a : Applied). a.outcome)) (ap (apply catalog db) here ∙ none) in
      let both : None ≡ Some l.outcome = sym no ∙ r.0 in cc
  next_valued (f ∷ front) rest e [] db is r none = cc
  next_valued (f ∷ front) rest e (l ∷ ls) db is r none =
      let here : l.entry ≡ f = cc in
      let there : listed_entries ls ≡ front ++ e ∷ rest = cc in
      next_valued front rest e ls (database_after catalog db f) there (subst (λ z. Replays catalog (database_after catalog db z) ls) here r.1) none

  -- entries that replay with one more don't stop at this one
  replays_on : (db : Database) (first : ℕ) (es fs : List Entry) (e : Entry) → (front : ReplaysWeakly catalog db first es) → ReplaysWeakly catalog db first (es ++ e ∷ fs)
      → StopsAt catalog (after catalog db front.list) (first + length front.list) e → ⊥
  replays_on db first es fs e front all stops =
      let parts = fronted es fs e db (listed_entries front.list) (listed_entries all.list) front.is_weak all.is_weak in
      let same : after catalog db front.list ≡ after_entries catalog db (listed_entries front.list) = after_is catalog db front.list in
      ⊎_elim
      (λ (none : apply catalog (after catalog db front.list) e ≡ None).
      next_valued (listed_entries front.list) (parts.steps ++ parts.rest) e all.list db parts.is all.replays (ap (λ d. apply catalog d e) (sym same) ∙ none))
      (λ (passes : PassesLast catalog (database_after catalog (after catalog db front.list) e) (first + length front.list + 1)).
      let settles : Settles catalog (database_after catalog (after catalog db front.list) e) parts.steps = subst (λ d. Settles catalog (database_after catalog d e) parts.steps) (sym same) parts.settles in
      let steps : parts.steps ≡ passes.steps = settles_one passes.steps parts.steps (database_after catalog (after catalog db front.list) e) passes.settles settles in
      let long : length (listed_entries all.list) ≡ length (listed_entries front.list) + suc (length parts.steps + length parts.rest) =
      ap length parts.is ∙ length-append (listed_entries front.list) (e ∷ (parts.steps ++ parts.rest)) ∙ ap (λ n. length (listed_entries front.list) + suc n) (length-append parts.steps parts.rest) in
      absurd (omega (arith, all.few, passes.past, long, ap length steps, length-map all.list (λ (l : Listed). l.entry), length-map front.list (λ (l : Listed). l.entry))))
      stops

  -- ---- stops

  -- the entries up to a later one are the first ones, the one behind them, and others
  between : (m n : ℕ) (entries : List Entry) (e : Entry) → m < n → slice_get entries m ≡ Some e → (fs : List Entry) × (take n entries ≡ take m entries ++ e ∷ fs)
  between m zero entries e lt there = absurd (omega (arith, lt))
  between m (suc n) [] e lt there = cc
  between zero (suc n) (x ∷ xs) e lt there = let here : x ≡ e = cc in (take n xs, ap (λ z. z ∷ take n xs) here)
  between (suc m) (suc n) (x ∷ xs) e lt there =
      let later = between m n xs e (omega (arith, lt)) there in
      (later.0, ap (λ z. x ∷ z) later.1)

  -- an earlier stop than the end of what replays
  no_earlier : (db : Database) (first : ℕ) (entries : List Entry) (m n : ℕ) → m < n → StopsBehind catalog db first entries m → ReplaysWeakly catalog db first (take n entries) → ⊥
  no_earlier db first entries m n lt stop all =
      let part = between m n entries stop.entry lt stop.there in
      replays_on db first (take m entries) part.0 stop.entry stop.before (subst (ReplaysWeakly catalog db first) part.1 all) stop.stops

  one_stop : (db : Database) (first : ℕ) (entries : List Entry) (m n : ℕ) → StopsBehind catalog db first entries m → StopsBehind catalog db first entries n → m ≡ n
  one_stop db first entries m n a b = ⊎_elim
      (λ (lt : m < n). absurd (no_earlier db first entries m n lt a b.before))
      (λ (le : n ≤ m). ⊎_elim
      (λ (lt : n < m). absurd (no_earlier db first entries n m lt b a.before))
      (λ (ge : m ≤ n). omega (arith, le, ge))
      (cases_lt n m))
      (cases_lt m n)

  -- a place of a list is in it
  there_within : (n : ℕ) (entries : List Entry) (e : Entry) → slice_get entries n ≡ Some e → n < length entries
  there_within n [] e there = cc
  there_within zero (x ∷ xs) e there = omega arith
  there_within (suc n) (x ∷ xs) e there = let later = there_within n xs e there in omega (arith, later)

  no_stop : (db : Database) (first : ℕ) (entries : List Entry) (n : ℕ) → ReplaysWeakly catalog db first entries → StopsBehind catalog db first entries n → ⊥
  no_stop db first entries n all stop =
      no_earlier db first entries n (length entries) (there_within n entries stop.entry stop.there) stop (subst (ReplaysWeakly catalog db first) (sym (take_all (length entries) entries (omega arith))) all)

  unsettled : (db : Database) (first : ℕ) (some : List Entry) → PassesLast catalog db first → ReplaysWeakly catalog db first some → ⊥
  unsettled db first some passes all =
      let b = begins some db (listed_entries all.list) all.is_weak in
      let steps : b.0 ≡ passes.steps = settles_one passes.steps b.0 db passes.settles b.3 in
      omega (arith, all.few, passes.past, ap length steps, ap length b.2, length-append b.0 b.1, length-map all.list (λ (l : Listed). l.entry))

  pub stops_once : (db : Database) (first : ℕ) (entries : List Entry) → StopsOnce catalog db first entries
  stops_once db first entries = record {
    one_stop = λ m n a b. one_stop db first entries m n a b;
    no_stop = λ n all stop. no_stop db first entries n all stop;
    unsettled = λ some passes all. unsettled db first some passes all;
  }
