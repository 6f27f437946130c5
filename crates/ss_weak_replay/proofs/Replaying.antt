-- Weak lists, entry by entry.
use Rattle.std.proofs.Common.{◌≡◌, ◌<◌, ◌≤◌, ◌+◌, ◌^◌, ◌∙◌, inl, inr, ⊎_elim, ℕ, suc, Bool, true, false, List, [], ◌∷◌, ◌++◌, None, Some, length, take, slice_get, append_assoc, length-append, ap, arith, refl, sym, subst, take_at}
use Rattle.ss_model.specs.declared.catalog.Catalog.{Catalog}
use Rattle.ss_model.specs.declared.entry.Entry.{Entry}
use Rattle.ss_model.specs.declared.entry.Listed.{Listed}
use Rattle.ss_model.specs.declared.entry.Outcome.TheVariants.{Done}
use Rattle.ss_model.specs.Accepted.{Accepted}
use Rattle.ss_model.specs.Asked.{listed_entries}
use Rattle.ss_model.specs.Database.{Database as Model, apply}
use Rattle.ss_model.specs.Replays.{after, database_after}
use Rattle.ss_model.specs.Settled.{SettlingTerminates}
use Rattle.ss_model.specs.Settling.{IsWeakList, Settles, after_entries}
use Rattle.ss_model.proofs.CallerLemmas.{goes_on}
use Rattle.ss_model_laws.proofs.CallerLemmas.{whole_after}
use Rattle.ss_weak_lists.specs.Stops.{PassesLast, StopsAt, StopsBehind}
use Rattle.ss_weak_lists.specs.WeakLists.{WeakListsGrow}
use Rattle.ss_weak_lists.proofs.CallerLemmas.{after_is}
use Rattle.ss_shard.specs.declared.database.Database.{Database}
use Rattle.ss_shard.specs.Databases.{StandsFor}
use Rattle.ss_replay.specs.Replaying.{CanTake, DoesNotReplay, IsOnAt, IsReplayed}
use Rattle.ss_replay.proofs.CallerLemmas.{stands_behind}
use Rattle.ss_weak_replay.specs.WeakReplaying.{IsListedBehind, IsRunBehind, IsSettledBehind, IsWeaklyReplayed, RunsBehind, SettlesBehind}
use Rattle.ss_weak_replay.proofs.SettledLists.{entries_behind}

-- ---- one entry

-- a database can take one entry more, where this has its place
pub can_take : (catalog : Catalog) (d : Model) (database : Database) (place : ℕ) → IsOnAt catalog database place d → place < 2 ^ 60 → CanTake catalog database d
can_take catalog d database place on few = record { on = on.on; place = place; had = on.had; few = few }

module _ (catalog : Catalog) (accepted : Accepted catalog) (d : Model) (e : Entry) (old : List Listed) (begun : Database) (first : ℕ) (on : IsOnAt catalog begun (first + length old) d) where
  -- where an entry doesn't replay a weak replay stops, also where it has no place: its steps would pass the last one all the more
  pub stops_at : SettlingTerminates → DoesNotReplay catalog d (first + length old) e → StopsAt catalog d (first + length old) e
  stops_at terminates not = ⊎_elim
      (λ (last : first + length old ≡ 2 ^ 60).
      let all = terminates catalog accepted (database_after catalog d e) (whole_after catalog accepted d (record { entry = e; outcome = Done [] } ∷ []) on.on.whole).in_step in
      inr (record { steps = all.list; settles = all.settles; past = omega (arith, last) }))
      (λ (none : apply catalog d e ≡ None). inl none)
      not

  module _ (mid : List Listed) (now : Database) (listed : IsListedBehind catalog d e old mid now) where
    one_ran : IsReplayed catalog d (record { entry = e; outcome = listed.outcome } ∷ []) now
    one_ran = record { replays = (listed.gives, tt); stands = listed.stands }

    many : length mid ≡ length old + 1
    many = ap (λ (l : List Listed). length l) listed.is ∙ length-append old (record { entry = e; outcome = listed.outcome } ∷ [])

    -- the database behind it stands one place further
    pub stands_one : IsOnAt catalog now (first + length mid) (database_after catalog d e)
    stands_one = subst (λ (n : ℕ). IsOnAt catalog now n (database_after catalog d e)) (omega (arith, many)) (stands_behind catalog accepted begun now (first + length old) d (record { entry = e; outcome = listed.outcome } ∷ []) on one_ran)

    -- its steps run behind it
    run_behind : (new : List Listed) (later : Database) → IsSettledBehind catalog (database_after catalog d e) mid new later → IsRunBehind catalog d e old new later
    run_behind new later settled = record {
      outcome = listed.outcome;
      steps = settled.steps;
      is = settled.is ∙ ap (λ (l : List Listed). l ++ settled.steps) listed.is ∙ append_assoc old (record { entry = e; outcome = listed.outcome } ∷ []) settled.steps;
      settles = settled.settles;
      replayed = record { replays = (listed.gives, settled.replayed.replays); stands = settled.replayed.stands };
    }

    -- or have no places
    stops_behind : PassesLast catalog (database_after catalog d e) (first + length mid) → StopsAt catalog d (first + length old) e
    stops_behind passes = inr (record { steps = passes.steps; settles = passes.settles; past = omega (arith, passes.past, many) })

    pub runs_on : (new : List Listed) (later : Database) (all : Bool) → SettlesBehind catalog (database_after catalog d e) (first + length mid) mid new later all → RunsBehind catalog d (first + length old) e old new later all
    runs_on new later true settled = run_behind new later settled
    runs_on new later false passes = stops_behind passes

-- an entry makes its list longer
pub more_entries : (catalog : Catalog) (d : Model) (e : Entry) (old new : List Listed) (database : Database) (before : ℕ) → before ≤ length old → IsRunBehind catalog d e old new database → before + 1 ≤ length new
more_entries catalog d e old new database before few ran =
    let many : length new ≡ length old + suc (length ran.steps) = ap (λ (l : List Listed). length l) ran.is ∙ length-append old (record { entry = e; outcome = ran.outcome } ∷ ran.steps) in
    omega (arith, few, many)

-- ---- entries

-- settling before the first one passes the last place
pub passes_first : (catalog : Catalog) (d : Model) (first : ℕ) (list : List Listed) → list ≡ [] → PassesLast catalog d (first + length list) → PassesLast catalog d first
passes_first catalog d first list none passes = record { steps = passes.steps; settles = passes.settles; past = omega (arith, passes.past, ap (λ (l : List Listed). length l) none) }

-- before the first one
pub begins : (catalog : Catalog) (d : Model) (first : ℕ) (old new : List Listed) (database : Database) → old ≡ [] → first + length new ≤ 2 ^ 60 → IsSettledBehind catalog d old new database → IsWeaklyReplayed catalog d first [] new database
begins catalog d first old new database none few settled =
    let same : settled.steps ≡ new = sym (settled.is ∙ ap (λ (l : List Listed). l ++ settled.steps) none) in
    record { is_weak = subst (λ (l : List Listed). Settles catalog d (listed_entries l)) same settled.settles; few = few; replayed = subst (λ (l : List Listed). IsReplayed catalog d l database) same settled.replayed }

module _ (catalog : Catalog) (accepted : Accepted catalog) (d : Model) (first : ℕ) (front : List Entry) (list : List Listed) (now : Database) (so_far : IsWeaklyReplayed catalog d first front list now) where
  -- one entry more, with its steps
  pub goes_on_weakly : WeakListsGrow → (e : Entry) (new : List Listed) (later : Database) → first + length new ≤ 2 ^ 60 → IsRunBehind catalog (after catalog d list) e list new later → IsWeaklyReplayed catalog d first (front ++ e ∷ []) new later
  goes_on_weakly grows e new later few ran =
      let more : List Listed = record { entry = e; outcome = ran.outcome } ∷ ran.steps in
      let on = goes_on catalog d list more in
      let settles : Settles catalog (database_after catalog (after_entries catalog d (listed_entries list)) e) (listed_entries ran.steps) = subst (λ (x : Model). Settles catalog (database_after catalog x e) (listed_entries ran.steps)) (after_is catalog d list) ran.settles in
      let weak = grows catalog d front (listed_entries list) e (listed_entries ran.steps) so_far.is_weak settles in
      let entries : listed_entries list ++ e ∷ listed_entries ran.steps ≡ listed_entries new = sym (entries_behind list more) ∙ ap listed_entries (sym ran.is) in
      record {
        is_weak = subst (IsWeakList catalog d (front ++ e ∷ [])) entries weak;
        few = few;
        replayed = subst (λ (l : List Listed). IsReplayed catalog d l later) (sym ran.is)
            (record { replays = on.joins so_far.replayed.replays ran.replayed.replays; stands = subst (StandsFor catalog later) (sym on.ends) ran.replayed.stands });
      }

  -- a replay stops at the next one
  pub stops_next : (e : Entry) (rest entries : List Entry) → front ++ e ∷ rest ≡ entries → StopsAt catalog (after catalog d list) (first + length list) e → StopsBehind catalog d first entries (length front)
  stops_next e rest entries is stops =
      let taken : front ≡ take (length front) entries = sym (take_at front (e ∷ rest) (length front) refl) ∙ ap (take (length front)) is in
      record {
        before = record {
          list = list;
          is_weak = subst (λ (es : List Entry). IsWeakList catalog d es (listed_entries list)) taken so_far.is_weak;
          replays = so_far.replayed.replays;
          few = so_far.few;
        };
        entry = e;
        there = ap (λ (es : List Entry). slice_get es (length front)) (sym is) ∙ there front;
        stops = stops;
      }
    where
      there : (es : List Entry) → slice_get (es ++ (e ∷ rest)) (length es) ≡ Some e
      there [] = refl
      there (x ∷ es) = there es

-- so many entries are in front of the rest, and the list is the weak one of them on each database that the first one stood for
pub record FrontReplayed (catalog : Catalog) (begun : Database) (first : ℕ) (entries rest : List Entry) (before : ℕ) (list : List Listed) (now : Database) : Type 0 where
  pub front : List Entry
  pub left : front ++ rest ≡ entries
  pub many : length front ≡ before
  pub replayed : (d : Model) → IsOnAt catalog begun first d → IsWeaklyReplayed catalog d first front list now

-- before the first one a list without an entry has no place
pub at_first : (catalog : Catalog) (database : Database) (first : ℕ) (d : Model) (list : List Listed) → list ≡ [] → IsOnAt catalog database first d → IsOnAt catalog database (first + length list) d
at_first catalog database first d list none on = subst (λ (n : ℕ). IsOnAt catalog database n d) (omega (arith, ap (λ (l : List Listed). length l) none)) on

module _ (catalog : Catalog) (accepted : Accepted catalog) (begun now : Database) (first : ℕ) (entries rest : List Entry) (before : ℕ) (list : List Listed) (far : FrontReplayed catalog begun first entries rest before list now) where
  -- the database behind the list stands so many places further
  pub stands_after : (d : Model) → IsOnAt catalog begun first d → IsOnAt catalog now (first + length list) (after catalog d list)
  stands_after d on = stands_behind catalog accepted begun now first d list on (far.replayed d on).replayed

  -- one entry more, with its steps
  pub front_more : WeakListsGrow → (e : Entry) (others : List Entry) (new : List Listed) (later : Database) → rest ≡ e ∷ others → first + length new ≤ 2 ^ 60
      → ((d : Model) → IsOnAt catalog now (first + length list) d → IsRunBehind catalog d e list new later) → FrontReplayed catalog begun first entries others (before + 1) new later
  front_more grows e others new later is few ran = record {
    front = far.front ++ e ∷ [];
    left = append_assoc far.front (e ∷ []) others ∙ ap (λ (es : List Entry). far.front ++ es) (sym is) ∙ far.left;
    many = length-append far.front (e ∷ []) ∙ ap (λ (n : ℕ). n + 1) far.many;
    replayed = λ d on. goes_on_weakly catalog accepted d first far.front list now (far.replayed d on) grows e new later few (ran (after catalog d list) (stands_after d on));
  }

  -- a replay stops at the next one
  pub stops_there : (e : Entry) (others : List Entry) → rest ≡ e ∷ others → ((d : Model) → IsOnAt catalog now (first + length list) d → StopsAt catalog d (first + length list) e)
      → (d : Model) → IsOnAt catalog begun first d → StopsBehind catalog d first entries before
  stops_there e others is stops d on = subst (StopsBehind catalog d first entries) far.many
      (stops_next catalog accepted d first far.front list now (far.replayed d on) e others entries (ap (λ (es : List Entry). far.front ++ es) (sym is) ∙ far.left) (stops (after catalog d list) (stands_after d on)))
