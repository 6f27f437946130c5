-- Where entries stop on a database they stop on each other of which the same is kept.
use Rattle.std.proofs.Common.{◌≡◌, ⊎_elim, inl, inr, ◌+◌, ◌^◌, ℕ, List, [], ◌∷◌, length, take, Option, Some, None, refl}
use Rattle.ss_model.specs.declared.catalog.Catalog.{Catalog}
use Rattle.ss_model.specs.declared.entry.Entry.{Entry}
use Rattle.ss_model.specs.declared.entry.Listed.{Listed}
use Rattle.ss_model.specs.declared.entry.Mode.{Mode}
use Rattle.ss_model.specs.declared.entry.Mode.TheVariants.{Strong, Weak}
use Rattle.ss_model.specs.declared.entry.Outcome.TheVariants.{Done}
use Rattle.ss_model.specs.Database.{Applied, Database as Model, apply}
use Rattle.ss_model.specs.Replays.{after, database_after}
use Rattle.ss_model.specs.Settling.{SameKeptApplied, kept}
use Rattle.ss_model_kept.proofs.CallerLemmas.{kept_is_enough}
use Rattle.ss_model_laws.proofs.CallerLemmas.{kept_carries}
use Rattle.ss_weak_lists.specs.Stops.{PassesLast, StopsAt}
use Rattle.ss_weak_lists.specs.Stops as weakly
use Rattle.ss_weak_lists.specs.WeakLists.{KeptCarriesWeak}
use Rattle.ss_standing.specs.Standing.{listed_entries}
use Rattle.ss_replay.specs.Replaying.{StopsBehind}
use Rattle.ss_recover.specs.Faults.{StopsAfter}

-- what has no value on the one has none on the other
no_value_either : (catalog : Catalog) (x y : Model) → kept catalog x ≡ kept catalog y → (e : Entry) → apply catalog x e ≡ None → apply catalog y e ≡ None
no_value_either catalog x y same e none = by (apply catalog x e) (apply catalog y e) (kept_is_enough catalog x y same e) none
  where
    by : (a b : Option Applied) → SameKeptApplied catalog a b → a ≡ None → b ≡ None
    by None None alike is = refl
    by None (Some b) alike is = absurd alike
    by (Some a) b alike is = absurd (cc)

-- a list that stops on the one stops on the other
stops_either : (catalog : Catalog) (x y : Model) → kept catalog x ≡ kept catalog y → (first : ℕ) (entries : List Entry) (list : List Listed) → StopsBehind catalog x first entries list → StopsBehind catalog y first entries list
stops_either catalog x y same first entries list stops =
    let carried = kept_carries catalog x y same list in
    record {
      before = stops.before;
      replays = carried.replays stops.replays;
      few = stops.few;
      entry = stops.entry;
      there = stops.there;
      stops = ⊎_elim (λ (last : first + length list ≡ 2 ^ 60). inl last) (λ (none : apply catalog (after catalog x list) stops.entry ≡ None). inr (no_value_either catalog (after catalog x list) (after catalog y list) carried.after stops.entry none)) stops.stops;
    }

module _ (carries : KeptCarriesWeak) (catalog : Catalog) where
  pub passes_either : (x y : Model) → kept catalog x ≡ kept catalog y → (place : ℕ) → PassesLast catalog x place → PassesLast catalog y place
  passes_either x y same place passes = record { steps = passes.steps; settles = (carries catalog x y same).settles passes.steps passes.settles; past = passes.past }

  -- where an entry stops on the one it stops on the other
  stops_at_either : (x y : Model) → kept catalog x ≡ kept catalog y → (place : ℕ) (e : Entry) → StopsAt catalog x place e → StopsAt catalog y place e
  stops_at_either x y same place e stops = ⊎_elim
      (λ (none : apply catalog x e ≡ None). inl (no_value_either catalog x y same e none))
      (λ (passes : PassesLast catalog (database_after catalog x e) (place + 1)).
      inr (passes_either (database_after catalog x e) (database_after catalog y e) (kept_carries catalog x y same (record { entry = e; outcome = Done [] } ∷ [])).after (place + 1) passes))
      stops

  weakly_either : (x y : Model) → kept catalog x ≡ kept catalog y → (first : ℕ) (entries : List Entry) (n : ℕ) → weakly.StopsBehind catalog x first entries n → weakly.StopsBehind catalog y first entries n
  weakly_either x y same first entries n stops =
      let front = stops.before in
      let carried = kept_carries catalog x y same front.list in
      record {
        before = record { list = front.list; is_weak = (carries catalog x y same).weak (take n entries) (listed_entries front.list) front.is_weak; replays = carried.replays front.replays; few = front.few };
        entry = stops.entry;
        there = stops.there;
        stops = stops_at_either (after catalog x front.list) (after catalog y front.list) carried.after (first + length front.list) stops.entry stops.stops;
      }

  pub after_either : (mode : Mode) (x y : Model) → kept catalog x ≡ kept catalog y → (first : ℕ) (entries : List Entry) (n : ℕ) → StopsAfter mode catalog x first entries n → StopsAfter mode catalog y first entries n
  after_either Strong x y same first entries n stops = (let (list, is, behind) = stops in (list, is, stops_either catalog x y same first entries list behind))
  after_either Weak x y same first entries n stops = weakly_either x y same first entries n stops
