-- One entry more behind those that have replayed.
use Rattle.std.proofs.Common.{◌≡◌, ◌<◌, ◌≤◌, ◌+◌, ◌^◌, ◌∙◌, ℕ, List, [], ◌∷◌, ◌++◌, Some, length, map, take, slice_get, unwrap_or, ap, refl, sym, subst, take_at}
use Rattle.std.proofs.lemmas.List.{length-map, map-append, append_assoc}
use Rattle.std.specs.declared.option.Option.{Option}
use Rattle.std.specs.Option.{option_map}
use Rattle.ss_model.specs.declared.catalog.Catalog.{Catalog}
use Rattle.ss_model.specs.declared.entry.Entry.{Entry}
use Rattle.ss_model.specs.declared.entry.Listed.{Listed}
use Rattle.ss_model.specs.declared.entry.Outcome.{Outcome}
use Rattle.ss_model.specs.Accepted.{Accepted}
use Rattle.ss_model.specs.Database.{Database as Model, Applied, apply}
use Rattle.ss_model.specs.Replays.{after, database_after, entry_outcome}
use Rattle.ss_model.proofs.CallerLemmas.{goes_on}
use Rattle.ss_model_laws.proofs.CallerLemmas.{had_at_most, whole_after}
use Rattle.ss_shard.specs.declared.database.Database.{Database}
use Rattle.ss_shard.specs.Databases.{StandsFor}
use Rattle.ss_replay.specs.Replaying.{IsOnAt, CanTake, IsReplayed, StopsBehind, DoesNotReplay}

-- ---- the entries that are left

-- the next one replays, and is left no more
pub one_replayed : (list : List Listed) (l : Listed) (rest entries : List Entry) → map (λ (l : Listed). l.entry) list ++ (l.entry ∷ rest) ≡ entries → map (λ (l : Listed). l.entry) (list ++ l ∷ []) ++ rest ≡ entries
one_replayed list l rest entries is = ap (λ (es : List Entry). es ++ rest) (map-append (λ (l : Listed). l.entry) list (l ∷ [])) ∙ append_assoc (map (λ (l : Listed). l.entry) list) (l.entry ∷ []) rest ∙ is

-- the entry behind a list
behind : (es : List Entry) (e : Entry) (rest : List Entry) → slice_get (es ++ (e ∷ rest)) (length es) ≡ Some e
behind [] e rest = refl
behind (x ∷ es) e rest = behind es e rest

-- ---- what stands on the way

module _ (catalog : Catalog) (accepted : Accepted catalog) where
  -- the database behind a list stands so many places further
  pub stands_behind : (old new : Database) (first : ℕ) (d : Model) (list : List Listed) → IsOnAt catalog old first d → IsReplayed catalog d list new → IsOnAt catalog new (first + length list) (after catalog d list)
  stands_behind old new first d list on replayed = record {
    on = record { stands = replayed.stands; whole = whole_after catalog accepted d list on.on.whole };
    had = had_at_most catalog accepted d on.on.whole first on.had.streams list;
  }

  -- and can take one more, where this has its place
  pub takes_next : (old new : Database) (first : ℕ) (d : Model) (list : List Listed) → IsOnAt catalog old first d → IsReplayed catalog d list new → first + length list < 2 ^ 60 → CanTake catalog new (after catalog d list)
  takes_next old new first d list on replayed few =
      let behind = stands_behind old new first d list on replayed in
      record { on = behind.on; place = first + length list; had = behind.had; few = few }

  -- one entry more
  pub replayed_more : (d : Model) (list : List Listed) (e : Entry) (o : Outcome) (old new : Database) → IsReplayed catalog d list old → entry_outcome catalog (after catalog d list) e ≡ Some o → StandsFor catalog new (database_after catalog (after catalog d list) e)
      → IsReplayed catalog d (list ++ record { entry = e; outcome = o } ∷ []) new
  replayed_more d list e o old new replayed is stands =
      let on = goes_on catalog d list (record { entry = e; outcome = o } ∷ []) in
      record { replays = on.joins replayed.replays (is, tt); stands = subst (StandsFor catalog new) (sym on.ends) stands }

  -- the entry that is next doesn't replay
  pub stops_next : (d : Model) (first : ℕ) (list : List Listed) (e : Entry) (rest entries : List Entry) (database : Database) → IsReplayed catalog d list database → map (λ (l : Listed). l.entry) list ++ (e ∷ rest) ≡ entries
      → first + length list ≤ 2 ^ 60 → DoesNotReplay catalog (after catalog d list) (first + length list) e → StopsBehind catalog d first entries list
  stops_next d first list e rest entries database replayed is few stops =
      let many : length list ≡ length (map (λ (l : Listed). l.entry) list) = sym (length-map list (λ (l : Listed). l.entry)) in
      record {
        before = sym (ap (take (length list)) (sym is) ∙ take_at (map (λ (l : Listed). l.entry) list) (e ∷ rest) (length list) (sym many));
        replays = replayed.replays;
        few = few;
        entry = e;
        there = ap (λ (es : List Entry). slice_get es (length list)) (sym is) ∙ ap (slice_get (map (λ (l : Listed). l.entry) list ++ (e ∷ rest))) many ∙ behind (map (λ (l : Listed). l.entry) list) e rest;
        stops = stops;
      }

-- ---- one entry

-- the outcome and the database of an entry that has a value
pub outcome_is : (catalog : Catalog) (d : Model) (e : Entry) (a : Applied) (o : Outcome) → apply catalog d e ≡ Some a → o ≡ a.outcome → entry_outcome catalog d e ≡ Some o
outcome_is catalog d e a o is same = ap (option_map (λ (a : Applied). a.outcome)) is ∙ ap Some (sym same)

pub leaves : (catalog : Catalog) (d : Model) (e : Entry) (a : Applied) → apply catalog d e ≡ Some a → database_after catalog d e ≡ a.db
leaves catalog d e a is = ap (λ (x : Option Applied). unwrap_or (option_map (λ (a : Applied). a.db) x) d) is
