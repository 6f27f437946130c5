-- Lists that go on by the steps of settling.
use Rattle.std.proofs.Common.{◌≡◌, ◌≤◌, ◌+◌, ◌^◌, ◌∙◌, ℕ, true, List, [], ◌∷◌, ◌++◌, Some, None, is_some, get_or, length, append_assoc, append-nil, length-append, ap, arith, sym, subst}
use Rattle.std.proofs.lemmas.List.{length-map, map-append}
use Rattle.ss_model.specs.declared.catalog.Catalog.{Catalog}
use Rattle.ss_model.specs.declared.entry.Entry.{Entry}
use Rattle.ss_model.specs.declared.entry.Entry.TheVariants.{Step as StepEntry}
use Rattle.ss_model.specs.declared.entry.Listed.{Listed}
use Rattle.ss_model.specs.Accepted.{Accepted}
use Rattle.ss_model.specs.Asked.{listed_entries}
use Rattle.ss_model.specs.Database.{Database as Model, apply, batch_count}
use Rattle.ss_model.specs.Replays.{after}
use Rattle.ss_model.specs.Settled.{SettlesOn}
use Rattle.ss_model.specs.Settling.{after_entries, next_settled}
use Rattle.ss_model_laws.proofs.CallerLemmas.{loop_settles, next_is_ready}
use Rattle.ss_weak_lists.specs.Stops.{LoopsPassLast, PassesLast}
use Rattle.ss_weak_lists.proofs.CallerLemmas.{after_is}
use Rattle.ss_shard.specs.declared.database.Database.{Database}
use Rattle.ss_shard.specs.Databases.{StandsFor}
use Rattle.ss_proc.proofs.CallerLemmas.{Sees, sees_of}
use Rattle.ss_replay.specs.Replaying.{IsOn, IsOnAt, CanTake, IsReplayed}
use Rattle.ss_replay.proofs.CallerLemmas.{next_ready, replayed_more, stands_behind, step_value}
use Rattle.ss_weak_replay.specs.WeakReplaying.{IsListedBehind, IsSettledBehind}

-- the entries of one list behind another
pub entries_behind : (xs ys : List Listed) → listed_entries (xs ++ ys) ≡ listed_entries xs ++ listed_entries ys
entries_behind xs ys = map-append (λ (l : Listed). l.entry) xs ys

-- what looks at the counts and streams of a database finds there
pub sees_on : (catalog : Catalog) (database : Database) (d : Model) (counts : List ℕ) → IsOn catalog database d → counts ≡ database.whole.cursors → Sees catalog d counts database.streams.streams
sees_on catalog database d counts on are = sees_of catalog database d counts on.whole.in_step.matched.shape on.stands are

-- the number of the batch that a procedure takes next
pub count_of : (catalog : Catalog) (database : Database) (d : Model) (q r : ℕ) → StandsFor catalog database d → r ≡ get_or database.whole.cursors q 0 → batch_count d q ≡ r
count_of catalog database d q r stands is = sym (is ∙ ap (λ (ns : List ℕ). get_or ns q 0) stands.shard.counts)

-- the step that settling runs next has a value
pub next_valued : (catalog : Catalog) (d : Model) (q r : ℕ) → next_settled catalog d ≡ Some q → batch_count d q ≡ r → is_some (apply catalog d (StepEntry q r)) ≡ true
next_valued catalog d q r next count = sym (step_value catalog d q r) ∙ sym (next_ready catalog d q r count) ∙ (next_is_ready catalog d).some q next

-- a list goes on by steps of which each is the next one of settling, and the program's database stands for the one after them
pub record SettlesSoFar (catalog : Catalog) (d : Model) (old new : List Listed) (database : Database) : Type 0 where
  pub steps : List Listed
  pub is : new ≡ old ++ steps
  pub on : SettlesOn catalog d (listed_entries steps)
  pub replayed : IsReplayed catalog d steps database

pub none_yet : (catalog : Catalog) (d : Model) (list : List Listed) (database : Database) → StandsFor catalog database d → SettlesSoFar catalog d list list database
none_yet catalog d list database stands = record { steps = []; is = sym (append-nil list); on = tt; replayed = record { replays = tt; stands = stands } }

module _ (catalog : Catalog) (accepted : Accepted catalog) (d : Model) (old new : List Listed) (begun now : Database) (first : ℕ) (on : IsOnAt catalog begun (first + length old) d) (far : SettlesSoFar catalog d old new now) where
  many : length new ≡ length old + length far.steps
  many = ap (λ (l : List Listed). length l) far.is ∙ length-append old far.steps

  -- the database behind these steps stands so many places further
  pub stands_now : IsOnAt catalog now (first + length old + length far.steps) (after catalog d far.steps)
  stands_now = stands_behind catalog accepted begun now (first + length old) d far.steps on far.replayed

  -- what looks at its counts and streams finds these there
  pub sees_now : (counts : List ℕ) → counts ≡ now.whole.cursors → Sees catalog (after catalog d far.steps) counts now.streams.streams
  sees_now counts are = sees_on catalog now (after catalog d far.steps) counts stands_now.on are

  -- and can take one more, where this has its place
  pub takes_step : first + length new + 1 ≤ 2 ^ 60 → CanTake catalog now (after catalog d far.steps)
  takes_step few = record { on = stands_now.on; place = first + length old + length far.steps; had = stands_now.had; few = omega (arith, few, many) }

  ends : after_entries catalog d (listed_entries far.steps) ≡ after catalog d far.steps
  ends = sym (after_is catalog d far.steps)

  -- one step more
  pub one_settled : (q r : ℕ) (next : List Listed) (later : Database) → next_settled catalog (after catalog d far.steps) ≡ Some q → batch_count (after catalog d far.steps) q ≡ r
      → IsListedBehind catalog (after catalog d far.steps) (StepEntry q r) new next later → SettlesSoFar catalog d old next later
  one_settled q r next later is count listed =
      let last : List Listed = record { entry = StepEntry q r; outcome = listed.outcome } ∷ [] in
      let goes = (loop_settles catalog d (listed_entries far.steps)).goes_on far.on q (ap (next_settled catalog) ends ∙ is) in
      let same : StepEntry q (batch_count (after_entries catalog d (listed_entries far.steps)) q) ≡ StepEntry q r = ap (λ (x : Model). StepEntry q (batch_count x q)) ends ∙ ap (λ (n : ℕ). StepEntry q n) count in
      record {
        steps = far.steps ++ last;
        is = listed.is ∙ ap (λ (xs : List Listed). xs ++ last) far.is ∙ append_assoc old far.steps last;
        on = rw (entries_behind far.steps last) (subst (λ (e : Entry). SettlesOn catalog d (listed_entries far.steps ++ e ∷ [])) same goes);
        replayed = replayed_more catalog accepted d far.steps (StepEntry q r) listed.outcome now later far.replayed listed.gives listed.stands;
      }

  -- there is no next one
  pub all_settled : next_settled catalog (after catalog d far.steps) ≡ None → IsSettledBehind catalog d old new now
  all_settled none = record { steps = far.steps; is = far.is; settles = (loop_settles catalog d (listed_entries far.steps)).ends far.on (ap (next_settled catalog) ends ∙ none); replayed = far.replayed }

  -- there is one, and no place
  pub passes : LoopsPassLast → (q : ℕ) → next_settled catalog (after catalog d far.steps) ≡ Some q → 2 ^ 60 ≤ first + length new → PassesLast catalog d (first + length old)
  passes law q is full =
      law catalog accepted d on.on.whole.in_step (listed_entries far.steps) far.on q (ap (next_settled catalog) ends ∙ is) (first + length old) (omega (arith, full, many, length-map far.steps (λ (l : Listed). l.entry)))
