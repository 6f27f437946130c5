-- The calls, pushes and installs among those that ran.
use Rattle.std.proofs.Common.{◌≡◌, ◌∙◌, ℕ, suc, ◌-◌, ◌<◌, Bool, true, not, cond, List, [], ◌∷◌, ◌++◌, length, take, refl, ap, arith, append_assoc, length-append, sym, subst, take_at}
use Rattle.std.specs.List.{AllByRecursion}
use Rattle.std.proofs.lemmas.List.{length-map, take-map}
use Rattle.ss_model.specs.declared.catalog.Catalog.{Catalog}
use Rattle.ss_model.specs.declared.entry.Entry.{Entry}
use Rattle.ss_model.specs.declared.entry.Entry.TheVariants.{Call, Push, Step as StepEntry, Install}
use Rattle.ss_model.specs.declared.entry.Listed.{Listed}
use Rattle.ss_model.specs.declared.entry.Outcome.{Outcome}
use Rattle.ss_model.specs.Aborts.{IsFromClient}
use Rattle.ss_model.specs.Asked.{asked_of, listed_entries}
use Rattle.ss_model.specs.Database.{Database as Model}
use Rattle.ss_model.specs.Report.{is_step}
use Rattle.ss_model.specs.Settling.{IsWeakList}
use Rattle.ss_shard.specs.declared.database.Database.{Database}
use Rattle.ss_replay.specs.Replaying.{IsOnAt}
use Rattle.ss_weak_lists.specs.Stops.{StopsBehind}
use Rattle.ss_weak_lists.specs.WeakLists.{WeakListsHoldAsked}
use Rattle.ss_weak_lists.proofs.CallerLemmas.{asked_append, asked_are}
use Rattle.ss_weak_replay.specs.WeakReplaying.{GoesOnFrom, StopsBehindThese, asked_listed}
use Rattle.ss_weak_replay.proofs.Replaying.{FrontReplayed}
use Rattle.ss_weak_replay.proofs.SettledLists.{entries_behind}

-- their entries
asked_entries : (list : List Listed) → listed_entries (asked_listed list) ≡ asked_of (listed_entries list)
asked_entries [] = refl
asked_entries (l ∷ ls) = by l.entry l.outcome (asked_entries ls)
  where
    by : (e : Entry) (outcome : Outcome) → listed_entries (asked_listed ls) ≡ asked_of (listed_entries ls) → listed_entries (asked_listed (record { entry = e; outcome = outcome } ∷ ls)) ≡ asked_of (e ∷ listed_entries ls)
    by (Call client index q args) outcome rest = ap (λ (es : List Entry). Call client index q args ∷ es) rest
    by (Push client index s source seq rows) outcome rest = ap (λ (es : List Entry). Push client index s source seq rows ∷ es) rest
    by (Install client index q text) outcome rest = ap (λ (es : List Entry). Install client index q text ∷ es) rest
    by (StepEntry q r) outcome rest = rest

-- what holds of all holds of the first ones
all_front : (front rest : List Entry) → AllByRecursion IsFromClient (front ++ rest) → AllByRecursion IsFromClient front
all_front [] rest all = tt
all_front (e ∷ front) rest all = (all.0, all_front front rest all.1)

-- a list of clients' entries has no others
all_asked : (entries : List Entry) → asked_of entries ≡ entries → AllByRecursion IsFromClient entries
all_asked entries are = subst (λ (es : List Entry). AllByRecursion IsFromClient es) are (asked_are entries)

-- the first entries of clients in a list that goes on from a weak one are this one's
weak_asked : WeakListsHoldAsked → (catalog : Catalog) (d : Model) (front : List Entry) (list new : List Listed) → AllByRecursion IsFromClient front → IsWeakList catalog d front (listed_entries list) → GoesOnFrom list new
    → listed_entries (take (length front) (asked_listed new)) ≡ front
weak_asked hold catalog d front list new all weak goes =
    let (rest, is) = goes in
    let among : asked_of (listed_entries new) ≡ front ++ asked_of (listed_entries rest) =
    ap (λ (l : List Listed). asked_of (listed_entries l)) is ∙ ap asked_of (entries_behind list rest) ∙ asked_append (listed_entries list) (listed_entries rest)
    ∙ ap (λ (es : List Entry). es ++ asked_of (listed_entries rest)) (hold catalog d front (listed_entries list) all weak) in
    sym (take-map (λ (l : Listed). l.entry) (length front) (asked_listed new)) ∙ ap (take (length front)) (asked_entries new ∙ among) ∙ take_at front (asked_of (listed_entries rest)) (length front) refl

-- where a replay stops, these are the entries before that
pub stops_these : WeakListsHoldAsked → (catalog : Catalog) (begun now : Database) (first : ℕ) (entries rest : List Entry) (before : ℕ) (list new given : List Listed) → FrontReplayed catalog begun first entries rest before list now
    → asked_of entries ≡ entries → GoesOnFrom list new → given ≡ take before (asked_listed new) → (d : Model) → IsOnAt catalog begun first d → StopsBehind catalog d first entries before → StopsBehindThese catalog d first entries given
stops_these hold catalog begun now first entries rest before list new given far asked goes is d on stops =
    let all : AllByRecursion IsFromClient far.front = all_front far.front rest (subst (λ (es : List Entry). AllByRecursion IsFromClient es) (sym far.left) (all_asked entries asked)) in
    let these : listed_entries given ≡ far.front =
    ap listed_entries (is ∙ ap (λ (n : ℕ). take n (asked_listed new)) (sym far.many)) ∙ weak_asked hold catalog d far.front list new all (far.replayed d on).is_weak goes in
    let many : length given ≡ length far.front = sym (length-map given (λ (l : Listed). l.entry)) ∙ ap (λ (es : List Entry). length es) these in
    let taken : far.front ≡ take (length far.front) entries = sym (take_at far.front rest (length far.front) refl) ∙ ap (take (length far.front)) far.left in
    record {
      are = these ∙ taken ∙ ap (λ (n : ℕ). take n entries) (sym many);
      stops = subst (StopsBehind catalog d first entries) (sym far.many ∙ sym many) stops;
    }

-- one more of the first entries of clients in a list
pub one_taken : (asked : List Listed) (l : Listed) (rest : List Listed) (most : ℕ) (all : List Listed) → length asked < most → not (is_step l.entry) ≡ true → asked ++ take (most - length asked) (asked_listed (l ∷ rest)) ≡ all
    → (asked ++ l ∷ []) ++ take (most - length (asked ++ l ∷ [])) (asked_listed rest) ≡ all
one_taken asked l rest most all few is whole =
    let here : asked_listed (l ∷ rest) ≡ l ∷ asked_listed rest = ap (λ (b : Bool). cond b (l ∷ asked_listed rest) (asked_listed rest)) is in
    let left : most - length asked ≡ suc (most - length (asked ++ l ∷ [])) = omega (arith, few, length-append asked (l ∷ [])) in
    append_assoc asked (l ∷ []) (take (most - length (asked ++ l ∷ [])) (asked_listed rest)) ∙ ap (λ (xs : List Listed). asked ++ xs) (sym (λ i. take (left i) (here i))) ∙ whole
