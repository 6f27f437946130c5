-- Lists that go on by steps.
use Rattle.std.specs.Prelude.{◌≡◌, ◌⊎◌, ◌≤◌, ◌<◌, ◌+◌, length, map, slice_get, ℕ, List, [], ◌++◌, Some}
use Rattle.std.specs.List.{AllByRecursion}
use Rattle.ss_model.specs.declared.catalog.Catalog.{Catalog}
use Rattle.ss_model.specs.declared.entry.Answer.{Answer}
use Rattle.ss_model.specs.declared.entry.Answer.TheVariants.{Listed as ListedAnswer, NoMemory}
use Rattle.ss_model.specs.declared.entry.Entry.{Entry}
use Rattle.ss_model.specs.declared.entry.Entry.TheVariants.{Step as StepEntry}
use Rattle.ss_model.specs.declared.entry.Listed.{Listed}
use Rattle.ss_model.specs.declared.entry.Outcome.{Outcome}
use Rattle.ss_model.specs.declared.entry.Request.{Request}
use Rattle.ss_model.specs.Database.{Database, batch_count}
use Rattle.ss_model.specs.Replays.{after}
use Rattle.ss_model.specs.Report.{asked_entry}
use Rattle.ss_model.specs.Settled.{SettlesOn}
use Rattle.ss_model.specs.Settling.{Settles, pending_steps}
use Rattle.ss_run.specs.RunAnswers.{client_entries}
use Rattle.ss_run.specs.Stands.{Joined, with_entry}

-- the second list is the first with steps alone behind it
pub record GoesOnBySteps (list new : List Listed) : Type 0 where
  pub steps : List Listed
  pub is : new ≡ list ++ steps
  pub all_steps : client_entries steps ≡ []

-- the next step of a procedure joined the list, and one step less is pending
pub record NextJoined (catalog : Catalog) (opening : Database) (list new : List Listed) (q : ℕ) : Type 0 where
  pub joined : Joined list new (StepEntry q (batch_count (after catalog opening list) q))
  pub lowers : pending_steps catalog (after catalog opening new) + 1 ≡ pending_steps catalog (after catalog opening list)

-- one step joined the list, and one step less is pending
pub record StepJoined (catalog : Catalog) (opening : Database) (list new : List Listed) : Type 0 where
  pub procedure : ℕ
  pub batch : ℕ
  pub joined : Joined list new (StepEntry procedure batch)
  pub lowers : pending_steps catalog (after catalog opening new) + 1 ≡ pending_steps catalog (after catalog opening list)

-- each hint names a procedure of the catalogue, and there are at most 64
pub record AreHinted (catalog : Catalog) (hints : List ℕ) : Type 0 where
  pub there : AllByRecursion (λ h. h < length catalog.procedures) hints
  pub few : length hints ≤ 64

-- a hint was followed: list and hints are as they were, or one step joined the list, and one step less is pending
abbrev pub HintRan : Catalog → Database → List Listed → List Listed → List ℕ → List ℕ → Type 0
HintRan catalog opening list new hints left = ((new ≡ list) × (left ≡ hints)) ⊎ StepJoined catalog opening list new

-- an entry joined the list at its end, which is this place, with this outcome, and steps alone behind it
pub record Answered (list new : List Listed) (e : Entry) (place : ℕ) (outcome : Outcome) : Type 0 where
  pub at_end : place ≡ length list
  pub by_steps : GoesOnBySteps (with_entry list e outcome) new

-- the answer to an entry is its place and its outcome, or that there was no memory for it and nothing changed
abbrev pub IsAnswered : List Listed → List Listed → Entry → Answer → Type 0
IsAnswered list new e (ListedAnswer place outcome) = Answered list new e place outcome
IsAnswered list new e NoMemory = new ≡ list
IsAnswered list new e _ = ⊥

-- this is the answer to the request with this number, which is the one at this index among its client's
abbrev pub AnswersRequest : List Request → ℕ → ℕ → List Listed → List Listed → Answer → Type 0
AnswersRequest requests number index list new answer = (r : Request) → slice_get requests number ≡ Some r → IsAnswered list new (asked_entry r.client index r.what) answer

-- the second list is the first with just the steps behind it that settling runs
pub record SettledBy (catalog : Catalog) (opening : Database) (list new : List Listed) : Type 0 where
  pub steps : List Listed
  pub is : new ≡ list ++ steps
  pub settles : Settles catalog (after catalog opening list) (map (λ (l : Listed). l.entry) steps)

-- the second list is the first with steps behind it, each of which was the next one of settling
pub record SettlesSoFar (catalog : Catalog) (opening : Database) (list new : List Listed) : Type 0 where
  pub steps : List Listed
  pub is : new ≡ list ++ steps
  pub on : SettlesOn catalog (after catalog opening list) (map (λ (l : Listed). l.entry) steps)
