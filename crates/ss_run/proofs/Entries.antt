-- One entry more, and what a list leaves.
use Rattle.std.proofs.Common.{◌≡◌, ◌≤◌, ◌<◌, ◌+◌, ◌^◌, ◌∙◌, ℕ, zero, suc, List, [], ◌∷◌, ◌++◌, length, get_or, slice_get, unwrap_or, replicate, Some, None, arith, ap, sym, subst, refl}
use Rattle.std.specs.declared.option.Option.{Option}
use Rattle.std.specs.Option.{option_map}
use Rattle.std.specs.Prelude.{IfSome}
use Rattle.ss_lemmas.proofs.LoopItem.{get_last}
use Rattle.ss_report_laws.proofs.CallerLemmas.{applied_of}
use Rattle.ss_model.specs.declared.catalog.Catalog.{Catalog}
use Rattle.ss_model.specs.declared.entry.Entry.{Entry}
use Rattle.ss_model.specs.declared.entry.Entry.TheVariants.{Step as StepEntry}
use Rattle.ss_model.specs.declared.entry.Outcome.{Outcome}
use Rattle.ss_model.specs.declared.entry.Listed.{Listed}
use Rattle.ss_model.specs.Accepted.{Accepted}
use Rattle.ss_value.specs.Rows.{Rows}
use Rattle.ss_model.specs.Database.{Database, Applied, apply, empty_database, stream_batches}
use Rattle.ss_model.specs.InStep.{IsInStep}
use Rattle.ss_model.specs.Replays.{Replays, after}
use Rattle.ss_model.specs.Settling.{pending_steps}
use Rattle.ss_model.specs.WholeDatabase.{HadAtMost}
use Rattle.ss_model.proofs.CallerLemmas.{goes_on}
use Rattle.ss_model_laws.proofs.CallerLemmas.{empty_whole, lower_pending, had_at_most, whole_after}
use Rattle.ss_stream.specs.Pending.{Pending}
use Rattle.ss_stream.specs.OfDatabase.{AreStreamsOf}
use Rattle.ss_flow.specs.Advances.{Advances}
use Rattle.ss_shard.specs.ShardValue.{ShardValue}
use Rattle.ss_shard.specs.Windows.{HoldsDatabase}
use Rattle.ss_proc.specs.declared.runner.Executed.{Executed}
use Rattle.ss_proc.specs.Entries.{IsCountable, Commits, Ran}
use Rattle.ss_proc.proofs.CallerLemmas.{advances_on, countable_on}
use Rattle.ss_run.specs.Stands.{CanOpen, Joined, with_entry}

no_batches : (n s : ℕ) → ◌≡◌ {A = List Rows} (get_or (replicate n []) s []) []
no_batches zero s = refl
no_batches (suc n) zero = refl
no_batches (suc n) (suc s) = no_batches n s

-- a list may begin on the empty database, at the first place
pub empty_opens : (catalog : Catalog) → Accepted catalog → CanOpen catalog (empty_database catalog) 0
empty_opens catalog accepted =
    let whole = empty_whole catalog accepted in
    let none : (s : ℕ) → length (stream_batches (empty_database catalog) s) ≤ 0 = λ s. let none = ap (λ (bs : List Rows). length bs) (no_batches (length catalog.streams) s) in omega arith in
    record { whole = whole; had = had_at_most catalog accepted (empty_database catalog) whole 0 none []; few = omega arith }

module _ (catalog : Catalog) (accepted : Accepted catalog) (opening : Database) (first : ℕ) (opens : CanOpen catalog opening first) where
  -- no stream has had more batches than there are places, and no procedure has taken more
  few_batches : (list : List Listed) → HadAtMost (first + length list) (after catalog opening list)
  few_batches list = had_at_most catalog accepted opening opens.whole first opens.had.streams list

  pub in_step : (list : List Listed) → IsInStep catalog (after catalog opening list)
  in_step list = (whole_after catalog accepted opening list opens.whole).in_step

  -- ---- one entry more
  pub after_one : (list : List Listed) (e : Entry) (o : Outcome) (a : Applied) → apply catalog (after catalog opening list) e ≡ Some a → after catalog opening (with_entry list e o) ≡ a.db
  after_one list e o a is =
      (goes_on catalog opening list (record { entry = e; outcome = o } ∷ [])).ends
      ∙ ap (λ (x : Option Applied). unwrap_or (option_map (λ (a : Applied). a.db) x) (after catalog opening list)) is

  pub replays_one : (list : List Listed) (e : Entry) (o : Outcome) (a : Applied) → Replays catalog opening list → apply catalog (after catalog opening list) e ≡ Some a → o ≡ a.outcome
      → Replays catalog opening (with_entry list e o)
  replays_one list e o a r is same =
      (goes_on catalog opening list (record { entry = e; outcome = o } ∷ [])).joins r (ap (option_map (λ (a : Applied). a.outcome)) is ∙ ap Some (sym same), tt)

  -- the same behind a list from the opening on
  pub advances_at : (list : List Listed) (e : Entry) (executed : Executed) (shard : ShardValue) (streams : List Pending) → first + length list < 2 ^ 60 → (ran : Ran catalog (after catalog opening list) e executed shard)
      → AreStreamsOf catalog (after catalog opening list) streams → Advances catalog (after catalog opening list) e ran.applied executed.emitted streams
  advances_at list e executed shard streams short ran are = advances_on catalog (after catalog opening list) (in_step list) (first + length list) (few_batches list) short e executed shard streams ran are

  pub countable_at : (list : List Listed) (e : Entry) (a : Applied) → first + length list < 2 ^ 60 → apply catalog (after catalog opening list) e ≡ Some a → IsCountable e
  countable_at list e a short is = countable_on catalog (after catalog opening list) (in_step list) (first + length list) (few_batches list) short e a is

  -- a step that joined a list leaves one less to run
  pub joined_lowers : (list new : List Listed) (q r : ℕ) → Replays catalog opening new → Joined list new (StepEntry q r)
      → pending_steps catalog (after catalog opening new) + 1 ≡ pending_steps catalog (after catalog opening list)
  joined_lowers list new q r behind joined =
      let last = ((goes_on catalog opening list (record { entry = StepEntry q r; outcome = joined.outcome } ∷ [])).splits (subst (Replays catalog opening) joined.joined behind)).1 in
      let (a, is) = applied_of _ joined.outcome last.0 in
      rw (joined.joined, after_one list (StepEntry q r) joined.outcome a is) (lower_pending catalog accepted (after catalog opening list) (in_step list) q r a is)

-- once it is committed, the shard stands for what the entry leaves
pub kept_listed : (catalog : Catalog) (db : Database) (e : Entry) (executed : Executed) (shard new : ShardValue) (l : Listed) → l ≡ record { entry = e; outcome = executed.outcome } → (ran : Ran catalog db e executed shard)
    → Commits catalog l.entry l.outcome shard new → HoldsDatabase catalog new ran.applied.db
kept_listed catalog db e executed shard new l is ran keeps = subst (λ (x : Listed). Commits catalog x.entry x.outcome shard new) is keeps db executed ran refl

pub last_is : {A : Type 0} (xs new : List A) (x y : A) (n : ℕ) → new ≡ xs ++ x ∷ [] → n ≡ length xs → slice_get new n ≡ Some y → y ≡ x
last_is xs new x y n joined at here =
    let there : slice_get new n ≡ Some x = rw (joined, at) (get_last xs x) in
    let both : Some y ≡ Some x = sym here ∙ there in
    cc

pub if_some : {A : Type 0} (o : Option A) {P Q : A → Type 0} → ((x : A) → P x → Q x) → IfSome o P → IfSome o Q
if_some None f h = tt
if_some (Some x) f h = f x h
