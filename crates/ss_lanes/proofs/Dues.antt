-- What waits for a receipt, while answers come and receipts are given.
use Rattle.std.proofs.Common.{◌≡◌, ◌≢◌, ◌⊎◌, inl, inr, ⊎_elim, ℕ, ◌+◌, ◌<◌, ◌≤◌, max, List, [], ◌∷◌, ◌++◌, refl, sym, ap, ◌∙◌, subst, arith, append_assoc, append-nil, Result, Ok, Err}
use Rattle.std.proofs.lemmas.List.{length_push}
use Rattle.std.specs.List.{AllByRecursion}
use Rattle.ss_lemmas.proofs.EachOf.{all_with}
use Rattle.ss_model.specs.declared.entry.Answer.{Answer}
use Rattle.ss_model.specs.declared.entry.Answer.TheVariants as variants
use Rattle.ss_model.specs.declared.entry.Outcome.{Outcome}
use Rattle.ss_commitlog.specs.declared.placed.Placed.{Placed}
use Rattle.ss_commitlog.specs.declared.placed.Unlisted.{Unlisted}
use Rattle.ss_commitlog.specs.declared.placed.Unlisted.TheVariants.{NoMemory, ListFull}
use Rattle.ss_commitlog.specs.Roles.{In}
use Rattle.ss_lanes.specs.declared.due.Due.{Due}
use Rattle.ss_lanes.specs.Answered.{answer_of, IsAfter}
use Rattle.ss_lanes.specs.Dues.{AllBelow, AreHaltedAt, FewOpen, IsDue, IsHaltedAt, StandBelow, due_after, failed_at, no_due, receipted}
use Rattle.ss_lanes.specs.Mines.{Mine}
use Rattle.ss_lanes.specs.Replies.{more_entries}
use Rattle.ss_lanes.specs.Told.{told, outcomes}

-- what holds of each and of one more
pub last_too : {A : Type 0} (P : A → Type 0) (xs : List A) (x : A) → AllByRecursion P xs → P x → AllByRecursion P (xs ++ x ∷ [])
last_too P [] x all p = (p, tt)
last_too P (y ∷ ys) x all p = (all.0, last_too P ys x all.1 p)

-- ---- entries that stand below a count

pub few_open_on : (entries : List Mine) (m n most more : ℕ) → m ≤ n → most ≤ more → FewOpen entries m most → FewOpen entries n more
few_open_on entries m n most more up wide few_of = record {
  safe = few_of.safe;
  unsafe = few_of.unsafe;
  parts = few_of.parts;
  below = all_with (λ (p : Mine). p.0 < m) (λ (p : Mine). p.0 < n) (λ p (b : p.0 < m). (omega (arith, b, up))) few_of.safe few_of.below;
  few = (let few = few_of.few in omega arith);
}

-- and where all stand below it
pub none_open : (entries : List Mine) (count : ℕ) → StandBelow count entries → FewOpen entries count 0
none_open entries count all = record { safe = entries; unsafe = []; parts = sym (append-nil entries); below = all; few = omega arith }

-- one entry more
one_open : (olds news : List Mine) (count most : ℕ) (p : Mine) → news ≡ olds ++ p ∷ [] → FewOpen olds count most → FewOpen news count (most + 1)
one_open olds news count most p is few_of = record {
  safe = few_of.safe;
  unsafe = few_of.unsafe ++ p ∷ [];
  parts = is ∙ (ap (λ (l : List Mine). l ++ p ∷ []) few_of.parts ∙ append_assoc few_of.safe few_of.unsafe (p ∷ []));
  below = few_of.below;
  few = (let few = few_of.few in let one = length_push few_of.unsafe p in omega arith);
}

-- what answers tell stands where the entries do
pub stand_below : (n : ℕ) (entries : List Mine) → AllBelow n (outcomes entries) → StandBelow n entries
stand_below n [] all = tt
stand_below n (p ∷ ps) all = (all.0, stand_below n ps all.1)

pub all_below_on : (m n : ℕ) → m ≤ n → (places : List (ℕ × Outcome)) → AllBelow m places → AllBelow n places
all_below_on m n up places all = all_with (λ (p : ℕ × Outcome). p.0 < m) (λ (p : ℕ × Outcome). p.0 < n) (λ p (b : p.0 < m). (omega (arith, b, up))) places all

-- ---- answers

pub told_with : (xs : List Answer) (a : Answer) → told (xs ++ a ∷ []) ≡ told xs ++ told (a ∷ [])
told_with [] a = refl
told_with (variants.Listed place outcome ∷ xs) a = ap (λ (l : List (ℕ × Outcome)). (place, outcome) ∷ l) (told_with xs a)
told_with (variants.NoMemory ∷ xs) a = told_with xs a
told_with (variants.ListFull count ∷ xs) a = told_with xs a
told_with (variants.Halted faults ∷ xs) a = told_with xs a

-- an answer that tells of no entry
pub told_same : (xs : List Answer) (a : Answer) → told (a ∷ []) ≡ [] → told (xs ++ a ∷ []) ≡ told xs
told_same xs a none = told_with xs a ∙ (ap (λ (l : List (ℕ × Outcome)). told xs ++ l) none ∙ append-nil (told xs))

still_halted : (m n : ℕ) → (m ≡ 0) ⊎ (m ≡ n) → (a : Answer) → IsHaltedAt m a → IsHaltedAt n a
still_halted m n or (variants.Listed place outcome) h = tt
still_halted m n or variants.NoMemory h = tt
still_halted m n or (variants.ListFull count) h = tt
still_halted m n or (variants.Halted faults) h = ⊎_elim (λ (none : m ≡ 0). absurd (h.1 (h.0 ∙ none))) (λ (same : m ≡ n). (h.0 ∙ same, h.1)) or

-- where the client was told nothing, no answer says that the disk has failed
pub all_still_halted : (m n : ℕ) → (m ≡ 0) ⊎ (m ≡ n) → (answers : List Answer) → AreHaltedAt m answers → AreHaltedAt n answers
all_still_halted m n or answers all = all_with (IsHaltedAt m) (IsHaltedAt n) (still_halted m n or) answers all

-- ---- what waits

pub nothing_due : (end count : ℕ) → IsDue [] end count no_due []
nothing_due end count = record { few_open = none_open [] count tt; few = omega arith; reached = omega arith; below = tt; halted = tt }

-- a longer list, and a greater count
pub due_on : (entries : List Mine) (end further count more : ℕ) (due : Due) (answers : List Answer) → end ≤ further → count ≤ more → IsDue entries end count due answers → IsDue entries further more due answers
due_on entries end further count more due answers long up is = record {
  few_open = few_open_on entries count more due.pending due.pending up (omega arith) is.few_open;
  few = is.few;
  reached = (let r = is.reached in omega arith);
  below = is.below;
  halted = is.halted;
}

-- an answer more that tells of no entry
due_same : (entries : List Mine) (end count : ℕ) (due : Due) (answers : List Answer) (a : Answer) → told (a ∷ []) ≡ [] → IsHaltedAt due.faults a → IsDue entries end count due answers → IsDue entries end count due (answers ++ a ∷ [])
due_same entries end count due answers a none halts is = record {
  few_open = is.few_open;
  few = is.few;
  reached = is.reached;
  below = subst (AllBelow due.above) (sym (told_same answers a none)) is.below;
  halted = last_too (IsHaltedAt due.faults) answers a is.halted halts;
}

-- the answer that the disk has failed
pub due_halted : (entries : List Mine) (end count : ℕ) (due : Due) (answers news : List Answer) → due.faults ≢ 0 → news ≡ answers ++ variants.Halted due.faults ∷ [] → IsDue entries end count due answers → IsDue entries end count due news
due_halted entries end count due answers news some more is = subst (λ (l : List Answer). IsDue entries end count due l) (sym more) (due_same entries end count due answers (variants.Halted due.faults) refl (refl, some) is)

-- an answer to what was sent
pub due_more : (olds news : List Mine) (end count : ℕ) (due : Due) (answers : List Answer) (said : Result Placed Unlisted) → IsDue olds end count due answers → IsAfter olds news said → due.pending + more_entries said ≤ 16
    → ((p : Mine) → In p news → p.0 < end) → IsDue news end count (due_after due (answer_of said)) (answers ++ answer_of said ∷ [])
due_more olds news end count due answers (Ok placed) is after room within =
    let place = placed.place in
    let p : Mine = (place, placed.listed) in
    let here : place < end = within p (subst (In p) (sym after.0) (in_last olds p)) in
    let up : due.above ≤ max due.above (place + 1) = omega arith in
    record {
      few_open = one_open olds news count due.pending p after.0 is.few_open;
      few = room;
      reached = (let r = is.reached in omega arith);
      below = subst (AllBelow (max due.above (place + 1))) (sym (told_with answers (variants.Listed place placed.listed.outcome)))
          (last_too (λ (q : ℕ × Outcome). q.0 < max due.above (place + 1)) (told answers) (place, placed.listed.outcome) (all_below_on due.above (max due.above (place + 1)) up (told answers) is.below) (omega arith));
      halted = last_too (IsHaltedAt due.faults) answers (variants.Listed place placed.listed.outcome) is.halted tt;
    }
  where
    in_last : (xs : List Mine) (x : Mine) → In x (xs ++ x ∷ [])
    in_last [] x = inl refl
    in_last (y ∷ ys) x = inr (in_last ys x)
due_more olds news end count due answers (Err NoMemory) is after room within =
    subst (λ (l : List Mine). IsDue l end count due (answers ++ variants.NoMemory ∷ [])) (sym after) (due_same olds end count due answers variants.NoMemory refl tt is)
due_more olds news end count due answers (Err (ListFull full)) is after room within =
    subst (λ (l : List Mine). IsDue l end count due (answers ++ variants.ListFull full ∷ [])) (sym after) (due_same olds end count due answers (variants.ListFull full) refl tt is)

-- a receipt of all that answers tell: nothing waits
pub due_receipted : (entries : List Mine) (end count : ℕ) (due : Due) (answers : List Answer) (receipt : ℕ) → outcomes entries ≡ told answers → due.above ≤ receipt → receipt ≤ count → IsDue entries end count due answers
    → IsDue entries end count (receipted due) answers
due_receipted entries end count due answers receipt all covers seen is = record {
  few_open = none_open entries count (stand_below count entries (subst (AllBelow count) (sym all) (all_below_on due.above count (omega arith) (told answers) is.below)));
  few = omega arith;
  reached = is.reached;
  below = is.below;
  halted = is.halted;
}

-- the client is told of faults, of which it was told nothing before
pub due_failed : (entries : List Mine) (end count : ℕ) (due : Due) (answers : List Answer) (faults : ℕ) → due.faults ≡ 0 → IsDue entries end count due answers
    → IsDue entries end count (failed_at faults due) answers
due_failed entries end count due answers faults none is = record {
  few_open = is.few_open;
  few = is.few;
  reached = is.reached;
  below = is.below;
  halted = all_still_halted due.faults faults (inl none) answers is.halted;
}
