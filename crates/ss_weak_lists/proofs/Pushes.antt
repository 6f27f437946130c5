-- What pushes come to is told by the next numbers and by the pushes before them.
use Rattle.std.proofs.Common.{◌≡◌, ◌∙◌, ℕ, ◌+◌, ◌==◌, nat_lt, Bool, true, false, cond, List, [], ◌∷◌, set, get_or, refl, sym, ap, Some, None, unwrap_or, slice_get}
use Rattle.std.specs.Option.{option_map}
use Rattle.std.specs.declared.option.Option.{Option}
use Rattle.std.specs.FinMap as finmap
use Rattle.ss_value.specs.Rows.{Row, Rows}
use Rattle.ss_model.specs.declared.catalog.Catalog.{Catalog}
use Rattle.ss_model.specs.declared.catalog.Procedure.{Procedure}
use Rattle.ss_model.specs.declared.entry.Entry.{Entry}
use Rattle.ss_model.specs.declared.entry.Entry.TheVariants.{Call, Push, Step as StepEntry, Install}
use Rattle.ss_model.specs.declared.entry.Listed.{Listed}
use Rattle.ss_model.specs.declared.entry.Outcome.{Outcome}
use Rattle.ss_model.specs.declared.entry.Outcome.TheVariants.{Done, Duplicate, Gap}
use Rattle.ss_model.specs.Database.{Database, NextNumbers, Applied, apply, apply_call, apply_step, apply_install, present, call_fits, push_fits, install_fits, is_ready, only_when, next_number, numbered_push, accept_batch, run_procedure, stepped_on, input_batches}
use Rattle.ss_model.specs.Replays.{Replays, database_after, entry_outcome, after}
use Rattle.ss_model.specs.Asked.{listed_entries, pushes_among, pushes_of}
use Rattle.ss_weak_lists.specs.Pushes.{SamePushes}

-- ---- pushes by the next numbers alone

-- the next number of a source
abbrev next_of : List NextNumbers → ℕ → List ℕ → ℕ
next_of numbers s source = unwrap_or (finmap.get (get_or numbers s finmap.empty) source) 0

-- what a push comes to
abbrev said : List NextNumbers → ℕ → List ℕ → ℕ → Outcome
said numbers s source seq = cond (seq == next_of numbers s source) (Done []) (cond (nat_lt seq (next_of numbers s source)) (Duplicate (next_of numbers s source)) (Gap (next_of numbers s source)))

-- the next numbers behind it
abbrev behind : List NextNumbers → ℕ → List ℕ → ℕ → List NextNumbers
behind numbers s source seq = cond (seq == next_of numbers s source) (set numbers s (finmap.insert (get_or numbers s finmap.empty) source (seq + 1))) numbers

-- all pushes among entries, with what they come to
abbrev told : List NextNumbers → List Entry → List Listed
told numbers [] = []
told numbers (Call client index q args ∷ es) = told numbers es
told numbers (Push client index s source seq rows ∷ es) = record { entry = Push client index s source seq rows; outcome = said numbers s source seq } ∷ told (behind numbers s source seq) es
told numbers (Install client index q text ∷ es) = told numbers es
told numbers (StepEntry q r ∷ es) = told numbers es

-- the next numbers behind all of them
abbrev left : List NextNumbers → List Entry → List NextNumbers
left numbers [] = numbers
left numbers (Call client index q args ∷ es) = left numbers es
left numbers (Push client index s source seq rows ∷ es) = left (behind numbers s source seq) es
left numbers (Install client index q text ∷ es) = left numbers es
left numbers (StepEntry q r ∷ es) = left numbers es

told_pushes : (numbers : List NextNumbers) (es : List Entry) → told numbers (pushes_among es) ≡ told numbers es
told_pushes numbers [] = refl
told_pushes numbers (Call client index q args ∷ es) = told_pushes numbers es
told_pushes numbers (Push client index s source seq rows ∷ es) = ap (λ z. record { entry = Push client index s source seq rows; outcome = said numbers s source seq } ∷ z) (told_pushes (behind numbers s source seq) es)
told_pushes numbers (Install client index q text ∷ es) = told_pushes numbers es
told_pushes numbers (StepEntry q r ∷ es) = told_pushes numbers es

left_pushes : (numbers : List NextNumbers) (es : List Entry) → left numbers (pushes_among es) ≡ left numbers es
left_pushes numbers [] = refl
left_pushes numbers (Call client index q args ∷ es) = left_pushes numbers es
left_pushes numbers (Push client index s source seq rows ∷ es) = left_pushes (behind numbers s source seq) es
left_pushes numbers (Install client index q text ∷ es) = left_pushes numbers es
left_pushes numbers (StepEntry q r ∷ es) = left_pushes numbers es

-- ---- one entry

-- the database behind an entry that comes to this
abbrev next_db : Database → Option Applied → Database
next_db db o = unwrap_or (option_map (λ (a : Applied). a.db) o) db

-- the next numbers stay where they stay in the value
same_numbers : (db : Database) (b : Bool) (a : Applied) → a.db.next_numbers ≡ db.next_numbers → (next_db db (only_when b (Some a))).next_numbers ≡ db.next_numbers
same_numbers db true a h = h
same_numbers db false a h = refl

call_numbers : (catalog : Catalog) (db : Database) (client n : ℕ) (args : Row) (o : Option Procedure) → (next_db db (apply_call catalog db client n args o)).next_numbers ≡ db.next_numbers
call_numbers catalog db client n args None = refl
call_numbers catalog db client n args (Some p) =
    let r = run_procedure catalog n (present catalog db n p) args [] db.contents in
    same_numbers db (call_fits client p args) (record { db = record db { contents = r.contents }; outcome = r.outcome; emitted = [] }) refl

step_numbers : (catalog : Catalog) (db : Database) (n r : ℕ) (o : Option Procedure) → (next_db db (apply_step catalog db n r o)).next_numbers ≡ db.next_numbers
step_numbers catalog db n r None = refl
step_numbers catalog db n r (Some p) = same_numbers db (is_ready db n r p) (stepped_on catalog db n r p (input_batches db r p)) refl

install_numbers : (catalog : Catalog) (db : Database) (client n : ℕ) (text : List ℕ) → (next_db db (apply_install catalog db client n text)).next_numbers ≡ db.next_numbers
install_numbers catalog db client n text =
    same_numbers db (install_fits catalog client n text) (record { db = record db { bodies = set db.bodies n text }; outcome = Done []; emitted = [] }) refl

-- a push that has a value comes to this, and leaves these next numbers
record PushSays (catalog : Catalog) (db : Database) (s seq : ℕ) (source : List ℕ) (o : Option Applied) (outcome : Outcome) : Type 0 where
  outcome_is : outcome ≡ said db.next_numbers s source seq
  numbers : (next_db db o).next_numbers ≡ behind db.next_numbers s source seq

-- the numbered push, by whether its number is the next one, and whether it is lower
numbered : (db : Database) (s : ℕ) (source : List ℕ) (seq : ℕ) (rows : Rows) (n : ℕ) (equal lower : Bool)
    → let a : Applied = cond equal (record { db = accept_batch db s source seq rows; outcome = Done []; emitted = [] }) (cond lower (record { db = db; outcome = Duplicate n; emitted = [] }) (record { db = db; outcome = Gap n; emitted = [] })) in
    (a.outcome ≡ cond equal (Done []) (cond lower (Duplicate n) (Gap n)))
    × (a.db.next_numbers ≡ cond equal (set db.next_numbers s (finmap.insert (get_or db.next_numbers s finmap.empty) source (seq + 1))) db.next_numbers)
numbered db s source seq rows n true lower = (refl, refl)
numbered db s source seq rows n false true = (refl, refl)
numbered db s source seq rows n false false = (refl, refl)

push_says : (catalog : Catalog) (db : Database) (s seq : ℕ) (source : List ℕ) (rows : Rows) (b : Bool) (outcome : Outcome)
    → option_map (λ (a : Applied). a.outcome) (only_when b (Some (numbered_push db s source seq rows (next_number db s source)))) ≡ Some outcome
    → PushSays catalog db s seq source (only_when b (Some (numbered_push db s source seq rows (next_number db s source)))) outcome
push_says catalog db s seq source rows true outcome e =
    let n = next_number db s source in
    let both = numbered db s source seq rows n (seq == n) (nat_lt seq n) in
    record { outcome_is = ap (λ o. unwrap_or o outcome) (sym e) ∙ both.0; numbers = both.1 }
push_says catalog db s seq source rows false outcome e = cc

-- ---- lists

-- the pushes of a list that replays, and the next numbers behind it
record Tells (catalog : Catalog) (db : Database) (list : List Listed) : Type 0 where
  pushes : pushes_of list ≡ told db.next_numbers (listed_entries list)
  numbers : (after catalog db list).next_numbers ≡ left db.next_numbers (listed_entries list)

module _ (catalog : Catalog) where
  -- the entry is none, and leaves the next numbers
  passed : (db next : Database) (ls : List Listed) → next.next_numbers ≡ db.next_numbers → Tells catalog next ls → (pushes_of ls ≡ told db.next_numbers (listed_entries ls)) × ((after catalog next ls).next_numbers ≡ left db.next_numbers (listed_entries ls))
  passed db next ls same t = (t.pushes ∙ ap (λ z. told z (listed_entries ls)) same, t.numbers ∙ ap (λ z. left z (listed_entries ls)) same)

  tells_entry : (db : Database) (e : Entry) (outcome : Outcome) (ls : List Listed) → entry_outcome catalog db e ≡ Some outcome → Tells catalog (database_after catalog db e) ls
      → Tells catalog db (record { entry = e; outcome = outcome } ∷ ls)
  unfolding apply
  tells_entry db (Call client index q args) outcome ls is t =
      let both = passed db (database_after catalog db (Call client index q args)) ls (call_numbers catalog db client q args (slice_get catalog.procedures q)) t in
      record { pushes = both.0; numbers = both.1 }
  tells_entry db (StepEntry q r) outcome ls is t =
      let both = passed db (database_after catalog db (StepEntry q r)) ls (step_numbers catalog db q r (slice_get catalog.procedures q)) t in
      record { pushes = both.0; numbers = both.1 }
  tells_entry db (Install client index q text) outcome ls is t =
      let both = passed db (database_after catalog db (Install client index q text)) ls (install_numbers catalog db client q text) t in
      record { pushes = both.0; numbers = both.1 }
  tells_entry db (Push client index s source seq rows) outcome ls is t =
      let p = push_says catalog db s seq source rows (push_fits catalog client s seq rows) outcome is in
      record {
        pushes = λ i. record { entry = Push client index s source seq rows; outcome = p.outcome_is i } ∷ (t.pushes ∙ ap (λ z. told z (listed_entries ls)) p.numbers) i;
        numbers = t.numbers ∙ ap (λ z. left z (listed_entries ls)) p.numbers;
      }

  tells : (db : Database) (list : List Listed) → Replays catalog db list → Tells catalog db list
  tells db [] r = record { pushes = refl; numbers = refl }
  tells db (l ∷ ls) r = tells_entry db l.entry l.outcome ls r.0 (tells (database_after catalog db l.entry) ls r.1)

  pub same_pushes : (x y : Database) (one other : List Listed) → x.next_numbers ≡ y.next_numbers → Replays catalog x one → Replays catalog y other
      → pushes_among (listed_entries one) ≡ pushes_among (listed_entries other) → SamePushes catalog x y one other
  same_pushes x y one other same r k pushed =
      let a = tells x one r in
      let b = tells y other k in record {
        outcomes = a.pushes ∙ sym (told_pushes x.next_numbers (listed_entries one)) ∙ (λ i. told (same i) (pushed i)) ∙ told_pushes y.next_numbers (listed_entries other) ∙ sym b.pushes;
        next_numbers = a.numbers ∙ sym (left_pushes x.next_numbers (listed_entries one)) ∙ (λ i. left (same i) (pushed i)) ∙ left_pushes y.next_numbers (listed_entries other) ∙ sym b.numbers;
      }
