-- What a run owes is enough: what each entry may leave to run, and that each request is in the list once or outside.
use Rattle.std.proofs.Common.{◌≡◌, ◌∙◌, ◌≤◌, ◌<◌, ◌==◌, ◌&&◌, ℕ, zero, suc, ◌+◌, ◌-◌, List, [], ◌∷◌, ◌++◌, length, Bool, true, false, cond, Option, Some, None, unwrap_or, refl, sym, ap, subst, arith, ⊎_elim}
use Rattle.std.specs.List.{AllByRecursion, Contains, cons_option, count_by, filter_map, slice_index_or, sum_by}
use Rattle.std.specs.Option.{option_map, is_none}
use Rattle.std.proofs.lemmas.Bool.{cases_lt}
use Rattle.std.proofs.lemmas.List.{get_or_past, nil_from_length}
use Rattle.std.proofs.lemmas.List.Sums.{sum_by-cons, sum_by-le-sum_by}
use Rattle.ss_lemmas.proofs.Bools.{some_same}
use Rattle.ss_lemmas.proofs.Counts.{count_cons}
use Rattle.ss_lemmas.proofs.Numbers.{eqb_self, eqb_is}
use Rattle.ss_value.specs.Rows.{Row, Rows}
use Rattle.ss_model.specs.declared.catalog.Catalog.{Catalog}
use Rattle.ss_model.specs.declared.entry.Asked.{Asked}
use Rattle.ss_model.specs.declared.entry.Asked.TheVariants.{Call as CallAsked, Push as PushAsked, Install as InstallAsked}
use Rattle.ss_model.specs.declared.entry.Entry.{Entry}
use Rattle.ss_model.specs.declared.entry.Entry.TheVariants.{Call, Push, Step as StepEntry, Install}
use Rattle.ss_model.specs.declared.entry.Listed.{Listed}
use Rattle.ss_model.specs.declared.entry.Outcome.{Outcome}
use Rattle.ss_model.specs.declared.entry.Outcome.TheVariants.{Done, Aborted, Duplicate, Gap}
use Rattle.ss_model.specs.declared.entry.Request.{Request}
use Rattle.ss_model.specs.Accepted.{Accepted}
use Rattle.ss_model.specs.Database.{Database, Applied, apply, batch_count, stream_batches}
use Rattle.ss_model.specs.InStep.{IsInStep}
use Rattle.ss_model.specs.Orders.{is_accepted_push}
use Rattle.ss_model.specs.Replays.{Replays, after, database_after}
use Rattle.ss_model.specs.Report.{IsAsked, Rising, asked_entry, asked_entries, entries_behind, client_index, is_same_request, find_listed}
use Rattle.ss_model.specs.Settled.{NextIsReadyAlways, SettlingTerminates}
use Rattle.ss_model.specs.Settling.{Settles, border_stream, pending_batches, pending_steps, procedure_numbers, streams_on}
use Rattle.ss_model_laws.proofs.CallerLemmas.{effect, in_step_after, lower_pending}
use Rattle.ss_report_laws.proofs.CallerLemmas.{applied_of}
use Rattle.ss_headline.specs.Owed.{workflow_size, owed_by, OwedIsEnough, FullListsHaveAll}

-- ---- sums

-- each term is greater by one at most, where a test passes
grown_sum : {A : Type 0} (f g : A → ℕ) (p : A → Bool) (xs : List A) → ((x : A) → f x ≤ g x + cond (p x) 1 0) → sum_by f xs ≤ sum_by g xs + count_by p xs
grown_sum f g p [] grow = omega arith
grown_sum f g p (x ∷ xs) grow =
    let rest = grown_sum f g p xs grow in
    let here = grow x in
    omega (arith, sum_by-cons f x xs, sum_by-cons g x xs, count_cons p x xs, rest, here)

-- no term is less, and that of an item of the list is greater by this
risen_sum : {A : Type 0} (f g : A → ℕ) (x : A) (n : ℕ) (xs : List A) (k : ℕ) → k < length xs → slice_index_or xs k x ≡ x → ((y : A) → f y ≤ g y) → f x + n ≤ g x → n + sum_by f xs ≤ sum_by g xs
risen_sum f g x n [] k lt is le more = absurd (omega (arith, lt))
risen_sum f g x n (y ∷ ys) zero lt is le more =
    let here : f y + n ≤ g y = subst (λ z. f z + n ≤ g z) (sym is) more in
    omega (arith, sum_by-cons f y ys, sum_by-cons g y ys, sum_by-le-sum_by f g ys le, here)
risen_sum f g x n (y ∷ ys) (suc k) lt is le more =
    let rest = risen_sum f g x n ys k (omega (arith, lt)) is le more in
    omega (arith, sum_by-cons f y ys, sum_by-cons g y ys, le y, rest)

-- ---- what an entry may leave to run

-- a step owes nothing more, since it was owed before
abbrev owed_of : Catalog → Entry → ℕ
owed_of catalog (Call c i q args) = 1
owed_of catalog (Push c i s source seq rows) = 1 + workflow_size catalog s
owed_of catalog (StepEntry q r) = 0
owed_of catalog (Install c i q text) = 1

left : (b : Bool) (long now count counted grown : ℕ) → counted ≡ count → now ≤ long + grown → cond b (now - counted) 0 ≤ cond b (long - count) 0 + cond b grown 0
left true long now count counted grown same le = omega (arith, same, le)
left false long now count counted grown same le = omega arith

accepted_grows : (c i t : ℕ) (source : List ℕ) (seq : ℕ) (rows : Rows) (o : Outcome) (s : ℕ) → cond (is_accepted_push s (Push c i t source seq rows) o) 1 0 ≤ cond (s == t) 1 0
accepted_grows c i t source seq rows (Done reply) s = omega arith
accepted_grows c i t source seq rows (Aborted reason) s = omega arith
accepted_grows c i t source seq rows (Duplicate n) s = omega arith
accepted_grows c i t source seq rows (Gap n) s = omega arith

module _ (catalog : Catalog) (accepted : Accepted catalog) where
  module _ (db : Database) (in_step : IsInStep catalog db) where
    -- of a stream that the catalogue has, or of another, which has no batch
    grows : (a : Applied) (s n : ℕ) → length a.db.streams ≡ length catalog.streams → (s < length catalog.streams → length (stream_batches a.db s) ≡ length (stream_batches db s) + n)
        → length (stream_batches a.db s) ≤ length (stream_batches db s) + n
    grows a s n shape lengths = ⊎_elim
        (λ (lt : s < length catalog.streams). let is = lengths lt in omega (arith, is))
        (λ (past : length catalog.streams ≤ s). let none = ap length (get_or_past a.db.streams s [] (omega (arith, shape, past))) in omega (arith, none))
        (cases_lt s (length catalog.streams))

    -- an entry that takes no batch and adds none, as a call and an install
    none_leaves : (a : Applied) → length a.db.streams ≡ length catalog.streams → ((q : ℕ) → batch_count a.db q ≡ batch_count db q)
        → ((s : ℕ) → s < length catalog.streams → length (stream_batches a.db s) ≡ length (stream_batches db s) + 0) → pending_steps catalog a.db ≤ pending_steps catalog db
    none_leaves a shape counts lengths =
        sum_by-le-sum_by (pending_batches catalog a.db) (pending_batches catalog db) (procedure_numbers catalog) (λ q. no_more (streams_on catalog q) (pending_batches catalog a.db q) (pending_batches catalog db q)
        (left (streams_on catalog q) (length (stream_batches db (border_stream catalog q))) (length (stream_batches a.db (border_stream catalog q))) (batch_count db q) (batch_count a.db q) 0 (counts q)
        (grows a (border_stream catalog q) 0 shape (lengths (border_stream catalog q)))))
      where
        no_more : (b : Bool) (m n : ℕ) → m ≤ n + cond b 0 0 → m ≤ n
        no_more true m n le = omega (arith, le)
        no_more false m n le = omega (arith, le)

    push_leaves : (c i t : ℕ) (source : List ℕ) (seq : ℕ) (rows : Rows) (a : Applied) → apply catalog db (Push c i t source seq rows) ≡ Some a
        → pending_steps catalog a.db ≤ pending_steps catalog db + workflow_size catalog t
    push_leaves c i t source seq rows a is =
        let k = effect catalog db (Push c i t source seq rows) a in_step.matched.shape is in
        grown_sum (pending_batches catalog a.db) (pending_batches catalog db) (λ q. streams_on catalog q && border_stream catalog q == t) (procedure_numbers catalog) (λ q. one_more (streams_on catalog q) (border_stream catalog q == t) (pending_batches catalog a.db q) (pending_batches catalog db q)
        (left (streams_on catalog q) (length (stream_batches db (border_stream catalog q))) (length (stream_batches a.db (border_stream catalog q))) (batch_count db q) (batch_count a.db q) (cond (border_stream catalog q == t) 1 0) (k.counts q)
        (let grown = grows a (border_stream catalog q) (cond (is_accepted_push (border_stream catalog q) (Push c i t source seq rows) a.outcome) 1 0) k.shaped.streams (k.lengths (border_stream catalog q)) in
        omega (arith, grown, accepted_grows c i t source seq rows a.outcome (border_stream catalog q)))))
      where
        one_more : (b p : Bool) (m n : ℕ) → m ≤ n + cond b (cond p 1 0) 0 → m ≤ n + cond (b && p) 1 0
        one_more true p m n le = le
        one_more false p m n le = le

    entry_leaves : (e : Entry) (a : Applied) → apply catalog db e ≡ Some a → pending_steps catalog a.db + 1 ≤ pending_steps catalog db + owed_of catalog e
    entry_leaves (Call c i q args) a is =
        let k = effect catalog db (Call c i q args) a in_step.matched.shape is in
        let le = none_leaves a k.shaped.streams k.counts k.lengths in omega (arith, le)
    entry_leaves (Install c i q text) a is =
        let k = effect catalog db (Install c i q text) a in_step.matched.shape is in
        let le = none_leaves a k.shaped.streams k.counts k.lengths in omega (arith, le)
    entry_leaves (Push c i s source seq rows) a is = let le = push_leaves c i s source seq rows a is in omega (arith, le)
    entry_leaves (StepEntry q r) a is = let less = lower_pending catalog accepted db in_step q r a is in omega (arith, less)

  -- a list and what is pending behind it
  list_leaves : (list : List Listed) (db : Database) → IsInStep catalog db → Replays catalog db list
      → length list + pending_steps catalog (after catalog db list) ≤ sum_by (λ (l : Listed). owed_of catalog l.entry) list + pending_steps catalog db
  list_leaves [] db in_step replays = omega arith
  list_leaves (l ∷ ls) db in_step replays =
      let found = applied_of (apply catalog db l.entry) l.outcome replays.0 in
      let next : database_after catalog db l.entry ≡ found.0.db = ap (λ (o : Option Applied). unwrap_or (option_map (λ a. a.db) o) db) found.1 in
      let rest = list_leaves ls (database_after catalog db l.entry) (in_step_after catalog accepted.structure.streams.wired db (l ∷ []) in_step) replays.1 in
      let here = entry_leaves db in_step l.entry found.0 found.1 in
      omega (arith, rest, here, ap (pending_steps catalog) next, sum_by-cons (λ (x : Listed). owed_of catalog x.entry) l ls)

-- ---- a client's later entries are other requests

rising_rest : (i : ℕ) (js : List ℕ) → Rising (i ∷ js) → Rising js
rising_rest i [] h = tt
rising_rest i (j ∷ js) h = h.1

all_above : (i j : ℕ) (js : List ℕ) → i < j → AllByRecursion (λ k. j < k) js → AllByRecursion (λ k. i < k) js
all_above i j [] lt h = tt
all_above i j (k ∷ js) lt h = (omega (arith, lt, h.0), all_above i j js lt h.1)

rising_above : (i : ℕ) (js : List ℕ) → Rising (i ∷ js) → AllByRecursion (λ k. i < k) js
rising_above i [] h = tt
rising_above i (j ∷ js) h = (h.0, all_above i j js h.0 (rising_above j js h.1))

-- each index of this client is above this one
abbrev IsAbove : ℕ → ℕ → Entry → Type 0
IsAbove c i x = (j : ℕ) → client_index c x ≡ Some j → i < j

apart : (c i d j : ℕ) → (cond (d == c) (Some j) None ≡ Some j → i < j) → (c == d && i == j) ≡ false
apart c i d j later = by (c == d) refl (i == j) refl
  where
    by : (b : Bool) → (c == d) ≡ b → (p : Bool) → (i == j) ≡ p → (c == d && i == j) ≡ false
    by false is p same = λ k. is k && same k
    by true is false same = λ k. is k && same k
    by true is true same =
        let turned : (d == c) ≡ true = subst (λ n. (n == c) ≡ true) (eqb_is c d is) (eqb_self c) in
        let above : i < j = later (ap (λ b. cond b (Some j) None) turned) in
        absurd (let index = eqb_is i j same in omega (arith, above, index))

apart_call : (c i q : ℕ) (args : Row) (x : Entry) → IsAbove c i x → is_same_request (Call c i q args) x ≡ false
apart_call c i q args (Call d j p more) later = apart c i d j (later j)
apart_call c i q args (Push d j t source seq rows) later = refl
apart_call c i q args (StepEntry p r) later = refl
apart_call c i q args (Install d j p text) later = refl

apart_push : (c i s : ℕ) (source : List ℕ) (seq : ℕ) (rows : Rows) (x : Entry) → IsAbove c i x → is_same_request (Push c i s source seq rows) x ≡ false
apart_push c i s source seq rows (Call d j p more) later = refl
apart_push c i s source seq rows (Push d j t name n others) later = apart c i d j (later j)
apart_push c i s source seq rows (StepEntry p r) later = refl
apart_push c i s source seq rows (Install d j p text) later = refl

apart_install : (c i q : ℕ) (text : List ℕ) (x : Entry) → IsAbove c i x → is_same_request (Install c i q text) x ≡ false
apart_install c i q text (Call d j p args) later = refl
apart_install c i q text (Push d j t source seq rows) later = refl
apart_install c i q text (StepEntry p r) later = refl
apart_install c i q text (Install d j p other) later = apart c i d j (later j)

none_later : (c i : ℕ) (e : Entry) → ((x : Entry) → IsAbove c i x → is_same_request e x ≡ false) → (place : ℕ) (ls : List Listed)
    → AllByRecursion (λ k. i < k) (filter_map (λ (l : Listed). client_index c l.entry) ls) → is_none (find_listed place e ls) ≡ true
none_later c i e other place [] above = refl
none_later c i e other place (l ∷ ls) above = by (none_later c i e other (place + 1) ls) (client_index c l.entry) refl above
  where
    by : (AllByRecursion (λ k. i < k) (filter_map (λ (x : Listed). client_index c x.entry) ls) → is_none (find_listed (place + 1) e ls) ≡ true) → (o : Option ℕ) → client_index c l.entry ≡ o
        → AllByRecursion (λ k. i < k) (cons_option o (filter_map (λ (x : Listed). client_index c x.entry) ls)) → is_none (find_listed place e (l ∷ ls)) ≡ true
    by rest None is all =
        ap (λ b. is_none (cond b (Some (place, l.outcome)) (find_listed (place + 1) e ls))) (other l.entry (λ j some. let no : None ≡ Some j = sym is ∙ some in cc))
        ∙ rest all
    by rest (Some j) is all =
        ap (λ b. is_none (cond b (Some (place, l.outcome)) (find_listed (place + 1) e ls))) (other l.entry (λ k some. subst (λ n. i < n) (some_same j k (sym is ∙ some)) all.0))
        ∙ rest all.1

tail_rises : (l : Listed) (ls : List Listed) → ((client : ℕ) → Rising (filter_map (λ (x : Listed). client_index client x.entry) (l ∷ ls))) → (client : ℕ) → Rising (filter_map (λ (x : Listed). client_index client x.entry) ls)
tail_rises l ls rises client = by (client_index client l.entry) (rises client)
  where
    by : (o : Option ℕ) → Rising (cons_option o (filter_map (λ (x : Listed). client_index client x.entry) ls)) → Rising (filter_map (λ (x : Listed). client_index client x.entry) ls)
    by None h = h
    by (Some i) h = rising_rest i (filter_map (λ (x : Listed). client_index client x.entry) ls) h

-- ---- each request is in the list once, or outside

module _ (catalog : Catalog) (requests : List Request) where
  -- what an entry owes, where it is found in the list
  abbrev found_owed : ℕ → List Listed → Entry → ℕ
  found_owed place list e = cond (is_none (find_listed place e list)) 0 (owed_of catalog e)

  module _ (place : ℕ) (l : Listed) (ls : List Listed) where
    no_less : (e : Entry) → found_owed (place + 1) ls e ≤ found_owed place (l ∷ ls) e
    no_less e = by (is_same_request e l.entry)
      where
        at_most : (b : Bool) (n : ℕ) → cond b 0 n ≤ n
        at_most true n = omega arith
        at_most false n = omega arith

        by : (b : Bool) → cond (is_none (find_listed (place + 1) e ls)) 0 (owed_of catalog e) ≤ cond (is_none (cond b (Some (place, l.outcome)) (find_listed (place + 1) e ls))) 0 (owed_of catalog e)
        by true = at_most (is_none (find_listed (place + 1) e ls)) (owed_of catalog e)
        by false = omega arith

    -- an entry that is asked for, and isn't found later
    newly : (e : Entry) → is_same_request e l.entry ≡ true → is_none (find_listed (place + 1) e ls) ≡ true → Contains (asked_entries requests) e
        → owed_of catalog e + sum_by (found_owed (place + 1) ls) (asked_entries requests) ≤ sum_by (found_owed place (l ∷ ls)) (asked_entries requests)
    newly e same none asked =
        let before : found_owed (place + 1) ls e ≡ 0 = ap (λ b. cond b 0 (owed_of catalog e)) none in
        let now : found_owed place (l ∷ ls) e ≡ owed_of catalog e = ap (λ b. cond (is_none (cond b (Some (place, l.outcome)) (find_listed (place + 1) e ls))) 0 (owed_of catalog e)) same in
        risen_sum (found_owed (place + 1) ls) (found_owed place (l ∷ ls)) e (owed_of catalog e) (asked_entries requests) asked.0 asked.1 asked.2 no_less (omega (arith, before, now))

    one_more : ((client : ℕ) → Rising (filter_map (λ (x : Listed). client_index client x.entry) (l ∷ ls))) → (e : Entry) → l.entry ≡ e → IsAsked requests e
        → owed_of catalog e + sum_by (found_owed (place + 1) ls) (asked_entries requests) ≤ sum_by (found_owed place (l ∷ ls)) (asked_entries requests)
    one_more rises (StepEntry q r) is asked = let le = sum_by-le-sum_by (found_owed (place + 1) ls) (found_owed place (l ∷ ls)) (asked_entries requests) no_less in omega (arith, le)
    one_more rises (Call c i q args) is asked =
        let later = filter_map (λ (x : Listed). client_index c x.entry) ls in
        let index : client_index c l.entry ≡ Some i = ap (client_index c) is ∙ ap (λ b. cond b (Some i) None) (eqb_self c) in
        let above = rising_above i later (subst (λ o. Rising (cons_option o later)) index (rises c)) in
        let itself : is_same_request (Call c i q args) (Call c i q args) ≡ true = λ k. eqb_self c k && eqb_self i k in
        newly (Call c i q args) (ap (is_same_request (Call c i q args)) is ∙ itself) (none_later c i (Call c i q args) (apart_call c i q args) (place + 1) ls above) asked
    one_more rises (Push c i s source seq rows) is asked =
        let later = filter_map (λ (x : Listed). client_index c x.entry) ls in
        let index : client_index c l.entry ≡ Some i = ap (client_index c) is ∙ ap (λ b. cond b (Some i) None) (eqb_self c) in
        let above = rising_above i later (subst (λ o. Rising (cons_option o later)) index (rises c)) in
        let itself : is_same_request (Push c i s source seq rows) (Push c i s source seq rows) ≡ true = λ k. eqb_self c k && eqb_self i k in
        newly (Push c i s source seq rows) (ap (is_same_request (Push c i s source seq rows)) is ∙ itself) (none_later c i (Push c i s source seq rows) (apart_push c i s source seq rows) (place + 1) ls above) asked
    one_more rises (Install c i q text) is asked =
        let later = filter_map (λ (x : Listed). client_index c x.entry) ls in
        let index : client_index c l.entry ≡ Some i = ap (client_index c) is ∙ ap (λ b. cond b (Some i) None) (eqb_self c) in
        let above = rising_above i later (subst (λ o. Rising (cons_option o later)) index (rises c)) in
        let itself : is_same_request (Install c i q text) (Install c i q text) ≡ true = λ k. eqb_self c k && eqb_self i k in
        newly (Install c i q text) (ap (is_same_request (Install c i q text)) is ∙ itself) (none_later c i (Install c i q text) (apart_install c i q text) (place + 1) ls above) asked

  -- what the entries of the list owe is owed by requests that are found in it
  list_found : (place : ℕ) (list : List Listed) → AllByRecursion (λ (l : Listed). IsAsked requests l.entry) list → ((client : ℕ) → Rising (filter_map (λ (l : Listed). client_index client l.entry) list))
      → sum_by (λ (l : Listed). owed_of catalog l.entry) list ≤ sum_by (found_owed place list) (asked_entries requests)
  list_found place [] asked rises = omega arith
  list_found place (l ∷ ls) asked rises =
      let rest = list_found (place + 1) ls asked.1 (tail_rises l ls rises) in
      let here = one_more place l ls rises l.entry refl asked.0 in
      omega (arith, rest, here, sum_by-cons (λ (x : Listed). owed_of catalog x.entry) l ls)

  asked_owes : (c i : ℕ) (what : Asked) → (owed_of catalog (asked_entry c i what) ≡ owed_by catalog what) × (1 ≤ owed_by catalog what)
  asked_owes c i (CallAsked q args) = (refl, omega arith)
  asked_owes c i (PushAsked s source seq rows) = (refl, omega arith)
  asked_owes c i (InstallAsked q text) = (refl, omega arith)

  -- and each request that isn't found owes one at least
  all_owed : (list : List Listed) (earlier rs : List Request)
      → sum_by (found_owed 0 list) (entries_behind earlier rs) + count_by (λ e. is_none (find_listed 0 e list)) (entries_behind earlier rs) ≤ sum_by (λ (r : Request). owed_by catalog r.what) rs
  all_owed list earlier [] = omega arith
  all_owed list earlier (r ∷ rs) =
      let e = asked_entry r.client (count_by (λ x. x.client == r.client) earlier) r.what in
      let es = entries_behind (earlier ++ r ∷ []) rs in
      let rest = all_owed list (earlier ++ r ∷ []) rs in
      let owes = asked_owes r.client (count_by (λ x. x.client == r.client) earlier) r.what in
      let here = by (is_none (find_listed 0 e list)) (owed_of catalog e) (omega (arith, owes.0, owes.1)) in
      omega (arith, rest, here, owes.0, sum_by-cons (found_owed 0 list) e es, count_cons (λ f. is_none (find_listed 0 f list)) e es, sum_by-cons (λ (x : Request). owed_by catalog x.what) r rs)
    where
      by : (b : Bool) (n : ℕ) → 1 ≤ n → cond b 0 n + cond b 1 0 ≤ n
      by true n le = omega (arith, le)
      by false n le = omega arith

pub owed_is_enough : OwedIsEnough
owed_is_enough = λ catalog accepted db in_step requests list lists.
    let leaves = list_leaves catalog accepted list db in_step lists.replays in
    let found = list_found catalog requests 0 list lists.asked lists.in_turn in
    let all = all_owed catalog requests list [] requests in
    omega (arith, leaves, found, all)

pub full_lists_have_all : OwedIsEnough → SettlingTerminates → NextIsReadyAlways → FullListsHaveAll
full_lists_have_all enough ends ready = λ catalog accepted db in_step requests list lists room.
    let bound = enough catalog accepted db in_step requests list lists in
    let rest = ends catalog accepted (after catalog db list) (in_step_after catalog accepted.structure.streams.wired db list in_step) in
    let none : rest.list ≡ [] = nil_from_length rest.list (omega (arith, bound, room, rest.many)) in (
      omega (arith, bound, room),
      (ready catalog (after catalog db list)).none (subst (Settles catalog (after catalog db list)) none rest.settles),
    )
