-- Each accepted push has the next number of its source, and where all that a source asks for is listed all of it is accepted.
use Rattle.std.proofs.Common.{◌≡◌, ◌∙◌, ◌≢◌, ℕ, suc, ◌+◌, ◌<◌, ◌==◌, ◌&&◌, Bool, true, false, cond, List, [], ◌∷◌, ◌++◌, length, get_or, set, Option, Some, None, unwrap_or, refl, sym, ap, subst, arith, length-set}
use Rattle.std.specs.Cmp.Lexicographic.{slice_cmp}
use Rattle.std.specs.FinMap as finmap
use Rattle.std.specs.List.{AllByRecursion, cons_option, count_by, filter_map, range_with_len}
use Rattle.std.specs.Option.{option_map}
use Rattle.std.specs.Ordering.{eq_by_cmp, nat_cmp}
use Rattle.std.proofs.lemmas.Bool.{false≢true, and_parts}
use Rattle.std.proofs.lemmas.Bool.Decides.{Decides-eqb}
use Rattle.std.proofs.lemmas.Cmp.{nat_list_cmp_total}
use Rattle.std.proofs.lemmas.List.{get_or-set_same, get_or-set_other}
use Rattle.std.proofs.lemmas.List.Elements.{All-contains, All-from_recursion}
use Rattle.std.proofs.lemmas.Map.Text.{is_eq-slice_cmp}
use Rattle.std.proofs.lemmas.Slice.Eq.{bytes_eq-Decides}
use Rattle.ss_lemmas.proofs.Bools.{is_false, some_same}
use Rattle.ss_value.specs.Rows.{Row, Rows}
use Rattle.ss_model.specs.declared.catalog.Catalog.{Catalog}
use Rattle.ss_model.specs.declared.catalog.Procedure.{Procedure}
use Rattle.ss_model.specs.declared.entry.Answer.{Answer}
use Rattle.ss_model.specs.declared.entry.Answer.TheVariants.{Listed as ListedAnswer, NoMemory, ListFull, Halted}
use Rattle.ss_model.specs.declared.entry.Asked.{Asked}
use Rattle.ss_model.specs.declared.entry.Asked.TheVariants.{Call as CallAsked, Push as PushAsked, Install as InstallAsked}
use Rattle.ss_model.specs.declared.entry.Entry.{Entry}
use Rattle.ss_model.specs.declared.entry.Entry.TheVariants.{Call, Push, Step as StepEntry, Install}
use Rattle.ss_model.specs.declared.entry.Listed.{Listed}
use Rattle.ss_model.specs.declared.entry.Outcome.{Outcome}
use Rattle.ss_model.specs.declared.entry.Outcome.TheVariants.{Done, Duplicate, Gap}
use Rattle.ss_model.specs.declared.entry.Request.{Request}
use Rattle.ss_model.specs.Database.{Database, NextNumbers, Applied, apply, apply_call, apply_step, accept_batch, next_number, only_when}
use Rattle.ss_model.specs.Orders.{IsWired}
use Rattle.ss_model.specs.Replays.{Replays, database_after}
use Rattle.ss_model.specs.Report.{IsAsked, asked_entry, asked_entries, entries_behind}
use Rattle.ss_report_laws.specs.Replies.{expected_entries, is_of, mine, requests_of}
use Rattle.ss_report_laws.proofs.CallerLemmas.{applied_of}
use Rattle.ss_incarnations.specs.Pushes.{is_push_of, push_number, is_done, accepted_numbers, asked_numbers, entry_asked, pushed_numbers, AllListed, AreConsecutive, OnlyFrom, AcceptedAreConsecutive, AllAreAccepted}

-- ---- one entry

-- what an entry does to the next number of a source: where it is a push of its own, it is accepted exactly where it has that number
record Counts (s : ℕ) (source : List ℕ) (db : Database) (e : Entry) (a : Applied) : Type 0 where
  many : length a.db.next_numbers ≡ length db.next_numbers
  next : next_number a.db s source ≡ cond (is_push_of s source e && is_done a.outcome) (suc (next_number db s source)) (next_number db s source)
  number : (is_push_of s source e && is_done a.outcome) ≡ true → push_number e ≡ next_number db s source
  done : is_push_of s source e ≡ true → push_number e ≡ next_number db s source → is_done a.outcome ≡ true

of_when : {A : Type 0} (b : Bool) (x : Option A) (a : A) → only_when b x ≡ Some a → (b ≡ true) × (x ≡ Some a)
of_when true x a e = (refl, e)
of_when false x a e = cc

module _ (s : ℕ) (source : List ℕ) (db : Database) where
  -- an entry that is no push leaves the numbers
  other : (e : Entry) (a : Applied) → is_push_of s source e ≡ false → a.db.next_numbers ≡ db.next_numbers → Counts s source db e a
  other e a none same = record {
    many = ap length same;
    next = ap (λ (ns : List NextNumbers). unwrap_or (finmap.get (get_or ns s finmap.empty) source) 0) same ∙ sym (ap (λ b. cond (b && is_done a.outcome) (suc (next_number db s source)) (next_number db s source)) none);
    number = λ is. absurd (false≢true (sym (ap (λ b. b && is_done a.outcome) none) ∙ is));
    done = λ is. absurd (false≢true (sym none ∙ is));
  }

  -- the next number of a source, once a number stands at a name
  stands : (t : ℕ) (name : List ℕ) (n : ℕ) → t < length db.next_numbers → (b c : Bool) → ((s == t) ≡ b) × ((b ≡ true → s ≡ t) × (b ≡ false → s ≢ t)) → eq_by_cmp (slice_cmp nat_cmp) source name ≡ c
      → unwrap_or (finmap.get (get_or (set db.next_numbers t (finmap.insert (get_or db.next_numbers t finmap.empty) name n)) s finmap.empty) source) 0 ≡ cond (b && c) n (next_number db s source)
  stands t name n there true c is tied =
      let at : s ≡ t = is.1.0 refl in
      ap (λ k. unwrap_or (finmap.get (get_or (set db.next_numbers t (finmap.insert (get_or db.next_numbers t finmap.empty) name n)) k finmap.empty) source) 0) at
      ∙ ap (λ (m : NextNumbers). unwrap_or (finmap.get m source) 0) (get_or-set_same db.next_numbers t (finmap.insert (get_or db.next_numbers t finmap.empty) name n) finmap.empty there)
      ∙ ap (λ (o : Option ℕ). unwrap_or o 0) (finmap.get-insert nat_list_cmp_total (get_or db.next_numbers t finmap.empty) name n source)
      ∙ by c tied ∙ ap (λ k. cond c n (next_number db k source)) (sym at)
    where
      by : (c : Bool) → eq_by_cmp (slice_cmp nat_cmp) source name ≡ c
          → unwrap_or (cond (eq_by_cmp (slice_cmp nat_cmp) source name) (Some n) (finmap.get (get_or db.next_numbers t finmap.empty) source)) 0 ≡ cond c n (next_number db t source)
      by true tied = ap (λ b. unwrap_or (cond b (Some n) (finmap.get (get_or db.next_numbers t finmap.empty) source)) 0) tied
      by false tied = ap (λ b. unwrap_or (cond b (Some n) (finmap.get (get_or db.next_numbers t finmap.empty) source)) 0) tied
  stands t name n there false c is tied =
      ap (λ (m : NextNumbers). unwrap_or (finmap.get m source) 0) (get_or-set_other db.next_numbers t s _ finmap.empty (is.1.1 refl))

  -- a source that is named so has that next number
  tied_same : (name : List ℕ) → eq_by_cmp (slice_cmp nat_cmp) source name ≡ true → source ≡ name
  tied_same name is = (bytes_eq-Decides source name).0 (sym (is_eq-slice_cmp source name) ∙ is)

  named : (t : ℕ) (name : List ℕ) → (s == t && eq_by_cmp (slice_cmp nat_cmp) source name) ≡ true → next_number db t name ≡ next_number db s source
  named t name is =
      let both = and_parts (s == t) (eq_by_cmp (slice_cmp nat_cmp) source name) is in
      let at : s ≡ t = (Decides-eqb s t).0 both.0 in
      let same : source ≡ name = tied_same name both.1 in
      ap (λ k. next_number db k name) (sym at) ∙ ap (λ (n : List ℕ). next_number db s n) (sym same)

  -- a push of this source or another, with the next number or another
  abbrev own : ℕ → List ℕ → Bool
  own t name = s == t && eq_by_cmp (slice_cmp nat_cmp) source name

  accepted : (client index t : ℕ) (name : List ℕ) (seq : ℕ) (rows : Rows) → t < length db.next_numbers → seq ≡ next_number db t name
      → Counts s source db (Push client index t name seq rows) (record { db = accept_batch db t name seq rows; outcome = Done []; emitted = [] })
  accepted client index t name seq rows there at = record {
    many = length-set db.next_numbers t (finmap.insert (get_or db.next_numbers t finmap.empty) name (seq + 1));
    next = stands t name (seq + 1) there (s == t) (eq_by_cmp (slice_cmp nat_cmp) source name) (refl, both_ways) refl ∙ by (own t name) refl;
    number = λ is. at ∙ named t name (and_parts (own t name) true is).0;
    done = λ is same. refl;
  }
    where
      both_ways : ((s == t) ≡ true → s ≡ t) × ((s == t) ≡ false → s ≢ t)
      both_ways = ((Decides-eqb s t).0, λ differ same. false≢true (sym differ ∙ (Decides-eqb s t).1 same))

      by : (b : Bool) → own t name ≡ b → cond b (seq + 1) (next_number db s source) ≡ cond (b && true) (suc (next_number db s source)) (next_number db s source)
      by true is = let same : seq ≡ next_number db s source = at ∙ named t name is in omega (arith, same)
      by false is = refl

  refused : (client index t : ℕ) (name : List ℕ) (seq : ℕ) (rows : Rows) (o : Outcome) → is_done o ≡ false → (seq ≡ next_number db t name → ⊥)
      → Counts s source db (Push client index t name seq rows) (record { db = db; outcome = o; emitted = [] })
  refused client index t name seq rows o undone differs = record {
    many = refl;
    next = sym (ap (λ b. cond b (suc (next_number db s source)) (next_number db s source)) (neither (own t name)));
    number = λ is. absurd (false≢true (sym (neither (own t name)) ∙ is));
    done = λ is same. absurd (differs (same ∙ sym (named t name is)));
  }
    where
      neither : (b : Bool) → (b && is_done o) ≡ false
      neither true = undone
      neither false = refl

  pushed : (client index t : ℕ) (name : List ℕ) (seq : ℕ) (rows : Rows) → t < length db.next_numbers → (a b : Bool) → (seq == next_number db t name) ≡ a
      → Counts s source db (Push client index t name seq rows) (cond {A = Applied} a (record { db = accept_batch db t name seq rows; outcome = Done []; emitted = [] })
      (cond {A = Applied} b (record { db = db; outcome = Duplicate (next_number db t name); emitted = [] }) (record { db = db; outcome = Gap (next_number db t name); emitted = [] })))
  pushed client index t name seq rows there true b is = accepted client index t name seq rows there ((Decides-eqb seq (next_number db t name)).0 is)
  pushed client index t name seq rows there false true is =
      refused client index t name seq rows (Duplicate (next_number db t name)) refl (λ same. false≢true (sym is ∙ (Decides-eqb seq (next_number db t name)).1 same))
  pushed client index t name seq rows there false false is =
      refused client index t name seq rows (Gap (next_number db t name)) refl (λ same. false≢true (sym is ∙ (Decides-eqb seq (next_number db t name)).1 same))

  module _ (catalog : Catalog) (wired : IsWired catalog) (many : length db.next_numbers ≡ length catalog.streams) where
    called : (client index q : ℕ) (args : Row) (o : Option Procedure) (a : Applied) → apply_call catalog db client q args o ≡ Some a → Counts s source db (Call client index q args) a
    called client index q args None a is = absurd (cc)
    called client index q args (Some p) a is =
        let same = some_same _ a (of_when _ _ a is).1 in other (Call client index q args) a refl (ap (λ (x : Applied). x.db.next_numbers) (sym same))

    run : (q r : ℕ) (o : Option Procedure) (a : Applied) → apply_step catalog db q r o ≡ Some a → Counts s source db (StepEntry q r) a
    run q r None a is = absurd (cc)
    run q r (Some p) a is = let same = some_same _ a (of_when _ _ a is).1 in other (StepEntry q r) a refl (ap (λ (x : Applied). x.db.next_numbers) (sym same))

    counts : (e : Entry) (a : Applied) → apply catalog db e ≡ Some a → Counts s source db e a
    unfolding apply
    counts (Call client index q args) a is = called client index q args _ a is
    counts (StepEntry q r) a is = run q r _ a is
    counts (Install client index q text) a is =
        let same = some_same _ a (of_when _ _ a is).1 in other (Install client index q text) a refl (ap (λ (x : Applied). x.db.next_numbers) (sym same))
    counts (Push client index t name seq rows) a is =
        let fits = of_when _ _ a is in
        let border = (and_parts _ _ (and_parts _ _ (and_parts _ _ (and_parts _ _ fits.0).0).0).0).1 in
        let there : t < length db.next_numbers = subst (λ m. t < m) (sym many) (wired.border_there t border) in
        subst (Counts s source db (Push client index t name seq rows)) (some_same _ a fits.1) (pushed client index t name seq rows there (seq == next_number db t name) _ refl)

-- ---- along a list

record Next (catalog : Catalog) (s : ℕ) (source : List ℕ) (db : Database) (l : Listed) : Type 0 where
  after : Database
  is : database_after catalog db l.entry ≡ after
  many : length after.next_numbers ≡ length db.next_numbers
  next : next_number after s source ≡ cond (is_push_of s source l.entry && is_done l.outcome) (suc (next_number db s source)) (next_number db s source)
  number : (is_push_of s source l.entry && is_done l.outcome) ≡ true → push_number l.entry ≡ next_number db s source
  done : is_push_of s source l.entry ≡ true → push_number l.entry ≡ next_number db s source → is_done l.outcome ≡ true

module _ (catalog : Catalog) (wired : IsWired catalog) (s : ℕ) (source : List ℕ) where
  next_of : (db : Database) (l : Listed) → length db.next_numbers ≡ length catalog.streams → option_map (λ (a : Applied). a.outcome) (apply catalog db l.entry) ≡ Some l.outcome → Next catalog s source db l
  next_of db l many is =
      let a = applied_of (apply catalog db l.entry) l.outcome is in
      let c = counts s source db catalog wired many l.entry a.0 a.1 in
      let outcome : a.0.outcome ≡ l.outcome = some_same _ _ (sym (ap (option_map (λ (x : Applied). x.outcome)) a.1) ∙ is) in
      record {
        after = a.0.db;
        is = ap (λ o. unwrap_or (option_map (λ (x : Applied). x.db) o) db) a.1;
        many = c.many;
        next = c.next ∙ ap (λ o. cond (is_push_of s source l.entry && is_done o) (suc (next_number db s source)) (next_number db s source)) outcome;
        number = λ b. c.number (ap (λ o. is_push_of s source l.entry && is_done o) outcome ∙ b);
        done = λ b n. ap is_done (sym outcome) ∙ c.done b n;
      }

  consecutive : (db : Database) (list : List Listed) → length db.next_numbers ≡ length catalog.streams → Replays catalog db list → AreConsecutive (next_number db s source) (accepted_numbers s source list)
  consecutive db [] many replays = refl
  consecutive db (l ∷ ls) many replays =
      let n = next_of db l many replays.0 in
      by n.after (is_push_of s source l.entry && is_done l.outcome) refl n.next n.number (consecutive n.after ls (n.many ∙ many) (subst (λ d. Replays catalog d ls) n.is replays.1))
    where
      rest : List ℕ
      rest = accepted_numbers s source ls

      by : (after : Database) (b : Bool) → (is_push_of s source l.entry && is_done l.outcome) ≡ b → next_number after s source ≡ cond (is_push_of s source l.entry && is_done l.outcome) (suc (next_number db s source)) (next_number db s source)
          → ((is_push_of s source l.entry && is_done l.outcome) ≡ true → push_number l.entry ≡ next_number db s source) → AreConsecutive (next_number after s source) rest
          → AreConsecutive (next_number db s source) (cons_option (cond (is_push_of s source l.entry && is_done l.outcome) (Some (push_number l.entry)) None) rest)
      by after true is next number more =
          let at = number is in
          let from : next_number after s source ≡ next_number db s source + 1 = (let e : next_number after s source ≡ suc (next_number db s source) = next ∙ ap (λ b. cond b (suc (next_number db s source)) (next_number db s source)) is in omega (arith, e)) in
          subst (λ b. AreConsecutive (next_number db s source) (cons_option (cond b (Some (push_number l.entry)) None) rest)) (sym is)
          ((λ i. at i ∷ more i) ∙ ap (λ y. next_number db s source ∷ range_with_len y (length rest)) from)
      by after false is next number more =
          let same : next_number after s source ≡ next_number db s source = next ∙ ap (λ b. cond b (suc (next_number db s source)) (next_number db s source)) is in
          subst (λ b. AreConsecutive (next_number db s source) (cons_option (cond b (Some (push_number l.entry)) None) rest)) (sym is)
          (more ∙ ap (λ y. range_with_len y (length rest)) same)

  -- where all pushes of a source have consecutive numbers from the next one on, all are accepted
  pub all_done : (db : Database) (list : List Listed) → length db.next_numbers ≡ length catalog.streams → Replays catalog db list → AreConsecutive (next_number db s source) (pushed_numbers s source list)
      → accepted_numbers s source list ≡ pushed_numbers s source list
  all_done db [] many replays numbers = refl
  all_done db (l ∷ ls) many replays numbers =
      let n = next_of db l many replays.0 in
      by n.after (is_push_of s source l.entry) refl n.next n.done numbers (all_done n.after ls (n.many ∙ many) (subst (λ d. Replays catalog d ls) n.is replays.1))
    where
      accepted_rest : List ℕ
      accepted_rest = accepted_numbers s source ls

      rest : List ℕ
      rest = pushed_numbers s source ls

      first_number : List ℕ → ℕ → ℕ
      first_number [] other = other
      first_number (x ∷ xs) other = x

      others : List ℕ → List ℕ
      others [] = []
      others (x ∷ xs) = xs

      by : (after : Database) (b : Bool) → is_push_of s source l.entry ≡ b → next_number after s source ≡ cond (is_push_of s source l.entry && is_done l.outcome) (suc (next_number db s source)) (next_number db s source)
          → (is_push_of s source l.entry ≡ true → push_number l.entry ≡ next_number db s source → is_done l.outcome ≡ true)
          → AreConsecutive (next_number db s source) (cons_option (cond (is_push_of s source l.entry) (Some (push_number l.entry)) None) rest)
          → (AreConsecutive (next_number after s source) rest → accepted_rest ≡ rest)
          → cons_option (cond (is_push_of s source l.entry && is_done l.outcome) (Some (push_number l.entry)) None) accepted_rest ≡ cons_option (cond (is_push_of s source l.entry) (Some (push_number l.entry)) None) rest
      by after true is next done numbers more =
          let here = subst (λ b. AreConsecutive (next_number db s source) (cons_option (cond b (Some (push_number l.entry)) None) rest)) is numbers in
          let at : push_number l.entry ≡ next_number db s source = ap (λ xs. first_number xs (push_number l.entry)) here in
          let ok = done is at in
          let from : next_number db s source + 1 ≡ next_number after s source =
          (let e : next_number after s source ≡ suc (next_number db s source) = next ∙ ap (λ b. cond b (suc (next_number db s source)) (next_number db s source)) (λ i. is i && ok i) in omega (arith, e)) in
          let further : AreConsecutive (next_number after s source) rest = ap others here ∙ ap (λ y. range_with_len y (length rest)) from in
          ap (λ b. cons_option (cond b (Some (push_number l.entry)) None) accepted_rest) (λ i. is i && ok i) ∙ ap (λ xs. push_number l.entry ∷ xs) (more further) ∙ ap (λ b. cons_option (cond b (Some (push_number l.entry)) None) rest) (sym is)
      by after false is next done numbers more =
          let none : (is_push_of s source l.entry && is_done l.outcome) ≡ false = ap (λ b. b && is_done l.outcome) is in
          let same : next_number after s source ≡ next_number db s source = next ∙ ap (λ b. cond b (suc (next_number db s source)) (next_number db s source)) none in
          let here = subst (λ b. AreConsecutive (next_number db s source) (cons_option (cond b (Some (push_number l.entry)) None) rest)) is numbers in
          ap (λ b. cons_option (cond b (Some (push_number l.entry)) None) accepted_rest) none
          ∙ more (here ∙ ap (λ y. range_with_len y (length rest)) (sym same)) ∙ ap (λ b. cons_option (cond b (Some (push_number l.entry)) None) rest) (sym is)

pub accepted_are_consecutive : AcceptedAreConsecutive
accepted_are_consecutive = λ catalog accepted db whole list replays s source. consecutive catalog accepted.structure.streams.wired s source db list whole.next_count replays

-- ---- what a list has is what was asked for

abbrev pub number_of : ℕ → List ℕ → Entry → Option ℕ
number_of s source e = cond (is_push_of s source e) (Some (push_number e)) None

abbrev numbers_of : ℕ → List ℕ → List (ℕ × Listed) → List ℕ
numbers_of s source ps = filter_map (λ (p : ℕ × Listed). number_of s source p.1.entry) ps

abbrev pub IsIts : ℕ → ℕ → List ℕ → Entry → Type 0
IsIts client s source e = is_push_of s source e ≡ true → is_of client e ≡ true

-- where all pushes of a source are a client's, they are among its entries
among_mine : (client s : ℕ) (source : List ℕ) (place : ℕ) (list : List Listed) → AllByRecursion (λ (l : Listed). IsIts client s source l.entry) list
    → pushed_numbers s source list ≡ numbers_of s source (mine client place list)
among_mine client s source place [] all = refl
among_mine client s source place (l ∷ ls) all = by (is_of client l.entry) refl (among_mine client s source (place + 1) ls all.1)
  where
    by : (b : Bool) → is_of client l.entry ≡ b → pushed_numbers s source ls ≡ numbers_of s source (mine client (place + 1) ls)
        → cons_option (number_of s source l.entry) (pushed_numbers s source ls) ≡ numbers_of s source (cond b ((place, l) ∷ mine client (place + 1) ls) (mine client (place + 1) ls))
    by true is rest = ap (cons_option (number_of s source l.entry)) rest
    by false is rest =
        let none : is_push_of s source l.entry ≡ false = is_false (is_push_of s source l.entry) (λ it. false≢true (sym is ∙ all.0 it)) in
        ap (λ b. cons_option (cond b (Some (push_number l.entry)) None) (pushed_numbers s source ls)) none ∙ rest

-- which request of a client it is says nothing of its source
pub same_push : (s : ℕ) (source : List ℕ) (c d i j : ℕ) (what : Asked) → is_push_of s source (asked_entry c i what) ≡ is_push_of s source (asked_entry d j what)
same_push s source c d i j (CallAsked q args) = refl
same_push s source c d i j (PushAsked t name seq rows) = refl
same_push s source c d i j (InstallAsked q text) = refl

pub same_number : (s : ℕ) (source : List ℕ) (c d i j : ℕ) (what : Asked) → number_of s source (asked_entry c i what) ≡ number_of s source (asked_entry d j what)
same_number s source c d i j (CallAsked q args) = refl
same_number s source c d i j (PushAsked t name seq rows) = refl
same_number s source c d i j (InstallAsked q text) = refl

-- one that is not listed is not the source's
not_its : (s : ℕ) (source : List ℕ) (r : Request) (rs : List Request) {numbers : List ℕ} → numbers ≡ asked_numbers s source rs → (is_push_of s source (entry_asked r) ≡ true → ⊥)
    → numbers ≡ cons_option (number_of s source (entry_asked r)) (asked_numbers s source rs)
not_its s source r rs rest others = rest ∙ sym (ap (λ b. cons_option (cond b (Some (push_number (entry_asked r))) None) (asked_numbers s source rs)) (is_false (is_push_of s source (entry_asked r)) others))

-- where each of a client's pushes is listed, they are those that it asked for
all_expected : (client s : ℕ) (source : List ℕ) (i : ℕ) (rs : List Request) (answers : List Answer) → length answers ≡ length rs → AllListed s source rs answers
    → numbers_of s source (expected_entries client i rs answers) ≡ asked_numbers s source rs
all_expected client s source i [] answers many all = refl
all_expected client s source i (r ∷ rs) [] many all = absurd all
all_expected client s source i (r ∷ rs) (ListedAnswer place outcome ∷ answers) many all =
    ap (λ o. cons_option o (numbers_of s source (expected_entries client (i + 1) rs answers))) (same_number s source client r.client i 0 r.what)
    ∙ ap (cons_option (number_of s source (entry_asked r))) (all_expected client s source (i + 1) rs answers (omega (arith, many)) all.1)
all_expected client s source i (r ∷ rs) (NoMemory ∷ answers) many all = not_its s source r rs (all_expected client s source (i + 1) rs answers (omega (arith, many)) all.1) all.0
all_expected client s source i (r ∷ rs) (ListFull count ∷ answers) many all = not_its s source r rs (all_expected client s source (i + 1) rs answers (omega (arith, many)) all.1) all.0
all_expected client s source i (r ∷ rs) (Halted faults ∷ answers) many all = not_its s source r rs (all_expected client s source (i + 1) rs answers (omega (arith, many)) all.1) all.0

-- those of all are those of the one client
only_its : (client s : ℕ) (source : List ℕ) (rs : List Request) → OnlyFrom client s source rs → asked_numbers s source (requests_of client rs) ≡ asked_numbers s source rs
only_its client s source [] all = refl
only_its client s source (r ∷ rs) all = by (r.client == client) refl (only_its client s source rs all.1)
  where
    by : (b : Bool) → (r.client == client) ≡ b → asked_numbers s source (requests_of client rs) ≡ asked_numbers s source rs
        → asked_numbers s source (cond b (r ∷ requests_of client rs) (requests_of client rs)) ≡ cons_option (number_of s source (entry_asked r)) (asked_numbers s source rs)
    by true is rest = ap (cons_option (number_of s source (entry_asked r))) rest
    by false is rest =
        let none : is_push_of s source (entry_asked r) ≡ false = is_false (is_push_of s source (entry_asked r)) (λ it. false≢true (sym is ∙ (Decides-eqb r.client client).1 (all.0 it))) in
        rest ∙ sym (ap (λ b. cons_option (cond b (Some (push_number (entry_asked r))) None) (asked_numbers s source rs)) none)

pub asked_its : (client s : ℕ) (source : List ℕ) (earlier rs : List Request) → OnlyFrom client s source rs → AllByRecursion (IsIts client s source) (entries_behind earlier rs)
asked_its client s source earlier [] all = tt
asked_its client s source earlier (r ∷ rs) all = (here, asked_its client s source (earlier ++ r ∷ []) rs all.1)
  where
    index : ℕ
    index = count_by (λ (x : Request). x.client == r.client) earlier

    its : (what : Asked) → r.client ≡ client → is_of client (asked_entry r.client index what) ≡ true
    its (CallAsked q args) same = (Decides-eqb r.client client).1 same
    its (PushAsked t name seq rows) same = (Decides-eqb r.client client).1 same
    its (InstallAsked q text) same = (Decides-eqb r.client client).1 same

    here : IsIts client s source (asked_entry r.client index r.what)
    here it = its r.what (all.0 (same_push s source r.client r.client 0 index r.what ∙ it))

asked_is_its : (client s : ℕ) (source : List ℕ) (requests : List Request) (e : Entry) → OnlyFrom client s source requests → IsAsked requests e → IsIts client s source e
asked_is_its client s source requests (Call c i q args) all asked = λ it. absurd (false≢true it)
asked_is_its client s source requests (StepEntry q r) all asked = λ it. absurd (false≢true it)
asked_is_its client s source requests (Install c i q text) all asked = λ it. absurd (false≢true it)
asked_is_its client s source requests (Push c i t name seq rows) all asked =
    All-contains (IsIts client s source) (asked_entries requests) (Push c i t name seq rows) (All-from_recursion (IsIts client s source) (asked_entries requests) (asked_its client s source [] requests all)) asked

pub all_its : (client s : ℕ) (source : List ℕ) (requests : List Request) (list : List Listed) → OnlyFrom client s source requests → AllByRecursion (λ (l : Listed). IsAsked requests l.entry) list
    → AllByRecursion (λ (l : Listed). IsIts client s source l.entry) list
all_its client s source requests [] all asked = tt
all_its client s source requests (l ∷ ls) all asked = (asked_is_its client s source requests l.entry all asked.0, all_its client s source requests ls all asked.1)

pub all_are_accepted : AllAreAccepted
all_are_accepted = λ catalog accepted db whole list replays requests first answers client s source asked told only listed numbers.
    let same : pushed_numbers s source list ≡ asked_numbers s source requests =
    among_mine client s source first list (all_its client s source requests list only asked)
    ∙ ap (numbers_of s source) told.each
    ∙ all_expected client s source 0 (requests_of client requests) answers told.many listed
    ∙ only_its client s source requests only in
    all_done catalog accepted.structure.streams.wired s source db list whole.next_count replays (subst (AreConsecutive (next_number db s source)) (sym same) numbers) ∙ same
