-- Two runs of one client's requests, of which one accepts no push, are the same.
use Rattle.std.proofs.Common.{◌≡◌, ◌∙◌, ℕ, ◌+◌, List, [], ◌∷◌, ◌++◌, length, Bool, true, false, not, ◌||◌, cond, Option, Some, None, refl, sym, ap, ap₂, subst, arith}
use Rattle.std.specs.List.{AllByRecursion, Contains, cons_option, count_by}
use Rattle.std.specs.Option.{is_none}
use Rattle.std.proofs.lemmas.List.Elements.{All-from_recursion, All-contains}
use Rattle.ss_lemmas.proofs.Bools.{some_same}
use Rattle.ss_lemmas.proofs.Counts.{count_cons}
use Rattle.ss_lemmas.proofs.EachOf.{all_with}
use Rattle.ss_model.specs.declared.catalog.Catalog.{Catalog}
use Rattle.ss_model.specs.declared.entry.Answer.{Answer}
use Rattle.ss_model.specs.declared.entry.Entry.{Entry}
use Rattle.ss_model.specs.declared.entry.Listed.{Listed}
use Rattle.ss_model.specs.declared.entry.Outcome.{Outcome}
use Rattle.ss_model.specs.declared.entry.Request.{Request}
use Rattle.ss_model.specs.Accepted.{Accepted}
use Rattle.ss_model.specs.Database.{Database}
use Rattle.ss_model.specs.InStep.{IsInStep}
use Rattle.ss_model.specs.Orders.{accepted_pushes}
use Rattle.ss_model.specs.Replays.{Replays, after, database_after, entry_outcome}
use Rattle.ss_model.specs.Report.{AreAnswers, IsAnswer, IsAsked, Report, Unlisted, Whole, asked_entries, client_index, find_listed, is_same_request, reply_lines, report_text}
use Rattle.ss_model.specs.ReportLines.{database_lines, done_line, list_lines, lines_text}
use Rattle.ss_model.specs.Settling.{kept, pending_steps}
use Rattle.ss_model_kept.proofs.CallerLemmas.{from_kept}
use Rattle.ss_model_laws.proofs.CallerLemmas.{kept_carries}
use Rattle.ss_report_laws.proofs.CallerLemmas.{HaveTheSame, indices, is_found, same_asked, same_indices}
use Rattle.ss_headline.specs.Owed.{outside}
use Rattle.ss_run_laws.specs.OneClient.{OneClientOneReport}
use Rattle.ss_run_laws.proofs.InOrder.{among_asked, index_from, numbered}
use Rattle.ss_run_laws.proofs.Resting.{no_step, none_here, rests}
use Rattle.ss_run_laws.proofs.Taken.{ran}

-- ---- none is outside

none_passes : {A : Type 0} (p : A → Bool) (xs : List A) → count_by p xs ≡ 0 → AllByRecursion (λ x. p x ≡ false) xs
none_passes p [] e = tt
none_passes p (x ∷ xs) e = by (p x) refl (none_passes p xs)
  where
    by : (b : Bool) → p x ≡ b → (count_by p xs ≡ 0 → AllByRecursion (λ x. p x ≡ false) xs) → (p x ≡ false) × AllByRecursion (λ x. p x ≡ false) xs
    by true is rest = absurd (let here : ◌≡◌ {A = ℕ} (cond (p x) 1 0) 1 = ap (λ b. cond b 1 0) is in omega (arith, here, e, count_cons p x xs))
    by false is rest = (is, rest (omega (arith, e, count_cons p x xs)))

found : (place : ℕ) (e : Entry) (list : List Listed) → is_none (find_listed place e list) ≡ not (is_found e list)
found place e [] = refl
found place e (l ∷ ls) = by (is_same_request e l.entry) (found (place + 1) e ls)
  where
    by : (b : Bool) → is_none (find_listed (place + 1) e ls) ≡ not (is_found e ls)
        → is_none (cond b (Some (place, l.outcome)) (find_listed (place + 1) e ls)) ≡ not (b || is_found e ls)
    by true rest = refl
    by false rest = rest

turned : (b : Bool) → not b ≡ false → b ≡ true
turned true e = refl
turned false e = cc

all_found : (requests : List Request) (list : List Listed) → outside requests list ≡ 0 → AllByRecursion (λ e. is_found e list ≡ true) (asked_entries requests)
all_found requests list none =
    all_with (λ e. is_none (find_listed 0 e list) ≡ false) (λ e. is_found e list ≡ true) (λ e no. turned (is_found e list) (sym (found 0 e list) ∙ no)) (asked_entries requests)
    (none_passes (λ e. is_none (find_listed 0 e list)) (asked_entries requests) none)

found_one : (requests : List Request) (list : List Listed) (e : Entry) → outside requests list ≡ 0 → Contains (asked_entries requests) e → is_found e list ≡ true
found_one requests list e none among =
    All-contains (λ e. is_found e list ≡ true) (asked_entries requests) e (All-from_recursion (λ e. is_found e list ≡ true) (asked_entries requests) (all_found requests list none)) among

-- ---- the list

module _ (catalog : Catalog) (accepted : Accepted catalog) (c : ℕ) (requests : List Request) (alone : AllByRecursion (λ (r : Request). r.client ≡ c) requests) where
  -- an entry with a value where no step is pending is one that the client asks for, and has an index
  record IsOwn (l : Listed) : Type 0 where
    among : Contains (asked_entries requests) l.entry
    index : ℕ
    is : client_index c l.entry ≡ Some index

  own : (db : Database) (l : Listed) (ls : List Listed) → IsInStep catalog db → pending_steps catalog db ≡ 0 → Replays catalog db (l ∷ ls) → IsAsked requests l.entry → IsOwn l
  own db l ls in_step none replays asked =
      let other = no_step catalog accepted db in_step l (ran catalog accepted db l ls in_step replays) none in
      let among = among_asked requests l.entry other asked in
      let (i, is, from) = index_from c 0 (asked_entries requests) l.entry (numbered c [] requests alone) among in
      record { among = among; index = i; is = is }

  same_list : (list other : List Listed) (db : Database) → IsInStep catalog db → pending_steps catalog db ≡ 0 → ((s : ℕ) → accepted_pushes s list ≡ 0)
      → Replays catalog db list → Replays catalog db other → AllByRecursion (λ (l : Listed). IsAsked requests l.entry) list → AllByRecursion (λ (l : Listed). IsAsked requests l.entry) other
      → indices c list ≡ indices c other → list ≡ other
  same_list [] [] db in_step none refused h k asked also same = refl
  same_list [] (m ∷ ms) db in_step none refused h k asked also same =
      let that_one = own db m ms in_step none k also.0 in
      let no : ◌≡◌ {A = List ℕ} [] (that_one.index ∷ indices c ms) = same ∙ ap (λ o. cons_option o (indices c ms)) that_one.is in
      cc
  same_list (l ∷ ls) [] db in_step none refused h k asked also same =
      let this_one = own db l ls in_step none h asked.0 in
      let no : ◌≡◌ {A = List ℕ} [] (this_one.index ∷ indices c ls) = sym same ∙ ap (λ o. cons_option o (indices c ls)) this_one.is in
      cc
  same_list (l ∷ ls) (m ∷ ms) db in_step none refused h k asked also same =
      let this_one = own db l ls in_step none h asked.0 in
      let that_one = own db m ms in_step none k also.0 in
      let both : this_one.index ∷ indices c ls ≡ that_one.index ∷ indices c ms = sym (ap (λ o. cons_option o (indices c ls)) this_one.is) ∙ same ∙ ap (λ o. cons_option o (indices c ms)) that_one.is in
      let index : this_one.index ≡ that_one.index = cc in
      let others : indices c ls ≡ indices c ms = cc in
      let entry : l.entry ≡ m.entry = same_asked c this_one.index requests l.entry m.entry this_one.among that_one.among this_one.is (that_one.is ∙ ap Some (sym index)) in
      let outcome : l.outcome ≡ m.outcome = some_same l.outcome m.outcome (sym h.0 ∙ ap (entry_outcome catalog db) entry ∙ k.0) in
      let first : l ≡ m = λ i. record { entry = entry i; outcome = outcome i } in
      let one = ran catalog accepted db l ls in_step h in
      let next : Replays catalog (database_after catalog db l.entry) ms = subst (λ x. Replays catalog (database_after catalog db x) ms) (sym entry) k.1 in
      let rest = same_list ls ms (database_after catalog db l.entry) one.in_step (rests catalog accepted db in_step l one none (λ s. (none_here catalog accepted l ls refused s).0))
      (λ s. (none_here catalog accepted l ls refused s).1) h.1 next asked.1 also.1 others in
      ap₂ ◌∷◌ first rest

-- ---- the report

-- of entries that are all found, the answers are told
same_answer : (u v : Answer → Type 0) (o : Option (ℕ × Outcome)) (a b : Answer) → is_none o ≡ false → IsAnswer u o a → IsAnswer v o b → a ≡ b
same_answer u v None a b some h k = cc
same_answer u v (Some answered) a b some h k = h ∙ sym k

same_answers : (u v : Answer → Type 0) (first : ℕ) (list : List Listed) (es : List Entry) (answers others : List Answer) → AllByRecursion (λ e. is_found e list ≡ true) es
    → AreAnswers u first list es answers → AreAnswers v first list es others → answers ≡ others
same_answers u v first list [] [] [] all h k = refl
same_answers u v first list [] [] (b ∷ more) all h k = absurd k
same_answers u v first list [] (a ∷ rest) others all h k = absurd h
same_answers u v first list (e ∷ es) [] others all h k = absurd h
same_answers u v first list (e ∷ es) (a ∷ rest) [] all h k = absurd k
same_answers u v first list (e ∷ es) (a ∷ rest) (b ∷ more) all h k =
    ap₂ ◌∷◌ (same_answer u v (find_listed first e list) a b (found first e list ∙ ap not all.0) h.0 k.0) (same_answers u v first list es rest more all.1 h.1 k.1)

module _ (catalog : Catalog) (x y : Database) (same : kept catalog x ≡ kept catalog y) where
  same_tables : (list : List Listed) → database_lines catalog (after catalog x list) ≡ database_lines catalog (after catalog y list)
  same_tables list =
      let tables = (from_kept catalog (after catalog x list) (after catalog y list) (kept_carries catalog x y same list).after).contents.tables in
      λ i. database_lines catalog (record (after catalog x list) { contents = record (after catalog x list).contents { tables = tables i } })

  same_text : (requests : List Request) (list : List Listed) → outside requests list ≡ 0 → (first : ℕ) (text more : List ℕ)
      → Report catalog requests x first list Whole text → Report catalog requests y first list Whole more → text ≡ more
  same_text requests list none first text more one two =
      let answers = same_answers (Unlisted Whole) (Unlisted Whole) first list (asked_entries requests) one.answers two.answers (all_found requests list none) one.answered two.answered in
      one.text
      ∙ ap (λ told. report_text catalog requests told first list x Whole) answers
      ∙ ap (λ ls. lines_text (reply_lines catalog requests two.answers ++ list_lines catalog first list ++ (ls ++ done_line (length list) ∷ []))) (same_tables list)
      ∙ sym two.text

pub one_client_one_report : OneClientOneReport
one_client_one_report = λ catalog accepted x y same client requests list other runs lists none none_other.
    let both : HaveTheSame requests list other = λ e among. found_one requests list e none among ∙ sym (found_one requests other e none_other among) in
    let indexed = same_indices requests list other both runs.lists.asked lists.asked runs.lists.in_turn lists.in_turn client in
    let carried = (kept_carries catalog y x (sym same) other).replays lists.replays in
    let one = same_list catalog accepted client requests runs.alone list other x runs.in_step runs.settled runs.none_accepted runs.lists.replays carried runs.lists.asked lists.asked indexed in
    record {
      same_list = one;
      same_report = λ first text more h k. same_text catalog x y same requests list none first text more h (subst (λ z. Report catalog requests y first z Whole more) (sym one) k);
    }
