-- Lists that replay from one database, with the same lines, are the same.
use Rattle.std.proofs.Common.{◌≡◌, ◌∙◌, ◌+◌, ◌^◌, ◌<◌, ◌==◌, ℕ, zero, suc, List, [], ◌∷◌, ◌++◌, map, decimal, true, false, cond, Option, Some, None, refl, sym, ap, ap₂, subst, arith, slice_get, unwrap_or, append_assoc}
use Rattle.std.specs.Option.{option_map}
use Rattle.std.specs.List.{AllByRecursion, list_any, cons_option}
use Rattle.std.proofs.lemmas.Bool.{both_ways, eqb-true, eq-eqb, ltb-true, not-true, or_left, or_right}
use Rattle.std.proofs.lemmas.Fmt.{decimal_injective}
use Rattle.std.proofs.lemmas.Map.Text.{is_eq-slice_cmp}
use Rattle.std.proofs.lemmas.Slice.Eq.{bytes_eq-Decides}
use Rattle.serde_json.specs.Data.{Data}
use Rattle.serde_json.specs.Written.{compact_text}
use Rattle.ss_value.specs.Rows.{Row, Rows}
use Rattle.ss_model.specs.declared.catalog.Catalog.{Catalog}
use Rattle.ss_model.specs.declared.catalog.Procedure.{Procedure}
use Rattle.ss_model.specs.declared.entry.Entry.{Entry}
use Rattle.ss_model.specs.declared.entry.Entry.TheVariants.{Call, Push, Step as StepEntry, Install}
use Rattle.ss_model.specs.declared.entry.Listed.{Listed}
use Rattle.ss_model.specs.declared.entry.Outcome.{Outcome}
use Rattle.ss_model.specs.declared.entry.Request.{Request}
use Rattle.ss_model.specs.Accepted.{Accepted}
use Rattle.ss_model.specs.CatalogForm.{names_equal, all_distinct, has_distinct_names}
use Rattle.ss_model.specs.Database.{Database, Applied, apply, apply_step, batch_count, is_ready, has_call}
use Rattle.ss_model.specs.Replays.{Replays, entry_outcome, database_after}
use Rattle.ss_model.specs.Report.{IsAsked, client_index, reply_lines, end_lines}
use Rattle.ss_model.specs.ReportLines.{entry_line, list_lines}
use Rattle.ss_lemmas.proofs.Bools.{first_of_two, second_of_two, some_same}
use Rattle.ss_model.proofs.CallerLemmas.{applied_fits, tested}
use Rattle.ss_report_laws.specs.OneList.{ReportsList}
use Rattle.ss_report_laws.proofs.Lines.{texts, same_lines}
use Rattle.ss_report_laws.proofs.LineText.{mark, entry_mark, marked, begins_entry, entry_begins, end_begins, name_of, call_client, push_client, install_client, step_name}
use Rattle.ss_report_laws.proofs.Asked.{same_asked}
use Rattle.ss_report_laws.proofs.Replies.{same_answers, in_both}
use Rattle.ss_report_laws.proofs.SameIndices.{indices, same_indices}

-- ---- what an entry that has an outcome is

pub applied_of : (o : Option Applied) (outcome : Outcome) → option_map (λ (a : Applied). a.outcome) o ≡ Some outcome → (a : Applied) × (o ≡ Some a)
applied_of None outcome e = absurd (cc)
applied_of (Some a) outcome e = (a, refl)

-- the client of a call, a push or an install is below 8
client_of_call : (client : ℕ) (args : Row) (o : Option Procedure) → has_call client args o ≡ true → client < 8
client_of_call client args None h = absurd (both_ways false refl h)
client_of_call client args (Some p) h = ltb-true client 8 (first_of_two _ _ (first_of_two _ _ h))

call_within : (catalog : Catalog) (db : Database) (c i q : ℕ) (args : Row) (outcome : Outcome) → entry_outcome catalog db (Call c i q args) ≡ Some outcome → c < 8
call_within catalog db c i q args outcome e =
    let a = applied_of (apply catalog db (Call c i q args)) outcome e in
    client_of_call c args (slice_get catalog.procedures q) (applied_fits catalog db (Call c i q args) a.0 a.1)

push_within : (catalog : Catalog) (db : Database) (c i s : ℕ) (source : List ℕ) (seq : ℕ) (rows : Rows) (outcome : Outcome) → entry_outcome catalog db (Push c i s source seq rows) ≡ Some outcome → c < 8
push_within catalog db c i s source seq rows outcome e =
    let a = applied_of (apply catalog db (Push c i s source seq rows)) outcome e in
    ltb-true c 8 (first_of_two _ _ (first_of_two _ _ (first_of_two _ _ (first_of_two _ _ (applied_fits catalog db (Push c i s source seq rows) a.0 a.1)))))

install_within : (catalog : Catalog) (db : Database) (c i q : ℕ) (text : List ℕ) (outcome : Outcome) → entry_outcome catalog db (Install c i q text) ≡ Some outcome → c < 8
install_within catalog db c i q text outcome e =
    let a = applied_of (apply catalog db (Install c i q text)) outcome e in
    ltb-true c 8 (first_of_two _ _ (first_of_two _ _ (first_of_two _ _ (applied_fits catalog db (Install c i q text) a.0 a.1))))

-- a procedure that is there, and as many batches as it has taken
record Ready (catalog : Catalog) (db : Database) (q r : ℕ) : Type 0 where
  procedure : Procedure
  there : slice_get catalog.procedures q ≡ Some procedure
  counted : batch_count db q ≡ r

step_ready : (catalog : Catalog) (db : Database) (q r : ℕ) (o : Option Procedure) (a : Applied) → slice_get catalog.procedures q ≡ o → apply_step catalog db q r o ≡ Some a → Ready catalog db q r
step_ready catalog db q r None a is e = absurd (cc)
step_ready catalog db q r (Some p) a is e = record {
  procedure = p;
  there = is;
  counted = eqb-true (batch_count db q) r (second_of_two _ _ (first_of_two _ _ (tested (is_ready db q r p) _ a e)));
}

ready : (catalog : Catalog) (db : Database) (q r : ℕ) (outcome : Outcome) → entry_outcome catalog db (StepEntry q r) ≡ Some outcome → Ready catalog db q r
unfolding apply
ready catalog db q r outcome e =
    let a = applied_of (apply catalog db (StepEntry q r)) outcome e in
    step_ready catalog db q r (slice_get catalog.procedures q) a.0 refl a.1

-- ---- names of procedures

-- the same bytes are the same name
same_names : (x y : List ℕ) → x ≡ y → names_equal x y ≡ true
same_names x y e = is_eq-slice_cmp x y ∙ (bytes_eq-Decides x y).1 e

stands : (n : List ℕ) (ps : List Procedure) (s : ℕ) (p : Procedure) → slice_get ps s ≡ Some p → n ≡ p.name → list_any (names_equal n) (map (λ d. d.name) ps) ≡ true
stands n [] s p there e = absurd (cc)
stands n (x ∷ ps) zero p there e = or_left (names_equal n x.name) _ (same_names n x.name (e ∙ ap (λ d. d.name) (sym (some_same x p there))))
stands n (x ∷ ps) (suc s) p there e = or_right (names_equal n x.name) _ (stands n ps s p there e)

-- a name that is there once is not behind itself
once : (x : Procedure) (ps : List Procedure) (s : ℕ) (p q : Procedure) → all_distinct (map (λ d. d.name) (x ∷ ps)) ≡ true → Some x ≡ Some q → slice_get ps s ≡ Some p → q.name ≡ p.name → ⊥
once x ps s p q distinct here there e =
    both_ways (list_any (names_equal x.name) (map (λ d. d.name) ps)) (not-true _ (first_of_two _ _ distinct))
    (stands x.name ps s p there (ap (λ d. d.name) (some_same x q here) ∙ e))

-- where names are there once, procedures of one name are one
pub same_places : (ps : List Procedure) (q s : ℕ) (p x : Procedure) → all_distinct (map (λ d. d.name) ps) ≡ true → slice_get ps q ≡ Some p → slice_get ps s ≡ Some x → p.name ≡ x.name → q ≡ s
same_places [] q s p x distinct here there e = absurd (cc)
same_places (y ∷ ps) zero zero p x distinct here there e = refl
same_places (y ∷ ps) zero (suc s) p x distinct here there e = absurd (once y ps s x p distinct here there e)
same_places (y ∷ ps) (suc q) zero p x distinct here there e = absurd (once y ps q p x distinct there here (sym e))
same_places (y ∷ ps) (suc q) (suc s) p x distinct here there e = ap suc (same_places ps q s p x (second_of_two _ _ distinct) here there e)

names_once : (catalog : Catalog) → Accepted catalog → all_distinct (map (λ d. d.name) catalog.procedures) ≡ true
names_once catalog accepted =
    let names : has_distinct_names catalog ≡ true = first_of_two _ _ (first_of_two _ _ (first_of_two _ _ (first_of_two _ _ (first_of_two _ _ (first_of_two _ _ accepted.form))))) in
    second_of_two _ _ (first_of_two _ _ (first_of_two _ _ (first_of_two _ _ (first_of_two _ _ names))))

named : (catalog : Catalog) (q : ℕ) (p : Procedure) → slice_get catalog.procedures q ≡ Some p → name_of catalog q ≡ p.name
named catalog q p there = ap (λ (o : Option Procedure). unwrap_or (option_map (λ d. d.name) o) []) there

same_steps : (catalog : Catalog) (db : Database) (q r p s : ℕ) → Accepted catalog → Ready catalog db q r → Ready catalog db p s → name_of catalog q ≡ name_of catalog p → StepEntry q r ≡ StepEntry p s
same_steps catalog db q r p s accepted one two e =
    let same : q ≡ p = same_places catalog.procedures q p one.procedure two.procedure (names_once catalog accepted) one.there two.there
    (sym (named catalog q one.procedure one.there) ∙ e ∙ named catalog p two.procedure two.there) in
    let rounds : r ≡ s = sym one.counted ∙ ap (batch_count db) same ∙ two.counted in
    ap₂ StepEntry same rounds

-- ---- the index of a call, push or install

answered : (client i : ℕ) → cond (client == client) (Some i) None ≡ Some i
answered client i = rw (eq-eqb client client refl)

-- the first of both lists of indices
same_index : (c d i j : ℕ) (is js : List ℕ) → c ≡ d → cons_option (cond (c == c) (Some i) None) is ≡ cons_option (cond (d == c) (Some j) None) js → i ≡ j
same_index c d i j is js same e =
    let both : i ∷ is ≡ j ∷ js = rw (eq-eqb c c refl, eq-eqb d c (sym same)) at e in
    cc

below : (n : ℕ) → n < 8 → n < 2 ^ 64
below n h = omega arith

same_client : (c d : ℕ) → c < 8 → d < 8 → decimal c ≡ decimal d → c ≡ d
same_client c d h k = decimal_injective c d (below c h) (below d k)

module _ (catalog : Catalog) (accepted : Accepted catalog) (requests : List Request) where
  -- two entries that have the same line, from one database, are the same
  same_entry : (db : Database) (place start : ℕ) (o u : Outcome) (e f : Entry) (is js : ℕ → List ℕ) → entry_outcome catalog db e ≡ Some o → entry_outcome catalog db f ≡ Some u
      → IsAsked requests e → IsAsked requests f → ((client : ℕ) → cons_option (client_index client e) (is client) ≡ cons_option (client_index client f) (js client))
      → compact_text (entry_line catalog place o e) ≡ compact_text (entry_line catalog start u f) → entry_mark e ≡ entry_mark f → e ≡ f
  same_entry db place start o u (Call c i q args) (Call d j p more) is js h k asked also same text word =
      let client : c ≡ d = same_client c d (call_within catalog db c i q args o h) (call_within catalog db d j p more u k) (call_client catalog place start o u c i q d j p args more text) in
      let index : i ≡ j = same_index c d i j (is c) (js c) client (same c) in
      same_asked c i requests (Call c i q args) (Call d j p more) asked also (answered c i) (ap (λ n. cond (n == c) (Some j) None) (sym client) ∙ answered c j ∙ ap Some (sym index))
  same_entry db place start o u (Call c i q args) (Push d j t name n more) is js h k asked also same text word = absurd (omega arith)
  same_entry db place start o u (Call c i q args) (Install d j p body) is js h k asked also same text word = absurd (omega arith)
  same_entry db place start o u (Call c i q args) (StepEntry p s) is js h k asked also same text word = absurd (omega arith)
  same_entry db place start o u (Push c i s source seq rows) (Call d j p more) is js h k asked also same text word = absurd (omega arith)
  same_entry db place start o u (Push c i s source seq rows) (Push d j t name n more) is js h k asked also same text word =
      let client : c ≡ d = same_client c d (push_within catalog db c i s source seq rows o h) (push_within catalog db d j t name n more u k) (push_client catalog place start o u c i s d j t source name seq n rows more text) in
      let index : i ≡ j = same_index c d i j (is c) (js c) client (same c) in
      same_asked c i requests (Push c i s source seq rows) (Push d j t name n more) asked also (answered c i) (ap (λ n. cond (n == c) (Some j) None) (sym client) ∙ answered c j ∙ ap Some (sym index))
  same_entry db place start o u (Push c i s source seq rows) (Install d j p body) is js h k asked also same text word = absurd (omega arith)
  same_entry db place start o u (Push c i s source seq rows) (StepEntry p r) is js h k asked also same text word = absurd (omega arith)
  same_entry db place start o u (Install c i q text) (Call d j p more) is js h k asked also same line word = absurd (omega arith)
  same_entry db place start o u (Install c i q text) (Push d j t name n more) is js h k asked also same line word = absurd (omega arith)
  same_entry db place start o u (Install c i q text) (Install d j p body) is js h k asked also same line word =
      let client : c ≡ d = same_client c d (install_within catalog db c i q text o h) (install_within catalog db d j p body u k) (install_client catalog place start o u c i q d j p text body line) in
      let index : i ≡ j = same_index c d i j (is c) (js c) client (same c) in
      same_asked c i requests (Install c i q text) (Install d j p body) asked also (answered c i) (ap (λ n. cond (n == c) (Some j) None) (sym client) ∙ answered c j ∙ ap Some (sym index))
  same_entry db place start o u (Install c i q text) (StepEntry p r) is js h k asked also same line word = absurd (omega arith)
  same_entry db place start o u (StepEntry q r) (Call d j p more) is js h k asked also same text word = absurd (omega arith)
  same_entry db place start o u (StepEntry q r) (Push d j t name n more) is js h k asked also same text word = absurd (omega arith)
  same_entry db place start o u (StepEntry q r) (Install d j p body) is js h k asked also same text word = absurd (omega arith)
  same_entry db place start o u (StepEntry q r) (StepEntry p s) is js h k asked also same text word =
      same_steps catalog db q r p s accepted (ready catalog db q r o h) (ready catalog db p s u k) (step_name catalog place start o u q r p s text)

  -- ---- the lists

  -- behind one index, or none
  same_rest : (o : Option ℕ) (xs ys : List ℕ) → cons_option o xs ≡ cons_option o ys → xs ≡ ys
  same_rest None xs ys e = e
  same_rest (Some i) xs ys e = cc

  same_list : (list other : List Listed) (db : Database) (place start : ℕ) (rest behind : List Data) → begins_entry (texts rest) ≡ false → begins_entry (texts behind) ≡ false
      → Replays catalog db list → Replays catalog db other → AllByRecursion (λ (l : Listed). IsAsked requests l.entry) list → AllByRecursion (λ (l : Listed). IsAsked requests l.entry) other
      → ((client : ℕ) → indices client list ≡ indices client other) → texts (list_lines catalog place list ++ rest) ≡ texts (list_lines catalog start other ++ behind) → list ≡ other
  same_list [] [] db place start rest behind ends end h k asked also same e = refl
  same_list [] (m ∷ ms) db place start rest behind ends end h k asked also same e = absurd (both_ways (begins_entry (texts rest)) ends (ap begins_entry e ∙ entry_begins catalog start m.outcome m.entry (texts (list_lines catalog (start + 1) ms ++ behind))))
  same_list (l ∷ ls) [] db place start rest behind ends end h k asked also same e = absurd (both_ways (begins_entry (texts behind)) end (ap begins_entry (sym e) ∙ entry_begins catalog place l.outcome l.entry (texts (list_lines catalog (place + 1) ls ++ rest))))
  same_list (l ∷ ls) (m ∷ ms) db place start rest behind ends end h k asked also same e =
      let text : compact_text (entry_line catalog place l.outcome l.entry) ≡ compact_text (entry_line catalog start m.outcome m.entry) = cc in
      let lines : texts (list_lines catalog (place + 1) ls ++ rest) ≡ texts (list_lines catalog (start + 1) ms ++ behind) = cc in
      let word : entry_mark l.entry ≡ entry_mark m.entry = sym (marked catalog place l.outcome l.entry) ∙ ap mark text ∙ marked catalog start m.outcome m.entry in
      let entry : l.entry ≡ m.entry =
      same_entry db place start l.outcome m.outcome l.entry m.entry (λ client. indices client ls) (λ client. indices client ms) h.0 k.0 asked.0 also.0 same text word in
      let outcome : l.outcome ≡ m.outcome = some_same l.outcome m.outcome (sym h.0 ∙ ap (entry_outcome catalog db) entry ∙ k.0) in
      let first : l ≡ m = λ i. record { entry = entry i; outcome = outcome i } in
      let next : Replays catalog (database_after catalog db l.entry) ms = subst (λ x. Replays catalog (database_after catalog db x) ms) (sym entry) k.1 in
      let others : (client : ℕ) → indices client ls ≡ indices client ms = λ client.
      same_rest (client_index client l.entry) (indices client ls) (indices client ms) (same client ∙ ap (λ x. cons_option (client_index client x) (indices client ms)) (sym entry)) in
      ap₂ ◌∷◌ first (same_list ls ms (database_after catalog db l.entry) (place + 1) (start + 1) rest behind ends end h.1 next asked.1 also.1 others lines)

  -- ---- the report

  -- the texts of the lines of a report, with the replies first
  in_parts : (replies entries ends : List Data) → texts ((replies ++ entries) ++ ends) ≡ texts (replies ++ (entries ++ ends))
  in_parts replies entries ends = ap texts (append_assoc replies entries ends)

  pub one_list : (db : Database) (bytes : List ℕ) (list other : List Listed) → ReportsList catalog requests db bytes list → ReportsList catalog requests db bytes other → list ≡ other
  one_list db bytes list other one two =
      let entries = list_lines catalog one.first list in
      let others = list_lines catalog two.first other in
      let ends = end_lines catalog db list one.end in
      let closing = end_lines catalog db other two.end in
      let all : texts (reply_lines catalog requests one.report.answers ++ (entries ++ ends)) ≡ texts (reply_lines catalog requests two.report.answers ++ (others ++ closing)) =
      sym (in_parts (reply_lines catalog requests one.report.answers) entries ends)
      ∙ same_lines _ _ (sym one.report.text ∙ two.report.text)
      ∙ in_parts (reply_lines catalog requests two.report.answers) others closing in
      let both = same_answers catalog one.first two.first list other one.end two.end [] requests one.report.answers two.report.answers _ _ one.report.answered two.report.answered all in
      let indexed = same_indices requests list other (λ e asked. in_both requests list other e both.0 asked) one.report.asked two.report.asked one.report.in_turn two.report.in_turn in
      same_list list other db one.first two.first ends closing (end_begins catalog db list one.end) (end_begins catalog db other two.end)
      one.replays two.replays one.report.asked two.report.asked indexed both.1
