-- The entries of a list that replays are those that their lines are about.
use Rattle.std.proofs.Common.{◌≡◌, ◌∙◌, ◌+◌, ◌<◌, ◌≤◌, ◌==◌, ◌⊎◌, inl, inr, ℕ, zero, suc, nat_le, List, [], ◌∷◌, map, length, Bool, true, false, cond, Option, Some, None, option_map, unwrap_or, Ok, refl, sym, ap, subst, arith, slice_get}
use Rattle.std.specs.List.{AllByRecursion, Contains, find, cons_option}
use Rattle.std.specs.Str.{bytes_eq}
use Rattle.std.proofs.lemmas.Bool.{cases_Bool, both_ways, cond-true, cond-false, eqb-true, eq-eqb, ltb-true}
use Rattle.std.proofs.lemmas.Bool.Decides.{nat_tests}
use Rattle.std.proofs.lemmas.Slice.Eq.{bytes_eq-Decides}
use Rattle.serde_json.specs.Data.{Data}
use Rattle.serde_json.specs.Written.{compact_text}
use Rattle.ss_value.specs.Rows.{Row, Rows}
use Rattle.ss_lemmas.proofs.Bools.{first_of_two, some_same}
use Rattle.ss_lines.specs.declared.line.Line.{Line}
use Rattle.ss_model.specs.declared.catalog.Catalog.{Catalog}
use Rattle.ss_model.specs.declared.catalog.Procedure.{Procedure}
use Rattle.ss_model.specs.declared.entry.Entry.{Entry}
use Rattle.ss_model.specs.declared.entry.Entry.TheVariants.{Call as CallEntry, Push as PushEntry, Step as StepEntry, Install as InstallEntry}
use Rattle.ss_model.specs.declared.entry.Listed.{Listed}
use Rattle.ss_model.specs.declared.entry.Outcome.{Outcome}
use Rattle.ss_model.specs.declared.entry.Request.{Request}
use Rattle.ss_model.specs.CatalogForm.{all_distinct}
use Rattle.ss_model.specs.Database.{Database, Applied, apply, apply_step, has_call}
use Rattle.ss_model.specs.Replays.{Replays, entry_outcome, database_after, after}
use Rattle.ss_model.specs.Report.{asked_entries, IsAsked, client_index, Rising}
use Rattle.ss_model.specs.ReportLines.{list_lines, entry_line}
use Rattle.ss_model.proofs.CallerLemmas.{applied_fits}
use Rattle.ss_report_laws.proofs.AnsweredEntries.{applied_of, same_places}
use Rattle.ss_report_laws.proofs.Asked.{same_asked}
use Rattle.ss_report_laws.proofs.SameIndices.{indices}
use Rattle.ss_report_lines.specs.declared.kind.LineKind.{LineKind}
use Rattle.ss_report_lines.specs.Said.{said}
use Rattle.ss_audit_laws.specs.Shape.{line_kind, text_at, line_text_at}
use Rattle.ss_audit_laws.specs.Checks.{says, is_number, asked_as, procedure_named, Turns, turned, meant, turns_behind, outcome_of, printed_as, entry_at, go_on, replayed}
use Rattle.ss_lines.specs.Json.{ReadsBack}
use Rattle.ss_audit_laws.proofs.Texts.{AreTexts, text_says}
use Rattle.ss_audit_laws.proofs.Told.{IsToldBy, AreToldBy}
use Rattle.ss_audit_laws.proofs.Replayed.{RiseFrom, found, number_is}
use Rattle.ss_audit_laws.proofs.Printed.{HasByteClient, entry_kind, entry_kinds, says_it, of_kind}

-- ---- clients

client_of_call : (client : ℕ) (args : Row) (o : Option Procedure) → has_call client args o ≡ true → client < 8
client_of_call client args None h = absurd (both_ways false refl h)
client_of_call client args (Some p) h = ltb-true client 8 (first_of_two _ _ (first_of_two _ _ h))

byte : (c : ℕ) → c < 8 → nat_le c 255 ≡ true
byte c h = grind (arith, nat_tests)

-- a client of an entry that has an outcome is below 8
pub byte_client : (catalog : Catalog) (db : Database) (e : Entry) (outcome : Outcome) → entry_outcome catalog db e ≡ Some outcome → HasByteClient e
byte_client catalog db (CallEntry c i q args) outcome h =
    let a = applied_of (apply catalog db (CallEntry c i q args)) outcome h in
    byte c (client_of_call c args (slice_get catalog.procedures q) (applied_fits catalog db (CallEntry c i q args) a.0 a.1))
byte_client catalog db (PushEntry c i s source seq rows) outcome h =
    let a = applied_of (apply catalog db (PushEntry c i s source seq rows)) outcome h in
    byte c (ltb-true c 8 (first_of_two _ _ (first_of_two _ _ (first_of_two _ _ (first_of_two _ _ (applied_fits catalog db (PushEntry c i s source seq rows) a.0 a.1))))))
byte_client catalog db (InstallEntry c i q text) outcome h =
    let a = applied_of (apply catalog db (InstallEntry c i q text)) outcome h in
    byte c (ltb-true c 8 (first_of_two _ _ (first_of_two _ _ (first_of_two _ _ (applied_fits catalog db (InstallEntry c i q text) a.0 a.1)))))
byte_client catalog db (StepEntry q r) outcome h = tt

pub byte_clients : (catalog : Catalog) (db : Database) (list : List Listed) → Replays catalog db list → AllByRecursion (λ (l : Listed). HasByteClient l.entry) list
byte_clients catalog db [] h = tt
byte_clients catalog db (l ∷ list) h = (byte_client catalog db l.entry l.outcome h.0, byte_clients catalog (database_after catalog db l.entry) list h.1)

-- ---- what a client asks for

contained : (y : Entry) (ys : List Entry) (x : Entry) → Contains (y ∷ ys) x → (y ≡ x) ⊎ Contains ys x
contained y ys x (zero, within, there) = inl there
contained y ys x (suc k, within, there) = inr (k, (let h : suc k < length (y ∷ ys) = within in omega arith), there)

-- what passes the test is found, or something before it
finds : (client i : ℕ) (es : List Entry) (e : Entry) → Contains es e → is_number i (client_index client e) ≡ true → (x : Entry) × (find (λ y. is_number i (client_index client y)) es ≡ Some x)
finds client i [] e among h = let none : among.0 < 0 = among.1 in absurd (omega arith)
finds client i (x ∷ es) e among h = of (λ later. finds client i es e later h) (is_number i (client_index client x)) refl (contained x es e among)
  where
    of : (Contains es e → (y : Entry) × (find (λ z. is_number i (client_index client z)) es ≡ Some y)) → (b : Bool) → is_number i (client_index client x) ≡ b → (x ≡ e) ⊎ Contains es e
        → (y : Entry) × (find (λ z. is_number i (client_index client z)) (x ∷ es) ≡ Some y)
    of behind true is at = (x, cond-true {A = Option Entry} (is_number i (client_index client x)) (Some x) _ is)
    of behind false is (inl same) = absurd (both_ways false refl (sym is ∙ ap (λ (y : Entry). is_number i (client_index client y)) same ∙ h))
    of behind false is (inr later) = let f = behind later in (f.0, cond-false {A = Option Entry} (is_number i (client_index client x)) (Some x) _ is ∙ f.1)

is_its_number : (i : ℕ) (o : Option ℕ) → o ≡ Some i → is_number i o ≡ true
is_its_number i o h = ap (is_number i) h ∙ eq-eqb i i refl

pub asked_found : (requests : List Request) (c i : ℕ) (e : Entry) → Contains (asked_entries requests) e → client_index c e ≡ Some i → asked_as requests c i ≡ Some e
asked_found requests c i e among index =
    let f = finds c i (asked_entries requests) e among (is_its_number i (client_index c e) index) in
    let x = found c i (asked_entries requests) f.0 f.1 in
    f.1 ∙ ap Some (same_asked c i requests f.0 e x.0 among (number_is i (client_index c f.0) x.1) index)

-- ---- procedures by name

pub record IsFirst (name : List ℕ) (ps : List Procedure) : Type 0 where
  pub number : ℕ
  pub is : procedure_named name ps ≡ Some number
  pub procedure : Procedure
  pub there : slice_get ps number ≡ Some procedure
  pub same : procedure.name ≡ name

first_named : (ps : List Procedure) (q : ℕ) (p : Procedure) → slice_get ps q ≡ Some p → IsFirst p.name ps
first_named [] q p h = absurd (cc)
first_named (x ∷ ps) zero p h = record {
  number = 0;
  is = ap (λ b. cond b (Some 0) (option_map (λ n. suc n) (procedure_named p.name ps))) ((bytes_eq-Decides x.name p.name).1 (ap (λ (y : Procedure). y.name) (some_same x p h)));
  procedure = x;
  there = refl;
  same = ap (λ (y : Procedure). y.name) (some_same x p h);
}
first_named (x ∷ ps) (suc q) p h = of (bytes_eq x.name p.name) refl (first_named ps q p h)
  where
    of : (b : Bool) → bytes_eq x.name p.name ≡ b → IsFirst p.name ps → IsFirst p.name (x ∷ ps)
    of true is f = record {
      number = 0;
      is = ap (λ t. cond t (Some 0) (option_map (λ n. suc n) (procedure_named p.name ps))) is;
      procedure = x;
      there = refl;
      same = (bytes_eq-Decides x.name p.name).0 is;
    }
    of false is f = record {
      number = suc f.number;
      is = ap (λ t. cond t (Some 0) (option_map (λ n. suc n) (procedure_named p.name ps))) is ∙ ap (option_map (λ n. suc n)) f.is;
      procedure = f.procedure;
      there = f.there;
      same = f.same;
    }

pub named_itself : (ps : List Procedure) (q : ℕ) (p : Procedure) → all_distinct (map (λ d. d.name) ps) ≡ true → slice_get ps q ≡ Some p → procedure_named p.name ps ≡ Some q
named_itself ps q p distinct there =
    let f = first_named ps q p there in
    f.is ∙ ap Some (same_places ps f.number q f.procedure p distinct f.there there f.same)

-- a step that has an outcome has its procedure
step_there : (catalog : Catalog) (db : Database) (q r : ℕ) (o : Option Procedure) (a : Applied) → apply_step catalog db q r o ≡ Some a → (p : Procedure) × (o ≡ Some p)
step_there catalog db q r None a h = absurd (cc)
step_there catalog db q r (Some p) a h = (p, refl)

has_procedure : (catalog : Catalog) (db : Database) (q r : ℕ) (outcome : Outcome) → entry_outcome catalog db (StepEntry q r) ≡ Some outcome → (p : Procedure) × (slice_get catalog.procedures q ≡ Some p)
unfolding apply
has_procedure catalog db q r outcome h =
    let a = applied_of (apply catalog db (StepEntry q r)) outcome h in
    step_there catalog db q r (slice_get catalog.procedures q) a.0 a.1

-- ---- one line

told_itself : (e : Entry) (k : Option LineKind) → k ≡ Some (entry_kind e) → IsToldBy e k
told_itself (CallEntry c i q args) k h = inl h
told_itself (PushEntry c i s source seq rows) k h = inr (inl h)
told_itself (InstallEntry c i q text) k h = inr (inr h)
told_itself (StepEntry q r) k h = h

turn_low : (turns : Turns) (c i : ℕ) (e : Entry) (is : List ℕ) → client_index c e ≡ Some i → RiseFrom (turns c) (cons_option (client_index c e) is) → turns c ≤ i
turn_low turns c i e is index h = (subst (λ o. RiseFrom (turns c) (cons_option o is)) index h).0

own_call : (c i q : ℕ) (args : Row) → client_index c (CallEntry c i q args) ≡ Some i
own_call c i q args = cond-true {A = Option ℕ} (c == c) (Some i) None (eq-eqb c c refl)

own_push : (c i s : ℕ) (source : List ℕ) (seq : ℕ) (rows : Rows) → client_index c (PushEntry c i s source seq rows) ≡ Some i
own_push c i s source seq rows = cond-true {A = Option ℕ} (c == c) (Some i) None (eq-eqb c c refl)

own_install : (c i q : ℕ) (text : List ℕ) → client_index c (InstallEntry c i q text) ≡ Some i
own_install c i q text = cond-true {A = Option ℕ} (c == c) (Some i) None (eq-eqb c c refl)

low : (m n : ℕ) → m ≤ n → nat_le m n ≡ true
low m n h = grind (arith, nat_tests)

-- the line of an entry is about it
module _ (catalog : Catalog) (requests : List Request) (distinct : all_distinct (map (λ d. d.name) catalog.procedures) ≡ true) where
  pub meant_itself : (turns : Turns) (db : Database) (place : ℕ) (l : Line) (e : Entry) (o : Outcome) (is : ℕ → List ℕ) → IsAsked requests e → entry_outcome catalog db e ≡ Some o
      → ((client : ℕ) → RiseFrom (turns client) (cons_option (client_index client e) (is client))) → said l.bytes ≡ Some (entry_line catalog place o e)
      → meant catalog requests turns l (Some (entry_kind e)) ≡ Some e
  meant_itself turns db place l (CallEntry c i q args) o is asked out rise says =
      cond-true {A = Option Entry} (nat_le (turns c) i) (asked_as requests c i) None (low (turns c) i (turn_low turns c i (CallEntry c i q args) (is c) (own_call c i q args) (rise c)))
      ∙ asked_found requests c i (CallEntry c i q args) asked (own_call c i q args)
  meant_itself turns db place l (PushEntry c i s source seq rows) o is asked out rise says =
      cond-true {A = Option Entry} (nat_le (turns c) i) (asked_as requests c i) None (low (turns c) i (turn_low turns c i (PushEntry c i s source seq rows) (is c) (own_push c i s source seq rows) (rise c)))
      ∙ asked_found requests c i (PushEntry c i s source seq rows) asked (own_push c i s source seq rows)
  meant_itself turns db place l (InstallEntry c i q text) o is asked out rise says =
      cond-true {A = Option Entry} (nat_le (turns c) i) (asked_as requests c i) None (low (turns c) i (turn_low turns c i (InstallEntry c i q text) (is c) (own_install c i q text) (rise c)))
      ∙ asked_found requests c i (InstallEntry c i q text) asked (own_install c i q text)
  meant_itself turns db place l (StepEntry q r) o is asked out rise says =
      let p = has_procedure catalog db q r o out in
      let name : line_text_at 2 l ≡ p.0.name =
      ap (λ (x : Option Data). unwrap_or (option_map (text_at 2) x) []) says ∙ ap (λ (x : Option Procedure). unwrap_or (option_map (λ d. d.name) x) []) p.1 in
      ap (λ (n : List ℕ). option_map (λ x. StepEntry x r) (procedure_named n catalog.procedures)) name ∙ ap (option_map (λ x. StepEntry x r)) (named_itself catalog.procedures q p.0 distinct p.1)

-- what rises behind an entry
behind_own : (turns : Turns) (c i client : ℕ) (is : List ℕ) → RiseFrom (turns client) (cons_option (cond (c == client) (Some i) None) is) → RiseFrom (turned turns c i client) is
behind_own turns c i client is h = of (cases_Bool (c == client))
  where
    of : ((c == client) ≡ true) ⊎ ((c == client) ≡ false) → RiseFrom (turned turns c i client) is
    of (inl same) =
        let pair = subst (λ b. RiseFrom (turns client) (cons_option (cond {A = Option ℕ} b (Some i) None) is)) same h in
        subst (λ n. RiseFrom n is) (sym (cond-true {A = ℕ} (client == c) (i + 1) (turns client) (eq-eqb client c (sym (eqb-true c client same))))) pair.1
    of (inr other) =
        let rest = subst (λ b. RiseFrom (turns client) (cons_option (cond {A = Option ℕ} b (Some i) None) is)) other h in
        subst (λ n. RiseFrom n is) (sym (cond-false {A = ℕ} (client == c) (i + 1) (turns client) (apart other))) rest
      where
        apart : (c == client) ≡ false → (client == c) ≡ false
        apart o = elim (cases_Bool (client == c)) [
          | inl y ↦ absurd (both_ways false refl (sym o ∙ eq-eqb c client (sym (eqb-true client c y))))
          | inr n ↦ n
        ]

rise_behind : (turns : Turns) (e : Entry) (client : ℕ) (is : List ℕ) → RiseFrom (turns client) (cons_option (client_index client e) is) → RiseFrom (turns_behind turns (Some (entry_kind e)) client) is
rise_behind turns (CallEntry c i q args) client is h = behind_own turns c i client is h
rise_behind turns (PushEntry c i s source seq rows) client is h = behind_own turns c i client is h
rise_behind turns (InstallEntry c i q text) client is h = behind_own turns c i client is h
rise_behind turns (StepEntry q r) client is h = h

rises_on : (n i : ℕ) (is : List ℕ) → n ≤ i → Rising (i ∷ is) → RiseFrom n (i ∷ is)
rises_on n i [] low h = (low, tt)
rises_on n i (j ∷ js) low h = (low, rises_on (i + 1) j js (let more : i < j = h.0 in omega arith) h.1)

pub rises : (is : List ℕ) → Rising is → RiseFrom 0 is
rises [] h = tt
rises (i ∷ is) h = rises_on 0 i is (omega arith) h

-- ---- all lines

pub record RunsThrough (catalog : Catalog) (requests : List Request) (turns : Turns) (db : Database) (place : ℕ) (list : List Listed) (ls : List Line) : Type 0 where
  pub replayed_so : replayed catalog requests turns db place ls ≡ Ok (after catalog db list)
  pub told : AreToldBy list ls
  pub many : length list ≡ length ls

module _ (catalog : Catalog) (requests : List Request) (distinct : all_distinct (map (λ d. d.name) catalog.procedures) ≡ true) where
  pub runs_through : (turns : Turns) (db : Database) (place : ℕ) (list : List Listed) (ls : List Line) → AreTexts (list_lines catalog place list) ls → AllByRecursion ReadsBack (list_lines catalog place list)
      → AllByRecursion (λ (l : Listed). IsAsked requests l.entry) list → ((client : ℕ) → RiseFrom (turns client) (indices client list)) → Replays catalog db list
      → RunsThrough catalog requests turns db place list ls
  runs_through turns db place [] [] texts reads asked rise replays = record { replayed_so = refl; told = tt; many = refl }
  runs_through turns db place [] (m ∷ ls) texts reads asked rise replays = absurd (cc)
  runs_through turns db place (l ∷ list) [] texts reads asked rise replays = absurd (cc)
  runs_through turns db place (l ∷ list) (m ∷ ls) texts reads asked rise replays =
      let e = l.entry in
      let d = entry_line catalog place l.outcome e in
      let text : m.bytes ≡ compact_text d = cc in
      let form = entry_kinds catalog place l.outcome e (byte_client catalog db e l.outcome replays.0) in
      let kind = of_kind m d (entry_kind e) reads.0 form text in
      let said_so = says_it m d (entry_kind e) reads.0 form text in
      let is : meant catalog requests turns m (line_kind m) ≡ Some e =
      ap (meant catalog requests turns m) kind ∙ meant_itself catalog requests distinct turns db place m e l.outcome (λ client. indices client list) asked.0 replays.0 rise said_so in
      let at : entry_at catalog requests turns db place m ≡ Some e =
      ap (λ (o : Option Entry). printed_as catalog place m (outcome_of catalog db o)) is ∙ ap (λ (o : Option Outcome). printed_as catalog place m (option_map (λ x. (e, x)) o)) replays.0
      ∙ ap (λ b. cond {A = Option Entry} b (Some e) None) (text_says d m text) in
      let turn : (client : ℕ) → RiseFrom (turns_behind turns (line_kind m) client) (indices client list) = λ client.
      subst (λ (k : Option LineKind). RiseFrom (turns_behind turns k client) (indices client list)) (sym kind) (rise_behind turns e client (indices client list) (rise client)) in
      let rest = runs_through (turns_behind turns (line_kind m)) (database_after catalog db e) (place + 1) list ls (cc) reads.1 asked.1 turn replays.1 in
      record {
        replayed_so = ap (λ (o : Option Entry). go_on m.number o (λ x. replayed catalog requests (turns_behind turns (line_kind m)) (database_after catalog db x) (place + 1) ls)) at ∙ rest.replayed_so;
        told = (told_itself e (line_kind m) kind, rest.told);
        many = ap suc rest.many;
      }
