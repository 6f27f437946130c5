-- Entries that say what comes of them are a list that replays.
use Rattle.std.proofs.Common.{◌≡◌, ◌∙◌, ◌+◌, ◌<◌, ◌≤◌, ◌==◌, ◌⊎◌, inl, inr, ℕ, zero, suc, nat_le, List, [], ◌∷◌, length, Bool, true, false, cond, Option, Some, None, option_map, Ok, refl, sym, ap, ap₂, subst, arith}
use Rattle.std.specs.List.{AllByRecursion, Contains, find, cons_option}
use Rattle.std.proofs.lemmas.Bool.{cases_Bool, cond-true, cond-false, eqb-true, eq-eqb}
use Rattle.std.proofs.lemmas.Bool.Decides.{nat_tests}
use Rattle.serde_json.specs.Written.{compact_text}
use Rattle.ss_lemmas.proofs.Bools.{some_same}
use Rattle.ss_lines.specs.declared.line.Line.{Line}
use Rattle.ss_model.specs.declared.catalog.Catalog.{Catalog}
use Rattle.ss_model.specs.declared.entry.Entry.{Entry}
use Rattle.ss_model.specs.declared.entry.Entry.TheVariants.{Call as CallEntry, Push as PushEntry, Step as StepEntry, Install as InstallEntry}
use Rattle.ss_model.specs.declared.entry.Listed.{Listed}
use Rattle.ss_model.specs.declared.entry.Outcome.{Outcome}
use Rattle.ss_model.specs.declared.entry.Request.{Request}
use Rattle.ss_model.specs.Database.{Database}
use Rattle.ss_model.specs.Replays.{Replays, entry_outcome, database_after, after}
use Rattle.ss_model.specs.Report.{asked_entries, IsAsked, client_index, Rising}
use Rattle.ss_model.specs.ReportLines.{list_lines, entry_line}
use Rattle.ss_report_laws.proofs.SameIndices.{indices}
use Rattle.ss_report_lines.specs.declared.kind.LineKind.{LineKind}
use Rattle.ss_report_lines.specs.declared.kind.LineKind.TheVariants.{Reply, Call, Push, Install, Step, Table, Row, Done}
use Rattle.ss_audit_laws.specs.Shape.{OrLine, line_kind, line_text_at}
use Rattle.ss_audit_laws.specs.Checks.{says, is_number, asked_as, procedure_named, Turns, turned, in_turn, meant, turns_behind, outcome_of, printed_as, entry_at, go_on, replayed}
use Rattle.ss_audit_laws.proofs.Texts.{AreTexts, says_text}
use Rattle.ss_audit_laws.proofs.Told.{IsClientLine, IsToldBy, AreToldBy}
use Rattle.ss_audit_laws.proofs.Forms.{chosen}

-- ---- rising from a number on

-- the numbers rise, and none is below this
abbrev pub RiseFrom : ℕ → List ℕ → Type 0
RiseFrom n [] = Unit {0}
RiseFrom n (i ∷ is) = (n ≤ i) × RiseFrom (i + 1) is

pub rising_from : (n : ℕ) (is : List ℕ) → RiseFrom n is → Rising is
rising_from n [] h = tt
rising_from n (i ∷ []) h = tt
rising_from n (i ∷ j ∷ js) h = let more : i + 1 ≤ j = h.1.0 in ((omega arith), rising_from (i + 1) (j ∷ js) h.1)

-- ---- the entry that a line is about

-- what is found passes the test, and is there
pub found : (client i : ℕ) (es : List Entry) (e : Entry) → find (λ x. is_number i (client_index client x)) es ≡ Some e → Contains es e × (is_number i (client_index client e) ≡ true)
found client i [] e h = absurd (cc)
found client i (x ∷ es) e h = of (found client i es e) (is_number i (client_index client x)) refl h
  where
    of : (find (λ y. is_number i (client_index client y)) es ≡ Some e → Contains es e × (is_number i (client_index client e) ≡ true))
        → (b : Bool) → is_number i (client_index client x) ≡ b → cond b (Some x) (find (λ y. is_number i (client_index client y)) es) ≡ Some e → Contains (x ∷ es) e × (is_number i (client_index client e) ≡ true)
    of behind true is k =
        let same : x ≡ e = some_same x e k in
        ((zero, (omega arith), same), ap (λ (y : Entry). is_number i (client_index client y)) (sym same) ∙ is)
    of behind false is k =
        let later = behind k in
        ((suc later.0.0, (let n : later.0.0 < length es = later.0.1 in omega arith), later.0.2), later.1)

pub number_is : (i : ℕ) (o : Option ℕ) → is_number i o ≡ true → o ≡ Some i
number_is i None h = absurd (cc)
number_is i (Some m) h = ap Some (eqb-true m i h)

-- an entry with this client's index is a call, a push or an install of it
abbrev pub IsOwn : ℕ → ℕ → Entry → Type 0
IsOwn c i (CallEntry d j q args) = (d ≡ c) × (j ≡ i)
IsOwn c i (PushEntry d j s source seq rows) = (d ≡ c) × (j ≡ i)
IsOwn c i (InstallEntry d j q text) = (d ≡ c) × (j ≡ i)
IsOwn c i (StepEntry q r) = ⊥

pub own : (c i : ℕ) (e : Entry) → client_index c e ≡ Some i → IsOwn c i e
own c i (CallEntry d j q args) h = let t = chosen (d == c) (Some j) i h in (eqb-true d c t.0, some_same j i t.1)
own c i (PushEntry d j s source seq rows) h = let t = chosen (d == c) (Some j) i h in (eqb-true d c t.0, some_same j i t.1)
own c i (InstallEntry d j q text) h = let t = chosen (d == c) (Some j) i h in (eqb-true d c t.0, some_same j i t.1)
own c i (StepEntry q r) h = absurd (cc)

-- how an entry's index stands to the least ones, now and behind it
pub record IsInTurn (turns later : Turns) (e : Entry) : Type 0 where
  pub here : (client i : ℕ) → client_index client e ≡ Some i → (turns client ≤ i) × (later client ≡ i + 1)
  pub elsewhere : (client : ℕ) → client_index client e ≡ None → later client ≡ turns client

-- an entry is the one that a line is about
pub record IsMeant (requests : List Request) (turns : Turns) (k : Option LineKind) (e : Entry) : Type 0 where
  pub asked : IsAsked requests e
  pub told : IsToldBy e k
  pub turn : IsInTurn turns (turns_behind turns k) e

asked_entry_is : (requests : List Request) (c i : ℕ) (e : Entry) → Contains (asked_entries requests) e → IsOwn c i e → IsAsked requests e
asked_entry_is requests c i (CallEntry d j q args) among h = among
asked_entry_is requests c i (PushEntry d j s source seq rows) among h = among
asked_entry_is requests c i (InstallEntry d j q text) among h = among
asked_entry_is requests c i (StepEntry q r) among h = absurd h

-- a client's entry is told by each line that is of its client and index
told_own : (c i : ℕ) (k : Option LineKind) (e : Entry) → IsClientLine c i k → IsOwn c i e → IsToldBy e k
told_own c i k (CallEntry d j q args) told h = subst (λ x. IsClientLine x j k) (sym h.0) (subst (λ y. IsClientLine c y k) (sym h.1) told)
told_own c i k (PushEntry d j s source seq rows) told h = subst (λ x. IsClientLine x j k) (sym h.0) (subst (λ y. IsClientLine c y k) (sym h.1) told)
told_own c i k (InstallEntry d j q text) told h = subst (λ x. IsClientLine x j k) (sym h.0) (subst (λ y. IsClientLine c y k) (sym h.1) told)
told_own c i k (StepEntry q r) told h = absurd h

-- the client and index of an entry are its own alone
only_own : (c i client j : ℕ) (e : Entry) → IsOwn c i e → client_index client e ≡ Some j → (client ≡ c) × (j ≡ i)
only_own c i client j e h k = two e h (own client j e k)
  where
    two : (f : Entry) → IsOwn c i f → IsOwn client j f → (client ≡ c) × (j ≡ i)
    two (CallEntry d m q args) x y = (sym y.0 ∙ x.0, sym y.1 ∙ x.1)
    two (PushEntry d m s source seq rows) x y = (sym y.0 ∙ x.0, sym y.1 ∙ x.1)
    two (InstallEntry d m q text) x y = (sym y.0 ∙ x.0, sym y.1 ∙ x.1)
    two (StepEntry q r) x y = absurd x

not_own : (c i client : ℕ) (e : Entry) → IsOwn c i e → client_index client e ≡ None → (client == c) ≡ false
not_own c i client (CallEntry d j q args) h k = of (cases_Bool (client == c))
  where
    of : ((client == c) ≡ true) ⊎ ((client == c) ≡ false) → (client == c) ≡ false
    of (inr n) = n
    of (inl y) = let e : d ≡ client = h.0 ∙ sym (eqb-true client c y) in let none : Some j ≡ None = sym (cond-true (d == client) (Some j) None (eq-eqb d client e)) ∙ k in absurd (cc)
not_own c i client (PushEntry d j s source seq rows) h k = of (cases_Bool (client == c))
  where
    of : ((client == c) ≡ true) ⊎ ((client == c) ≡ false) → (client == c) ≡ false
    of (inr n) = n
    of (inl y) = let e : d ≡ client = h.0 ∙ sym (eqb-true client c y) in let none : Some j ≡ None = sym (cond-true (d == client) (Some j) None (eq-eqb d client e)) ∙ k in absurd (cc)
not_own c i client (InstallEntry d j q text) h k = of (cases_Bool (client == c))
  where
    of : ((client == c) ≡ true) ⊎ ((client == c) ≡ false) → (client == c) ≡ false
    of (inr n) = n
    of (inl y) = let e : d ≡ client = h.0 ∙ sym (eqb-true client c y) in let none : Some j ≡ None = sym (cond-true (d == client) (Some j) None (eq-eqb d client e)) ∙ k in absurd (cc)
not_own c i client (StepEntry q r) h k = absurd h

own_turn : (turns : Turns) (c i : ℕ) (e : Entry) → turns c ≤ i → IsOwn c i e → IsInTurn turns (turned turns c i) e
own_turn turns c i e least h = record {
  here = λ client j answered.
      let is = only_own c i client j e h answered in
      let low : turns client ≤ j = subst (λ x. turns x ≤ j) (sym is.0) (subst (λ y. turns c ≤ y) (sym is.1) least) in
      (low, cond-true {A = ℕ} (client == c) (i + 1) (turns client) (eq-eqb client c is.0) ∙ ap (λ y. y + 1) (sym is.1));
  elsewhere = λ client none. cond-false {A = ℕ} (client == c) (i + 1) (turns client) (not_own c i client e h none);
}

step_turn : (turns : Turns) (q r : ℕ) → IsInTurn turns turns (StepEntry q r)
step_turn turns q r = record { here = λ client i answered. absurd (cc); elsewhere = λ client none. refl }

-- of a call, a push or an install
meant_asked : (requests : List Request) (turns : Turns) (c i : ℕ) (e : Entry) → in_turn turns c i (asked_as requests c i) ≡ Some e
    → (turns c ≤ i) × (Contains (asked_entries requests) e) × IsOwn c i e
meant_asked requests turns c i e h =
    let t = chosen (nat_le (turns c) i) (asked_as requests c i) e h in
    let there = found c i (asked_entries requests) e t.1 in
    ((let test = t.0 in grind (arith, nat_tests)), there.0, own c i e (number_is i (client_index c e) there.1))

named_step : (r : ℕ) (o : Option ℕ) (e : Entry) → option_map (λ q. StepEntry q r) o ≡ Some e → (q : ℕ) × (StepEntry q r ≡ e)
named_step r (Some q) e h = (q, some_same (StepEntry q r) e h)
named_step r None e h = absurd (cc)

pub meant_is : (catalog : Catalog) (requests : List Request) (turns : Turns) (l : Line) (k : Option LineKind) (e : Entry) → meant catalog requests turns l k ≡ Some e → IsMeant requests turns k e
meant_is catalog requests turns l None e h = absurd (cc)
meant_is catalog requests turns l (Some (Reply n)) e h = absurd (cc)
meant_is catalog requests turns l (Some (Call c i)) e h =
    let m = meant_asked requests turns c i e h in
    record { asked = asked_entry_is requests c i e m.1 m.2; told = told_own c i (Some (Call c i)) e (inl refl) m.2; turn = own_turn turns c i e m.0 m.2 }
meant_is catalog requests turns l (Some (Push c i)) e h =
    let m = meant_asked requests turns c i e h in
    record { asked = asked_entry_is requests c i e m.1 m.2; told = told_own c i (Some (Push c i)) e (inr (inl refl)) m.2; turn = own_turn turns c i e m.0 m.2 }
meant_is catalog requests turns l (Some (Install c i)) e h =
    let m = meant_asked requests turns c i e h in
    record { asked = asked_entry_is requests c i e m.1 m.2; told = told_own c i (Some (Install c i)) e (inr (inr refl)) m.2; turn = own_turn turns c i e m.0 m.2 }
meant_is catalog requests turns l (Some (Step r)) e h =
    let s = named_step r (procedure_named (line_text_at 2 l) catalog.procedures) e h in
    subst (IsMeant requests turns (Some (Step r))) s.1 (record { asked = tt; told = refl; turn = step_turn turns s.0 r })
meant_is catalog requests turns l (Some (Table n)) e h = absurd (cc)
meant_is catalog requests turns l (Some Row) e h = absurd (cc)
meant_is catalog requests turns l (Some (Done n)) e h = absurd (cc)

-- ---- one line

printed_is : (catalog : Catalog) (db : Database) (place : ℕ) (l : Line) (m : Option Entry) (e : Entry) → printed_as catalog place l (outcome_of catalog db m) ≡ Some e
    → (o : Outcome) × (m ≡ Some e) × (entry_outcome catalog db e ≡ Some o) × (l.bytes ≡ compact_text (entry_line catalog place o e))
printed_is catalog db place l None e h = absurd (cc)
printed_is catalog db place l (Some f) e h = of (entry_outcome catalog db f) refl h
  where
    of : (x : Option Outcome) → entry_outcome catalog db f ≡ x → printed_as catalog place l (option_map (λ o. (f, o)) x) ≡ Some e
        → (o : Outcome) × (Some f ≡ Some e) × (entry_outcome catalog db e ≡ Some o) × (l.bytes ≡ compact_text (entry_line catalog place o e))
    of None is k = absurd (cc)
    of (Some o) is k =
        let t = chosen (says (entry_line catalog place o f) l) (Some f) e k in
        let same : f ≡ e = some_same f e t.1 in (
          o,
          t.1,
          ap (entry_outcome catalog db) (sym same) ∙ is,
          sym (says_text (entry_line catalog place o f) l t.0) ∙ ap (λ (y : Entry). compact_text (entry_line catalog place o y)) same,
        )

-- ---- all lines

-- lines are the entries of a list that replays from this database, and this is the one behind it
pub record IsRun (catalog : Catalog) (requests : List Request) (turns : Turns) (db : Database) (place : ℕ) (ls : List Line) (last : Database) : Type 0 where
  pub list : List Listed
  pub texts : AreTexts (list_lines catalog place list) ls
  pub told : AreToldBy list ls
  pub asked : AllByRecursion (λ (l : Listed). IsAsked requests l.entry) list
  pub rising : (client : ℕ) → RiseFrom (turns client) (indices client list)
  pub replays : Replays catalog db list
  pub reached : after catalog db list ≡ last
  pub many : length list ≡ length ls

rising_more : (turns later : Turns) (e : Entry) (client : ℕ) (is : List ℕ) → IsInTurn turns later e → RiseFrom (later client) is → RiseFrom (turns client) (cons_option (client_index client e) is)
rising_more turns later e client is turn h = of (client_index client e) refl
  where
    of : (o : Option ℕ) → client_index client e ≡ o → RiseFrom (turns client) (cons_option o is)
    of None none = subst (λ n. RiseFrom n is) (turn.elsewhere client none) h
    of (Some i) answered = let t = turn.here client i answered in (t.0, subst (λ n. RiseFrom n is) t.1 h)

goes_on : {A : Type 0} (number : ℕ) (o : Option Entry) (f : Entry → OrLine A) (a : A) → go_on number o f ≡ Ok a → (e : Entry) × (o ≡ Some e) × (f e ≡ Ok a)
goes_on number None f a h = absurd (cc)
goes_on number (Some e) f a h = (e, refl, h)

pub is_run : (catalog : Catalog) (requests : List Request) (turns : Turns) (db : Database) (place : ℕ) (ls : List Line) (last : Database)
    → replayed catalog requests turns db place ls ≡ Ok last → IsRun catalog requests turns db place ls last
is_run catalog requests turns db place [] last h = record { list = []; texts = refl; told = tt; asked = tt; rising = λ client. tt; replays = tt; reached = (cc); many = refl }
is_run catalog requests turns db place (l ∷ ls) last h =
    let step = goes_on l.number (entry_at catalog requests turns db place l) _ last h in
    let e = step.0 in
    let printed = printed_is catalog db place l (meant catalog requests turns l (line_kind l)) e step.1 in
    let m = meant_is catalog requests turns l (line_kind l) e printed.1 in
    let rest = is_run catalog requests (turns_behind turns (line_kind l)) (database_after catalog db e) (place + 1) ls last step.2 in
    record {
      list = record { entry = e; outcome = printed.0 } ∷ rest.list;
      texts = ap₂ ◌∷◌ printed.3 rest.texts;
      told = (m.told, rest.told);
      asked = (m.asked, rest.asked);
      rising = λ client. rising_more turns (turns_behind turns (line_kind l)) e client (indices client rest.list) m.turn (rest.rising client);
      replays = (printed.2, rest.replays);
      reached = rest.reached;
      many = ap suc rest.many;
    }
