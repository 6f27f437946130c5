-- The replies that printed entries call for are the answers of the list.
use Rattle.std.proofs.Common.{◌≡◌, ◌∙◌, ◌+◌, ◌<◌, ◌==◌, ◌&&◌, ◌⊎◌, inl, inr, ℕ, zero, suc, List, [], ◌∷◌, ◌++◌, map, length, Bool, true, false, cond, Option, Some, None, option_and_then, refl, sym, ap, ap₂, subst, arith}
use Rattle.std.specs.List.{AllByRecursion, Contains, count_by}
use Rattle.std.proofs.lemmas.Bool.{and_parts, and_from, eqb-true, eq-eqb, both_ways}
use Rattle.std.proofs.lemmas.Slice.Eq.{bytes_eq-Decides}
use Rattle.serde_json.specs.Data.{Data}
use Rattle.serde_json.specs.Written.{compact_text}
use Rattle.ss_lemmas.proofs.Bools.{some_same}
use Rattle.ss_lines.specs.declared.line.Line.{Line}
use Rattle.ss_lines.specs.Json.{json_of}
use Rattle.ss_model.specs.declared.catalog.Catalog.{Catalog}
use Rattle.ss_model.specs.declared.entry.Answer.{Answer}
use Rattle.ss_model.specs.declared.entry.Answer.TheVariants.{Listed as ListedAnswer, NoMemory}
use Rattle.ss_model.specs.declared.entry.Asked.{Asked}
use Rattle.ss_model.specs.declared.entry.Asked.TheVariants.{Call as CallAsked, Push as PushAsked, Install as InstallAsked}
use Rattle.ss_model.specs.declared.entry.Entry.{Entry}
use Rattle.ss_model.specs.declared.entry.Entry.TheVariants.{Call as CallEntry, Push as PushEntry, Step as StepEntry, Install as InstallEntry}
use Rattle.ss_model.specs.declared.entry.Listed.{Listed}
use Rattle.ss_model.specs.declared.entry.Outcome.{Outcome}
use Rattle.ss_model.specs.declared.entry.Request.{Request}
use Rattle.ss_model.specs.Report.{asked_entry, entries_behind, asked_entries, IsAsked, client_index, is_same_request, find_listed, IsAnswer, AreAnswers, Unlisted, Whole, reply_lines}
use Rattle.ss_model.specs.ReportLines.{list_lines, entry_line, reply_line}
use Rattle.ss_report_laws.proofs.Asked.{same_asked}
use Rattle.ss_report_lines.specs.declared.kind.LineKind.{LineKind}
use Rattle.ss_report_lines.specs.declared.kind.LineKind.TheVariants.{Call, Push, Install, Step}
use Rattle.ss_report_lines.specs.Kinds.{kind_of}
use Rattle.ss_report_lines.specs.Said.{said, if_compact}
use Rattle.ss_audit_laws.specs.Shape.{line_kind}
use Rattle.ss_audit_laws.specs.Checks.{is_by, first_by, called_reply, called_replies}
use Rattle.ss_audit_laws.proofs.Texts.{AreTexts}
use Rattle.ss_audit_laws.proofs.Forms.{IsBy, IsOf, call_is, push_is, install_is, called_text, chosen}

-- ---- what is said

-- what a line says is its text
pub said_text : (bytes : List ℕ) (d : Data) → said bytes ≡ Some d → compact_text d ≡ bytes
said_text bytes d h = of (json_of bytes) h
  where
    of : (o : Option Data) → option_and_then (if_compact bytes) o ≡ Some d → compact_text d ≡ bytes
    of None e = absurd (cc)
    of (Some x) e =
        let t = chosen _ (Some x) d e in
        let same : x ≡ d = some_same x d t.1 in
        subst (λ (y : Data). compact_text y ≡ bytes) same ((bytes_eq-Decides (compact_text x) bytes).0 (and_parts _ _ t.0).1)

-- a line of a kind says a value of that kind
pub kind_said : (bytes : List ℕ) (k : LineKind) → option_and_then kind_of (said bytes) ≡ Some k → (d : Data) × (said bytes ≡ Some d) × (kind_of d ≡ Some k)
kind_said bytes k h = of (said bytes) refl h
  where
    of : (o : Option Data) → said bytes ≡ o → option_and_then kind_of o ≡ Some k → (d : Data) × (said bytes ≡ Some d) × (kind_of d ≡ Some k)
    of None is e = absurd (cc)
    of (Some d) is e = (d, is, e)

-- ---- lines and entries

-- the line of a client's entry: of a call, a push or an install
abbrev pub IsClientLine : ℕ → ℕ → Option LineKind → Type 0
IsClientLine c i k = (k ≡ Some (Call c i)) ⊎ ((k ≡ Some (Push c i)) ⊎ (k ≡ Some (Install c i)))

-- a line's kind tells the entry by its client and index, or by its batch
abbrev pub IsToldBy : Entry → Option LineKind → Type 0
IsToldBy (CallEntry c i q args) k = IsClientLine c i k
IsToldBy (PushEntry c i s source seq rows) k = IsClientLine c i k
IsToldBy (InstallEntry c i q text) k = IsClientLine c i k
IsToldBy (StepEntry q r) k = k ≡ Some (Step r)

-- each entry is told by its line
abbrev pub AreToldBy : List Listed → List Line → Type 0
AreToldBy [] [] = Unit {0}
AreToldBy (l ∷ list) (m ∷ ls) = IsToldBy l.entry (line_kind m) × AreToldBy list ls
AreToldBy _ _ = ⊥

-- the line of a client's entry
of_line : (c i : ℕ) (k : Option LineKind) (m : Line) → line_kind m ≡ k → IsClientLine c i k → (d : Data) × (said m.bytes ≡ Some d) × IsOf d c i
of_line c i k m is (inl e) = let s = kind_said m.bytes (Call c i) (is ∙ e) in (s.0, s.1, call_is s.0 c i s.2)
of_line c i k m is (inr (inl e)) = let s = kind_said m.bytes (Push c i) (is ∙ e) in (s.0, s.1, push_is s.0 c i s.2)
of_line c i k m is (inr (inr e)) = let s = kind_said m.bytes (Install c i) (is ∙ e) in (s.0, s.1, install_is s.0 c i s.2)

-- who a line is by
by_told : (client index c i : ℕ) (k : Option LineKind) → IsClientLine c i k → is_by client index k ≡ (client == c && index == i)
by_told client index c i k (inl e) = ap (is_by client index) e
by_told client index c i k (inr (inl e)) = ap (is_by client index) e
by_told client index c i k (inr (inr e)) = ap (is_by client index) e

own_index : (c i : ℕ) (e : Entry) → IsBy c i e → client_index c e ≡ Some i
own_index c i (CallEntry d j q args) h = rw (eq-eqb d c h.0) (ap Some h.1)
own_index c i (PushEntry d j s source seq rows) h = rw (eq-eqb d c h.0) (ap Some h.1)
own_index c i (InstallEntry d j q text) h = rw (eq-eqb d c h.0) (ap Some h.1)
own_index c i (StepEntry q r) h = absurd h

itself : (c i : ℕ) (e : Entry) → IsBy c i e → is_same_request e e ≡ true
itself c i (CallEntry d j q args) h = and_from (d == d) (j == j) (eq-eqb d d refl) (eq-eqb j j refl)
itself c i (PushEntry d j s source seq rows) h = and_from (d == d) (j == j) (eq-eqb d d refl) (eq-eqb j j refl)
itself c i (InstallEntry d j q text) h = and_from (d == d) (j == j) (eq-eqb d d refl) (eq-eqb j j refl)
itself c i (StepEntry q r) h = absurd h

-- an entry that is not by this client and index is not the same request
others_differ : (c i : ℕ) (e f : Entry) (k : Option LineKind) → IsBy c i e → IsToldBy f k → is_by c i k ≡ false → is_same_request e f ≡ false
others_differ c i (CallEntry d j q args) (CallEntry b n p more) k by told h = (λ x. by.0 x == b && by.1 x == n) ∙ sym (by_told c i b n k told) ∙ h
others_differ c i (CallEntry d j q args) (PushEntry b n s source seq rows) k by told h = refl
others_differ c i (CallEntry d j q args) (InstallEntry b n p body) k by told h = refl
others_differ c i (CallEntry d j q args) (StepEntry p r) k by told h = refl
others_differ c i (PushEntry d j s source seq rows) (CallEntry b n p more) k by told h = refl
others_differ c i (PushEntry d j s source seq rows) (PushEntry b n t name m more) k by told h = (λ x. by.0 x == b && by.1 x == n) ∙ sym (by_told c i b n k told) ∙ h
others_differ c i (PushEntry d j s source seq rows) (InstallEntry b n p body) k by told h = refl
others_differ c i (PushEntry d j s source seq rows) (StepEntry p r) k by told h = refl
others_differ c i (InstallEntry d j q text) (CallEntry b n p more) k by told h = refl
others_differ c i (InstallEntry d j q text) (PushEntry b n t name m more) k by told h = refl
others_differ c i (InstallEntry d j q text) (InstallEntry b n p body) k by told h = (λ x. by.0 x == b && by.1 x == n) ∙ sym (by_told c i b n k told) ∙ h
others_differ c i (InstallEntry d j q text) (StepEntry p r) k by told h = refl
others_differ c i (StepEntry q r) f k by told h = absurd by

-- a line that is by this client and index tells an entry that is
by_client : (c i b n : ℕ) (k : Option LineKind) → IsClientLine b n k → is_by c i k ≡ true → ((b ≡ c) × (n ≡ i)) × IsClientLine c i k
by_client c i b n k told h =
    let both = and_parts (c == b) (i == n) (sym (by_told c i b n k told) ∙ h) in
    let one = sym (eqb-true c b both.0) in
    let two = sym (eqb-true i n both.1) in
    ((one, two), subst (λ x. IsClientLine x i k) one (subst (λ y. IsClientLine b y k) two told))

by_line : (c i : ℕ) (f : Entry) (k : Option LineKind) → IsToldBy f k → is_by c i k ≡ true → IsBy c i f × IsClientLine c i k
by_line c i (CallEntry b n p more) k told h = by_client c i b n k told h
by_line c i (PushEntry b n s source seq rows) k told h = by_client c i b n k told h
by_line c i (InstallEntry b n p body) k told h = by_client c i b n k told h
by_line c i (StepEntry q r) k told h = absurd (both_ways false refl (sym (ap (is_by c i) told) ∙ h))

-- ---- answers

-- the answer to a request that is found here, or nowhere
abbrev pub found_answer : Option (ℕ × Outcome) → Answer
found_answer None = NoMemory
found_answer (Some found) = ListedAnswer found.0 found.1

-- the answer to an entry that is asked for
abbrev pub answer_in : List Listed → Entry → Answer
answer_in list e = found_answer (find_listed 0 e list)

is_answer : (o : Option (ℕ × Outcome)) → IsAnswer (Unlisted Whole) o (found_answer o)
is_answer None = tt
is_answer (Some found) = refl

pub all_answered : (list : List Listed) (es : List Entry) → AreAnswers (Unlisted Whole) 0 list es (map (answer_in list) es)
all_answered list [] = tt
all_answered list (e ∷ es) = (is_answer (find_listed 0 e list), all_answered list es)

client_of_asked : (requests : List Request) (c i : ℕ) (f : Entry) → IsAsked requests f → IsBy c i f → Contains (asked_entries requests) f
client_of_asked requests c i (CallEntry d j q args) asked by = asked
client_of_asked requests c i (PushEntry d j s source seq rows) asked by = asked
client_of_asked requests c i (InstallEntry d j q text) asked by = asked
client_of_asked requests c i (StepEntry q r) asked by = absurd by

module _ (catalog : Catalog) (requests : List Request) (n c i : ℕ) (e : Entry) (among : Contains (asked_entries requests) e) (by : IsBy c i e) where
  -- of one line, whether it is by the client and index
  one_line : (place : ℕ) (l : Listed) (m : Line) (list : List Listed) (ls : List Line) (t : Bool) → is_by c i (line_kind m) ≡ t
      → IsToldBy l.entry (line_kind m) → m.bytes ≡ compact_text (entry_line catalog place l.outcome l.entry) → IsAsked requests l.entry
      → compact_text (called_reply n (first_by c i ls)) ≡ compact_text (reply_line catalog n (found_answer (find_listed (place + 1) e list)))
      → compact_text (called_reply n (cond t (said m.bytes) (first_by c i ls))) ≡ compact_text (reply_line catalog n (found_answer (find_listed place e (l ∷ list))))
  one_line place l m list ls true is told text asked later =
      let line = by_line c i l.entry (line_kind m) told is in
      let same : l.entry ≡ e = same_asked c i requests l.entry e (client_of_asked requests c i l.entry asked line.0) among (own_index c i l.entry line.0) (own_index c i e by) in
      let d = of_line c i (line_kind m) m refl line.1 in
      let found : is_same_request e l.entry ≡ true = ap (is_same_request e) same ∙ itself c i e by in
      ap (λ (o : Option Data). compact_text (called_reply n o)) d.1
      ∙ called_text catalog n place c i l.outcome l.entry d.0 line.0 d.2 (said_text m.bytes d.0 d.1 ∙ text)
      ∙ sym (ap (λ (b : Bool). compact_text (reply_line catalog n (found_answer (cond b (Some (place, l.outcome)) (find_listed (place + 1) e list))))) found)
  one_line place l m list ls false is told text asked later =
      later ∙ sym (ap (λ (b : Bool). compact_text (reply_line catalog n (found_answer (cond b (Some (place, l.outcome)) (find_listed (place + 1) e list))))) (others_differ c i e l.entry (line_kind m) by told is))

  pub called_answer : (place : ℕ) (list : List Listed) (ls : List Line) → AreToldBy list ls → AreTexts (list_lines catalog place list) ls → AllByRecursion (λ (l : Listed). IsAsked requests l.entry) list
      → compact_text (called_reply n (first_by c i ls)) ≡ compact_text (reply_line catalog n (found_answer (find_listed place e list)))
  called_answer place [] [] told texts asked = refl
  called_answer place [] (m ∷ ls) told texts asked = absurd told
  called_answer place (l ∷ list) [] told texts asked = absurd told
  called_answer place (l ∷ list) (m ∷ ls) told texts asked =
      let text : m.bytes ≡ compact_text (entry_line catalog place l.outcome l.entry) = cc in
      one_line place l m list ls (is_by c i (line_kind m)) refl told.0 text asked.0 (called_answer (place + 1) list ls told.1 (cc) asked.1)

asked_by_own : (c i : ℕ) (what : Asked) → IsBy c i (asked_entry c i what)
asked_by_own c i (CallAsked q args) = (refl, refl)
asked_by_own c i (PushAsked s source seq rows) = (refl, refl)
asked_by_own c i (InstallAsked q text) = (refl, refl)

contains_more : (e : Entry) (es : List Entry) (f : Entry) → Contains es f → Contains (e ∷ es) f
contains_more e es f h = (suc h.0, (let k : h.0 < length es = h.1 in omega arith), h.2)

all_more : (e : Entry) (es fs : List Entry) → AllByRecursion (Contains es) fs → AllByRecursion (Contains (e ∷ es)) fs
all_more e es [] h = tt
all_more e es (f ∷ fs) h = (contains_more e es f h.0, all_more e es fs h.1)

-- each element is among the list's
pub all_among : (es : List Entry) → AllByRecursion (Contains es) es
all_among [] = tt
all_among (e ∷ es) = ((zero, (omega arith), refl), all_more e es es (all_among es))

pub called_texts : (catalog : Catalog) (requests : List Request) (list : List Listed) (ls : List Line) → AreToldBy list ls → AreTexts (list_lines catalog 0 list) ls
    → AllByRecursion (λ (l : Listed). IsAsked requests l.entry) list
    → (earlier rs : List Request) → AllByRecursion (Contains (asked_entries requests)) (entries_behind earlier rs)
    → map compact_text (called_replies ls earlier rs) ≡ map compact_text (reply_lines catalog rs (map (answer_in list) (entries_behind earlier rs)))
called_texts catalog requests list ls told texts asked earlier [] among = refl
called_texts catalog requests list ls told texts asked earlier (r ∷ rs) among =
    let i = count_by (λ (x : Request). x.client == r.client) earlier in
    ap₂ ◌∷◌ (called_answer catalog requests r.line r.client i (asked_entry r.client i r.what) among.0 (asked_by_own r.client i r.what) 0 list ls told texts asked)
    (called_texts catalog requests list ls told texts asked (earlier ++ r ∷ []) rs among.1)
