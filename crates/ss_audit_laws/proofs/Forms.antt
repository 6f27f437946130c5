-- What the line of a call, a push or an install says.
use Rattle.std.proofs.Common.{◌≡◌, ◌∙◌, ℕ, ◌==◌, nat_le, List, [], ◌∷◌, ◌++◌, decimal, codes, Bool, true, false, cond, Option, Some, None, option_map, option_and_then, refl, sym, ap, arith}
use Rattle.std.specs.Str.{bytes_eq}
use Rattle.std.proofs.lemmas.Bool.{and_parts}
use Rattle.std.proofs.lemmas.Slice.Eq.{bytes_eq-Decides}
use Rattle.json.specs.Print.{escape_byte}
use Rattle.serde_json.specs.Data.{Data, null, boolean, number, string, array, object, unsigned, negative, float, Items, no_items, item}
use Rattle.serde_json.specs.View.{items_of}
use Rattle.serde_json.specs.Written.{compact_text}
use Rattle.ss_lemmas.proofs.Bools.{some_same}
use Rattle.ss_model.specs.declared.catalog.Catalog.{Catalog}
use Rattle.ss_model.specs.declared.entry.Answer.TheVariants.{Listed as ListedAnswer}
use Rattle.ss_model.specs.declared.entry.Entry.{Entry}
use Rattle.ss_model.specs.declared.entry.Entry.TheVariants.{Call as CallEntry, Push as PushEntry, Step as StepEntry, Install as InstallEntry}
use Rattle.ss_model.specs.declared.entry.Outcome.{Outcome}
use Rattle.ss_model.specs.ReportLines.{array_of, count, entry_line, outcome_data, reply_line}
use Rattle.ss_report_laws.proofs.Lines.{same_fronts, Without-decimal}
use Rattle.ss_report_lines.specs.declared.kind.LineKind.{LineKind}
use Rattle.ss_report_lines.specs.declared.kind.LineKind.TheVariants.{Reply, Call, Push, Install, Step, Table, Row, Done}
use Rattle.ss_report_lines.specs.Kinds.{is_count, is_outcome, number_at, client_at, asked_by, reply_kind, step_kind, table_kind, row_kind, done_kind, items_kind, kind_of}
use Rattle.ss_audit_laws.specs.Checks.{called_reply}

-- ---- numbers

pub count_is : (d : Data) (n : ℕ) → number_at d ≡ Some n → d ≡ count n
count_is null n h = absurd (cc)
count_is (boolean b) n h = absurd (cc)
count_is (number (unsigned m)) n h = ap count (some_same m n h)
count_is (number (negative z)) n h = absurd (cc)
count_is (number (float x)) n h = absurd (cc)
count_is (string s) n h = absurd (cc)
count_is (array ds) n h = absurd (cc)
count_is (object ms) n h = absurd (cc)

pub counted : (d : Data) → is_count d ≡ true → (n : ℕ) × (d ≡ count n)
counted null h = absurd (cc)
counted (boolean b) h = absurd (cc)
counted (number (unsigned n)) h = (n, refl)
counted (number (negative z)) h = absurd (cc)
counted (number (float x)) h = absurd (cc)
counted (string s) h = absurd (cc)
counted (array ds) h = absurd (cc)
counted (object ms) h = absurd (cc)

-- what a choice with nothing else gives comes of its test
pub chosen : {A : Type 0} (b : Bool) (x : Option A) (a : A) → cond b x None ≡ Some a → (b ≡ true) × (x ≡ Some a)
chosen true x a h = (refl, h)
chosen false x a h = absurd (cc)

client_is : (d : Data) (c : ℕ) → client_at d ≡ Some c → d ≡ count c
client_is null c h = absurd (cc)
client_is (boolean b) c h = absurd (cc)
client_is (number (unsigned n)) c h = ap count (some_same n c (chosen (nat_le n 255) (Some n) c h).1)
client_is (number (negative z)) c h = absurd (cc)
client_is (number (float x)) c h = absurd (cc)
client_is (string s) c h = absurd (cc)
client_is (array ds) c h = absurd (cc)
client_is (object ms) c h = absurd (cc)

-- ---- a client's entry

-- the line of a client's entry, with any outcome
abbrev pub entry_data : List ℕ → ℕ → ℕ → ℕ → Data → Data
entry_data word place c i out = array_of (string word ∷ count place ∷ count c ∷ count i ∷ out ∷ [])

both_there : (x y : Option ℕ) (c i : ℕ) → option_and_then {U = ℕ × ℕ} (λ a. option_map (λ b. (a, b)) y) x ≡ Some (c, i) → (x ≡ Some c) × (y ≡ Some i)
both_there (Some a) (Some b) c i h = let e = some_same (a, b) (c, i) h in (ap (λ (p : ℕ × ℕ). Some p.0) e, ap (λ (p : ℕ × ℕ). Some p.1) e)
both_there (Some a) None c i h = absurd (cc)
both_there None y c i h = absurd (cc)

-- a place and an outcome, of which these items are an entry's
abbrev AreOf : Items → ℕ → ℕ → Type 0
AreOf ds c i = (place : ℕ) × (out : Data) × (ds ≡ items_of (count place ∷ count c ∷ count i ∷ out ∷ []))

asked_is : (ds : Items) (c i : ℕ) → asked_by ds ≡ Some (c, i) → AreOf ds c i
asked_is no_items c i h = absurd (cc)
asked_is (item a no_items) c i h = absurd (cc)
asked_is (item a (item b no_items)) c i h = absurd (cc)
asked_is (item a (item b (item x no_items))) c i h = absurd (cc)
asked_is (item a (item b (item x (item out no_items)))) c i h =
    let t = chosen _ _ (c, i) h in
    let place = counted a (and_parts (is_count a) (is_outcome out) t.0).0 in
    let both = both_there (client_at b) (number_at x) c i t.1 in
    (place.0, out, (λ k. item (place.1 k) (item (client_is b c both.0 k) (item (count_is x i both.1 k) (item out no_items)))))
asked_is (item a (item b (item x (item out (item e ds))))) c i h = absurd (cc)

-- ---- which kinds words make

-- kinds by number
abbrev tag : LineKind → ℕ
tag (Reply n) = 0
tag (Call c i) = 1
tag (Push c i) = 2
tag (Step r) = 3
tag (Table n) = 4
tag Row = 5
tag (Done n) = 6
tag (Install c i) = 7

tagged : {A : Type 0} (f : A → LineKind) (n : ℕ) → ((a : A) → tag (f a) ≡ n) → (x : Option A) (k : LineKind) → option_map f x ≡ Some k → tag k ≡ n
tagged f n all (Some a) k h = ap tag (sym (some_same (f a) k h)) ∙ all a
tagged f n all None k h = absurd (cc)

reply_tag : (ds : Items) (k : LineKind) → reply_kind ds ≡ Some k → tag k ≡ 0
reply_tag no_items k h = absurd (cc)
reply_tag (item a no_items) k h = absurd (cc)
reply_tag (item a (item b no_items)) k h = tagged Reply 0 (λ n. refl) (number_at a) k (chosen _ _ k h).1
reply_tag (item a (item b (item c no_items))) k h = tagged Reply 0 (λ n. refl) (number_at a) k (chosen _ _ k h).1
reply_tag (item a (item b (item c (item d ds)))) k h = absurd (cc)

step_tag : (ds : Items) (k : LineKind) → step_kind ds ≡ Some k → tag k ≡ 3
step_tag no_items k h = absurd (cc)
step_tag (item a no_items) k h = absurd (cc)
step_tag (item a (item b no_items)) k h = absurd (cc)
step_tag (item a (item b (item c no_items))) k h = absurd (cc)
step_tag (item a (item b (item c (item d no_items)))) k h = tagged Step 3 (λ n. refl) (number_at c) k (chosen _ _ k h).1
step_tag (item a (item b (item c (item d (item e ds))))) k h = absurd (cc)

table_tag : (ds : Items) (k : LineKind) → table_kind ds ≡ Some k → tag k ≡ 4
table_tag no_items k h = absurd (cc)
table_tag (item a no_items) k h = absurd (cc)
table_tag (item a (item b no_items)) k h = tagged Table 4 (λ n. refl) (number_at b) k (chosen _ _ k h).1
table_tag (item a (item b (item c ds))) k h = absurd (cc)

row_tag : (ds : Items) (k : LineKind) → row_kind ds ≡ Some k → tag k ≡ 5
row_tag no_items k h = absurd (cc)
row_tag (item a no_items) k h = absurd (cc)
row_tag (item a (item b no_items)) k h = ap tag (sym (some_same Row k (chosen _ (Some Row) k h).1))
row_tag (item a (item b (item c ds))) k h = absurd (cc)

done_tag : (ds : Items) (k : LineKind) → done_kind ds ≡ Some k → tag k ≡ 6
done_tag no_items k h = absurd (cc)
done_tag (item a no_items) k h = tagged Done 6 (λ n. refl) (number_at a) k h
done_tag (item a (item b ds)) k h = absurd (cc)

-- what the word of a line makes of its other items, where the tests of words came to these
abbrev by_word : Bool → Bool → Bool → Bool → Bool → Bool → Bool → Bool → Items → Option LineKind
by_word r c p n s t w d ds =
    cond r (reply_kind ds)
    (cond c (option_map (λ by. Call by.0 by.1) (asked_by ds))
    (cond p (option_map (λ by. Push by.0 by.1) (asked_by ds))
    (cond n (option_map (λ by. Install by.0 by.1) (asked_by ds))
    (cond s (step_kind ds) (cond t (table_kind ds) (cond w (row_kind ds) (cond d (done_kind ds) None)))))))

-- no line has two kinds
other : {P : Type 0} (m n : ℕ) → m ≡ n → (m ≡ n → ⊥) → P
other m n e ne = absurd (ne e)

call_pair : (x : Option (ℕ × ℕ)) (c i : ℕ) → option_map (λ (by : ℕ × ℕ). Call by.0 by.1) x ≡ Some (Call c i) → x ≡ Some (c, i)
call_pair (Some (a, b)) c i h =
    let e : Call a b ≡ Call c i = some_same (Call a b) (Call c i) h in
    let first : a ≡ c = cc in
    let second : b ≡ i = cc in
    (λ k. Some (first k, second k))
call_pair None c i h = absurd (cc)

push_pair : (x : Option (ℕ × ℕ)) (c i : ℕ) → option_map (λ (by : ℕ × ℕ). Push by.0 by.1) x ≡ Some (Push c i) → x ≡ Some (c, i)
push_pair (Some (a, b)) c i h =
    let e : Push a b ≡ Push c i = some_same (Push a b) (Push c i) h in
    let first : a ≡ c = cc in
    let second : b ≡ i = cc in
    (λ k. Some (first k, second k))
push_pair None c i h = absurd (cc)

install_pair : (x : Option (ℕ × ℕ)) (c i : ℕ) → option_map (λ (by : ℕ × ℕ). Install by.0 by.1) x ≡ Some (Install c i) → x ≡ Some (c, i)
install_pair (Some (a, b)) c i h =
    let e : Install a b ≡ Install c i = some_same (Install a b) (Install c i) h in
    let first : a ≡ c = cc in
    let second : b ≡ i = cc in
    (λ k. Some (first k, second k))
install_pair None c i h = absurd (cc)

call_word : (r c p n s t w d : Bool) (ds : Items) (m i : ℕ) → by_word r c p n s t w d ds ≡ Some (Call m i) → (c ≡ true) × (asked_by ds ≡ Some (m, i))
call_word true c p n s t w d ds m i h = let e = reply_tag ds (Call m i) h in absurd (omega (arith, e))
call_word false true p n s t w d ds m i h = (refl, call_pair (asked_by ds) m i h)
call_word false false true n s t w d ds m i h = let e = tagged (λ (by : ℕ × ℕ). Push by.0 by.1) 2 (λ by. refl) (asked_by ds) (Call m i) h in absurd (omega (arith, e))
call_word false false false true s t w d ds m i h = let e = tagged (λ (by : ℕ × ℕ). Install by.0 by.1) 7 (λ by. refl) (asked_by ds) (Call m i) h in absurd (omega (arith, e))
call_word false false false false true t w d ds m i h = let e = step_tag ds (Call m i) h in absurd (omega (arith, e))
call_word false false false false false true w d ds m i h = let e = table_tag ds (Call m i) h in absurd (omega (arith, e))
call_word false false false false false false true d ds m i h = let e = row_tag ds (Call m i) h in absurd (omega (arith, e))
call_word false false false false false false false true ds m i h = let e = done_tag ds (Call m i) h in absurd (omega (arith, e))
call_word false false false false false false false false ds m i h = absurd (cc)

push_word : (r c p n s t w d : Bool) (ds : Items) (m i : ℕ) → by_word r c p n s t w d ds ≡ Some (Push m i) → (p ≡ true) × (asked_by ds ≡ Some (m, i))
push_word true c p n s t w d ds m i h = let e = reply_tag ds (Push m i) h in absurd (omega (arith, e))
push_word false true p n s t w d ds m i h = let e = tagged (λ (by : ℕ × ℕ). Call by.0 by.1) 1 (λ by. refl) (asked_by ds) (Push m i) h in absurd (omega (arith, e))
push_word false false true n s t w d ds m i h = (refl, push_pair (asked_by ds) m i h)
push_word false false false true s t w d ds m i h = let e = tagged (λ (by : ℕ × ℕ). Install by.0 by.1) 7 (λ by. refl) (asked_by ds) (Push m i) h in absurd (omega (arith, e))
push_word false false false false true t w d ds m i h = let e = step_tag ds (Push m i) h in absurd (omega (arith, e))
push_word false false false false false true w d ds m i h = let e = table_tag ds (Push m i) h in absurd (omega (arith, e))
push_word false false false false false false true d ds m i h = let e = row_tag ds (Push m i) h in absurd (omega (arith, e))
push_word false false false false false false false true ds m i h = let e = done_tag ds (Push m i) h in absurd (omega (arith, e))
push_word false false false false false false false false ds m i h = absurd (cc)

install_word : (r c p n s t w d : Bool) (ds : Items) (m i : ℕ) → by_word r c p n s t w d ds ≡ Some (Install m i) → (n ≡ true) × (asked_by ds ≡ Some (m, i))
install_word true c p n s t w d ds m i h = let e = reply_tag ds (Install m i) h in absurd (omega (arith, e))
install_word false true p n s t w d ds m i h = let e = tagged (λ (by : ℕ × ℕ). Call by.0 by.1) 1 (λ by. refl) (asked_by ds) (Install m i) h in absurd (omega (arith, e))
install_word false false true n s t w d ds m i h = let e = tagged (λ (by : ℕ × ℕ). Push by.0 by.1) 2 (λ by. refl) (asked_by ds) (Install m i) h in absurd (omega (arith, e))
install_word false false false true s t w d ds m i h = (refl, install_pair (asked_by ds) m i h)
install_word false false false false true t w d ds m i h = let e = step_tag ds (Install m i) h in absurd (omega (arith, e))
install_word false false false false false true w d ds m i h = let e = table_tag ds (Install m i) h in absurd (omega (arith, e))
install_word false false false false false false true d ds m i h = let e = row_tag ds (Install m i) h in absurd (omega (arith, e))
install_word false false false false false false false true ds m i h = let e = done_tag ds (Install m i) h in absurd (omega (arith, e))
install_word false false false false false false false false ds m i h = absurd (cc)

-- the words that the lines of clients' entries begin with
pub data Word : Type 0 where
  CallWord : Word
  PushWord : Word
  InstallWord : Word

abbrev pub letters : Word → List ℕ
letters CallWord = codes "call"
letters PushWord = codes "push"
letters InstallWord = codes "install"

-- the line of a call, a push or an install of this client and index
abbrev pub IsOf : Data → ℕ → ℕ → Type 0
IsOf d c i = (word : Word) × (place : ℕ) × (out : Data) × (d ≡ entry_data (letters word) place c i out)

call_items : (ds : Items) (c i : ℕ) → items_kind ds ≡ Some (Call c i) → IsOf (array ds) c i
call_items no_items c i h = absurd (cc)
call_items (item null ds) c i h = absurd (cc)
call_items (item (boolean b) ds) c i h = absurd (cc)
call_items (item (number n) ds) c i h = absurd (cc)
call_items (item (string s) ds) c i h =
    let t = call_word _ (bytes_eq s (codes "call")) _ _ _ _ _ _ ds c i h in
    let word : s ≡ codes "call" = (bytes_eq-Decides s (codes "call")).0 t.0 in
    let of = asked_is ds c i t.1 in
    (CallWord, of.0, of.1, (λ k. array (item (string (word k)) (of.2 k))))
call_items (item (array es) ds) c i h = absurd (cc)
call_items (item (object ms) ds) c i h = absurd (cc)

push_items : (ds : Items) (c i : ℕ) → items_kind ds ≡ Some (Push c i) → IsOf (array ds) c i
push_items no_items c i h = absurd (cc)
push_items (item null ds) c i h = absurd (cc)
push_items (item (boolean b) ds) c i h = absurd (cc)
push_items (item (number n) ds) c i h = absurd (cc)
push_items (item (string s) ds) c i h =
    let t = push_word _ _ (bytes_eq s (codes "push")) _ _ _ _ _ ds c i h in
    let word : s ≡ codes "push" = (bytes_eq-Decides s (codes "push")).0 t.0 in
    let of = asked_is ds c i t.1 in
    (PushWord, of.0, of.1, (λ k. array (item (string (word k)) (of.2 k))))
push_items (item (array es) ds) c i h = absurd (cc)
push_items (item (object ms) ds) c i h = absurd (cc)

install_items : (ds : Items) (c i : ℕ) → items_kind ds ≡ Some (Install c i) → IsOf (array ds) c i
install_items no_items c i h = absurd (cc)
install_items (item null ds) c i h = absurd (cc)
install_items (item (boolean b) ds) c i h = absurd (cc)
install_items (item (number n) ds) c i h = absurd (cc)
install_items (item (string s) ds) c i h =
    let t = install_word _ _ _ (bytes_eq s (codes "install")) _ _ _ _ ds c i h in
    let word : s ≡ codes "install" = (bytes_eq-Decides s (codes "install")).0 t.0 in
    let of = asked_is ds c i t.1 in
    (InstallWord, of.0, of.1, (λ k. array (item (string (word k)) (of.2 k))))
install_items (item (array es) ds) c i h = absurd (cc)
install_items (item (object ms) ds) c i h = absurd (cc)

pub call_is : (d : Data) (c i : ℕ) → kind_of d ≡ Some (Call c i) → IsOf d c i
call_is null c i h = absurd (cc)
call_is (boolean b) c i h = absurd (cc)
call_is (number n) c i h = absurd (cc)
call_is (string s) c i h = absurd (cc)
call_is (array ds) c i h = call_items ds c i h
call_is (object ms) c i h = absurd (cc)

pub push_is : (d : Data) (c i : ℕ) → kind_of d ≡ Some (Push c i) → IsOf d c i
push_is null c i h = absurd (cc)
push_is (boolean b) c i h = absurd (cc)
push_is (number n) c i h = absurd (cc)
push_is (string s) c i h = absurd (cc)
push_is (array ds) c i h = push_items ds c i h
push_is (object ms) c i h = absurd (cc)

pub install_is : (d : Data) (c i : ℕ) → kind_of d ≡ Some (Install c i) → IsOf d c i
install_is null c i h = absurd (cc)
install_is (boolean b) c i h = absurd (cc)
install_is (number n) c i h = absurd (cc)
install_is (string s) c i h = absurd (cc)
install_is (array ds) c i h = install_items ds c i h
install_is (object ms) c i h = absurd (cc)

-- ---- texts

-- what stands behind the word of a client's entry
abbrev pub behind_word : ℕ → ℕ → ℕ → Data → List ℕ
behind_word place c i out = decimal place ++ 44 ∷ (decimal c ++ 44 ∷ (decimal i ++ 44 ∷ (compact_text out ++ 93 ∷ [])))

-- what stands behind the first comma of a text
abbrev pub behind_comma : List ℕ → List ℕ
behind_comma [] = []
behind_comma (x ∷ xs) = cond (x == 44) xs (behind_comma xs)

data_text : (word : Word) (place c i : ℕ) (out : Data) → behind_comma (compact_text (entry_data (letters word) place c i out)) ≡ behind_word place c i out
unfolding escape_byte
data_text CallWord place c i out = refl
data_text PushWord place c i out = refl
data_text InstallWord place c i out = refl

-- whether an entry is this client's request of this index
abbrev pub IsBy : ℕ → ℕ → Entry → Type 0
IsBy client index (CallEntry c i q args) = (c ≡ client) × (i ≡ index)
IsBy client index (PushEntry c i s source seq rows) = (c ≡ client) × (i ≡ index)
IsBy client index (InstallEntry c i q text) = (c ≡ client) × (i ≡ index)
IsBy client index (StepEntry q r) = ⊥

line_text : (catalog : Catalog) (place c i : ℕ) (outcome : Outcome) (e : Entry) → IsBy c i e → behind_comma (compact_text (entry_line catalog place outcome e)) ≡ behind_word place c i (outcome_data catalog outcome)
unfolding escape_byte
line_text catalog place c i outcome (CallEntry d j q args) h = (λ k. behind_word place (h.0 k) (h.1 k) (outcome_data catalog outcome))
line_text catalog place c i outcome (PushEntry d j s source seq rows) h = (λ k. behind_word place (h.0 k) (h.1 k) (outcome_data catalog outcome))
line_text catalog place c i outcome (InstallEntry d j q text) h = (λ k. behind_word place (h.0 k) (h.1 k) (outcome_data catalog outcome))
line_text catalog place c i outcome (StepEntry q r) h = absurd h

-- a reply with this place and outcome, behind its word
abbrev behind_reply : ℕ → List ℕ → List ℕ → List ℕ
behind_reply n place out = 91 ∷ 34 ∷ (codes "reply" ++ 34 ∷ 44 ∷ (decimal n ++ 44 ∷ (place ++ 44 ∷ out)))

called_is : (n : ℕ) (word : Word) (place c i : ℕ) (out : Data)
    → compact_text (called_reply n (Some (entry_data (letters word) place c i out))) ≡ behind_reply n (decimal place) (compact_text out ++ 93 ∷ [])
unfolding escape_byte
called_is n CallWord place c i out = refl
called_is n PushWord place c i out = refl
called_is n InstallWord place c i out = refl

reply_is : (catalog : Catalog) (n place : ℕ) (outcome : Outcome) → compact_text (reply_line catalog n (ListedAnswer place outcome)) ≡ behind_reply n (decimal place) (compact_text (outcome_data catalog outcome) ++ 93 ∷ [])
unfolding escape_byte
reply_is catalog n place outcome = refl

reply_same : (catalog : Catalog) (n : ℕ) (word : Word) (m place c i : ℕ) (out : Data) (outcome : Outcome) → decimal m ≡ decimal place → compact_text out ++ 93 ∷ [] ≡ compact_text (outcome_data catalog outcome) ++ 93 ∷ []
    → compact_text (called_reply n (Some (entry_data (letters word) m c i out))) ≡ compact_text (reply_line catalog n (ListedAnswer place outcome))
reply_same catalog n word m place c i out outcome one two = called_is n word m c i out ∙ (λ k. behind_reply n (one k) (two k)) ∙ sym (reply_is catalog n place outcome)

-- the reply that a printed entry calls for has the text of the entry's answer
pub called_text : (catalog : Catalog) (n place c i : ℕ) (outcome : Outcome) (e : Entry) (d : Data) → IsBy c i e → IsOf d c i
    → compact_text d ≡ compact_text (entry_line catalog place outcome e) → compact_text (called_reply n (Some d)) ≡ compact_text (reply_line catalog n (ListedAnswer place outcome))
called_text catalog n place c i outcome e d by of same =
    let out = of.2 in
    let is : d ≡ entry_data (letters of.0) of.1 c i out = of.3 in
    let texts : behind_word of.1 c i out ≡ behind_word place c i (outcome_data catalog outcome) =
    sym (data_text of.0 of.1 c i out) ∙ ap (λ (x : Data). behind_comma (compact_text x)) (sym is) ∙ ap behind_comma same ∙ line_text catalog place c i outcome e by in
    let one = same_fronts 44 (decimal of.1) (decimal place) _ _ (Without-decimal 44 of.1 (omega arith)) (Without-decimal 44 place (omega arith)) texts in
    let two = same_fronts 44 (decimal c) (decimal c) _ _ (Without-decimal 44 c (omega arith)) (Without-decimal 44 c (omega arith)) one.1 in
    let three = same_fronts 44 (decimal i) (decimal i) _ _ (Without-decimal 44 i (omega arith)) (Without-decimal 44 i (omega arith)) two.1 in
    ap (λ (x : Data). compact_text (called_reply n (Some x))) is ∙ reply_same catalog n of.0 of.1 place c i out outcome one.0 three.1
