-- A value that has the form of a line of a report has no float.
use Rattle.std.proofs.Common.{◌≡◌, ◌&&◌, ◌||◌, ◌⊎◌, inl, inr, ℕ, List, Bool, true, false, cond, codes, Some, None, Option, option_map, option_and_then, is_some, refl}
use Rattle.std.specs.Str.{bytes_eq}
use Rattle.std.proofs.lemmas.Bool.{and_parts, or_cases}
use Rattle.serde_json.specs.Data.{Data, null, boolean, number, string, array, object, unsigned, negative, float, Items, no_items, item}
use Rattle.serde_json.specs.Written.{has_float, items_have_float}
use Rattle.ss_report_lines.specs.declared.kind.LineKind.{LineKind}
use Rattle.ss_report_lines.specs.declared.kind.LineKind.TheVariants.{Reply, Call, Push, Install, Step, Table, Done}
use Rattle.ss_report_lines.specs.Kinds.{items_all, is_count, is_integer, is_text, is_word, is_value, is_row, is_rows, reason_has, are_reason, is_one, are_outcome, is_outcome, number_at, client_at, reply_kind, asked_by, step_kind, table_kind, row_kind, done_kind, items_kind, kind_of}

-- a test that no value with a float passes
abbrev Whole : (Data → Bool) → Type 0
Whole test = (d : Data) → test d ≡ true → has_float d ≡ false

-- the same of an array's items
abbrev WholeItems : (Items → Bool) → Type 0
WholeItems test = (ds : Items) → test ds ≡ true → items_have_float ds ≡ false

-- ---- parts

is_text-whole : Whole is_text
is_text-whole null h = refl
is_text-whole (boolean b) h = refl
is_text-whole (number n) h = absurd (cc)
is_text-whole (string s) h = refl
is_text-whole (array ds) h = absurd (cc)
is_text-whole (object ms) h = absurd (cc)

is_integer-whole : Whole is_integer
is_integer-whole null h = refl
is_integer-whole (boolean b) h = refl
is_integer-whole (number (unsigned n)) h = refl
is_integer-whole (number (negative z)) h = refl
is_integer-whole (number (float x)) h = absurd (cc)
is_integer-whole (string s) h = refl
is_integer-whole (array ds) h = absurd (cc)
is_integer-whole (object ms) h = absurd (cc)

is_count-whole : Whole is_count
is_count-whole null h = refl
is_count-whole (boolean b) h = refl
is_count-whole (number (unsigned n)) h = refl
is_count-whole (number (negative z)) h = refl
is_count-whole (number (float x)) h = absurd (cc)
is_count-whole (string s) h = refl
is_count-whole (array ds) h = absurd (cc)
is_count-whole (object ms) h = absurd (cc)

is_word-whole : (word : List ℕ) → Whole (is_word word)
is_word-whole word null h = refl
is_word-whole word (boolean b) h = refl
is_word-whole word (number n) h = absurd (cc)
is_word-whole word (string s) h = refl
is_word-whole word (array ds) h = absurd (cc)
is_word-whole word (object ms) h = absurd (cc)

is_value-whole : Whole is_value
is_value-whole d h = elim (or_cases (is_text d) (is_integer d) h) [
  | inl a ↦ is_text-whole d a
  | inr b ↦ is_integer-whole d b
]

items_all-whole : (test : Data → Bool) → Whole test → WholeItems (items_all test)
items_all-whole test w no_items h = refl
items_all-whole test w (item d ds) h =
    let parts = and_parts (test d) (items_all test ds) h in
    rw (w d parts.0) (items_all-whole test w ds parts.1)

is_row-whole : Whole is_row
is_row-whole null h = refl
is_row-whole (boolean b) h = refl
is_row-whole (number n) h = absurd (cc)
is_row-whole (string s) h = refl
is_row-whole (array ds) h = items_all-whole is_value is_value-whole ds h
is_row-whole (object ms) h = absurd (cc)

is_rows-whole : Whole is_rows
is_rows-whole null h = refl
is_rows-whole (boolean b) h = refl
is_rows-whole (number n) h = absurd (cc)
is_rows-whole (string s) h = refl
is_rows-whole (array ds) h = items_all-whole is_row is_row-whole ds h
is_rows-whole (object ms) h = absurd (cc)

-- ---- outcomes

is_one-whole : (test : Data → Bool) → Whole test → WholeItems (is_one test)
is_one-whole test w no_items h = refl
is_one-whole test w (item d no_items) h = rw (w d h) refl
is_one-whole test w (item d (item e ds)) h = absurd (cc)

raised_or : (b : Bool) (d : Data) (c : Bool) → cond b (is_integer d) (c && is_text d) ≡ true → has_float d ≡ false
raised_or true d c h = is_integer-whole d h
raised_or false d c h = is_text-whole d (and_parts c (is_text d) h).1

reason_has-whole : (word : List ℕ) → WholeItems (reason_has word)
reason_has-whole word no_items h = refl
reason_has-whole word (item d no_items) h = rw (raised_or (bytes_eq word (codes "raised")) d _ h) refl
reason_has-whole word (item d (item e ds)) h = absurd (cc)

are_reason-whole : WholeItems are_reason
are_reason-whole no_items h = refl
are_reason-whole (item null ds) h = absurd (cc)
are_reason-whole (item (boolean b) ds) h = absurd (cc)
are_reason-whole (item (number n) ds) h = absurd (cc)
are_reason-whole (item (string s) ds) h = reason_has-whole s ds h
are_reason-whole (item (array es) ds) h = absurd (cc)
are_reason-whole (item (object ms) ds) h = absurd (cc)

outcome_words : (done aborted numbered : Bool) (ds : Items) → cond done (is_one is_rows ds) (cond aborted (are_reason ds) (numbered && is_one is_count ds)) ≡ true → items_have_float ds ≡ false
outcome_words true aborted numbered ds h = is_one-whole is_rows is_rows-whole ds h
outcome_words false true numbered ds h = are_reason-whole ds h
outcome_words false false numbered ds h = is_one-whole is_count is_count-whole ds (and_parts numbered (is_one is_count ds) h).1

are_outcome-whole : WholeItems are_outcome
are_outcome-whole no_items h = refl
are_outcome-whole (item null ds) h = absurd (cc)
are_outcome-whole (item (boolean b) ds) h = absurd (cc)
are_outcome-whole (item (number n) ds) h = absurd (cc)
are_outcome-whole (item (string s) ds) h = outcome_words _ _ _ ds h
are_outcome-whole (item (array es) ds) h = absurd (cc)
are_outcome-whole (item (object ms) ds) h = absurd (cc)

is_outcome-whole : Whole is_outcome
is_outcome-whole null h = refl
is_outcome-whole (boolean b) h = refl
is_outcome-whole (number n) h = absurd (cc)
is_outcome-whole (string s) h = refl
is_outcome-whole (array ds) h = are_outcome-whole ds h
is_outcome-whole (object ms) h = absurd (cc)

-- ---- lines

-- what a choice with nothing else gives comes of its test
pub chosen : {A : Type 0} (b : Bool) (x : Option A) (a : A) → cond b x None ≡ Some a → (b ≡ true) × (x ≡ Some a)
chosen true x a h = (refl, h)
chosen false x a h = absurd (cc)

-- what is mapped is there
pub mapped : {A B : Type 0} (f : A → B) (x : Option A) (b : B) → option_map f x ≡ Some b → is_some x ≡ true
mapped f (Some a) b h = refl
mapped f None b h = absurd (cc)

-- a client's number is a number
pub client_counts : (d : Data) → is_some (client_at d) ≡ true → is_count d ≡ true
client_counts null h = h
client_counts (boolean b) h = h
client_counts (number (unsigned n)) h = refl
client_counts (number (negative z)) h = h
client_counts (number (float x)) h = h
client_counts (string s) h = h
client_counts (array ds) h = h
client_counts (object ms) h = h

pub either : (a b c d : Bool) → ((a && b) || (c && d)) ≡ true → ((a ≡ true) × (b ≡ true)) ⊎ ((c ≡ true) × (d ≡ true))
either a b c d h = elim (or_cases (a && b) (c && d) h) [
  | inl x ↦ inl (and_parts a b x)
  | inr y ↦ inr (and_parts c d y)
]

-- items without a float, one after another
none_two : (a b : Data) → has_float a ≡ false → has_float b ≡ false → items_have_float (item a (item b no_items)) ≡ false
none_two a b x y = rw (x, y) refl

none_three : (a b c : Data) → has_float a ≡ false → has_float b ≡ false → has_float c ≡ false → items_have_float (item a (item b (item c no_items))) ≡ false
none_three a b c x y z = rw (x, y, z) refl

none_four : (a b c d : Data) → has_float a ≡ false → has_float b ≡ false → has_float c ≡ false → has_float d ≡ false → items_have_float (item a (item b (item c (item d no_items)))) ≡ false
none_four a b c d x y z w = rw (x, y, z, w) refl

reply-whole : (ds : Items) (k : LineKind) → reply_kind ds ≡ Some k → items_have_float ds ≡ false
reply-whole no_items k h = refl
reply-whole (item a no_items) k h = absurd (cc)
reply-whole (item a (item b no_items)) k h =
    let c = chosen _ _ k h in
    none_two a b (is_count-whole a (mapped Reply (number_at a) k c.1))
    (elim (or_cases _ _ c.0) [
      | inl x ↦ is_word-whole (codes "no_memory") b x
      | inr y ↦ is_word-whole (codes "list_full") b y
    ])
reply-whole (item a (item b (item c no_items))) k h =
    let t = chosen _ _ k h in
    let first = is_count-whole a (mapped Reply (number_at a) k t.1) in
    elim (either (is_count b) (is_outcome c) (is_word (codes "halted") b) (is_count c) t.0) [
      | inl x ↦ none_three a b c first (is_count-whole b x.0) (is_outcome-whole c x.1)
      | inr y ↦ none_three a b c first (is_word-whole (codes "halted") b y.0) (is_count-whole c y.1)
    ]
reply-whole (item a (item b (item c (item d ds)))) k h = absurd (cc)

pub both_there : {A B C : Type 0} (x : Option A) (y : Option B) (f : A → B → C) (c : C) → option_and_then (λ a. option_map (f a) y) x ≡ Some c → (is_some x ≡ true) × (is_some y ≡ true)
both_there (Some a) (Some b) f c h = (refl, refl)
both_there (Some a) None f c h = absurd (cc)
both_there None y f c h = absurd (cc)

asked-whole : (ds : Items) (by : ℕ × ℕ) → asked_by ds ≡ Some by → items_have_float ds ≡ false
asked-whole no_items by h = refl
asked-whole (item a no_items) by h = absurd (cc)
asked-whole (item a (item b no_items)) by h = absurd (cc)
asked-whole (item a (item b (item c no_items))) by h = absurd (cc)
asked-whole (item a (item b (item c (item d no_items)))) by h =
    let t = chosen _ _ by h in
    let parts = and_parts (is_count a) (is_outcome d) t.0 in
    let there = both_there (client_at b) (number_at c) (λ x y. (x, y)) by t.1 in
    none_four a b c d (is_count-whole a parts.0) (is_count-whole b (client_counts b there.0)) (is_count-whole c there.1) (is_outcome-whole d parts.1)
asked-whole (item a (item b (item c (item d (item e ds))))) by h = absurd (cc)

step-whole : (ds : Items) (k : LineKind) → step_kind ds ≡ Some k → items_have_float ds ≡ false
step-whole no_items k h = refl
step-whole (item a no_items) k h = absurd (cc)
step-whole (item a (item b no_items)) k h = absurd (cc)
step-whole (item a (item b (item c no_items))) k h = absurd (cc)
step-whole (item a (item b (item c (item d no_items)))) k h =
    let t = chosen _ _ k h in
    let p = and_parts (is_count a && is_text b) (is_outcome d) t.0 in
    let q = and_parts (is_count a) (is_text b) p.0 in
    none_four a b c d (is_count-whole a q.0) (is_text-whole b q.1) (is_count-whole c (mapped Step (number_at c) k t.1)) (is_outcome-whole d p.1)
step-whole (item a (item b (item c (item d (item e ds))))) k h = absurd (cc)

table-whole : (ds : Items) (k : LineKind) → table_kind ds ≡ Some k → items_have_float ds ≡ false
table-whole no_items k h = refl
table-whole (item a no_items) k h = absurd (cc)
table-whole (item a (item b no_items)) k h =
    let t = chosen (is_text a) _ k h in
    none_two a b (is_text-whole a t.0) (is_count-whole b (mapped Table (number_at b) k t.1))
table-whole (item a (item b (item c ds))) k h = absurd (cc)

row-whole : (ds : Items) (k : LineKind) → row_kind ds ≡ Some k → items_have_float ds ≡ false
row-whole no_items k h = refl
row-whole (item a no_items) k h = absurd (cc)
row-whole (item a (item b no_items)) k h =
    let t = chosen (is_text a && is_row b) _ k h in
    let p = and_parts (is_text a) (is_row b) t.0 in
    none_two a b (is_text-whole a p.0) (is_row-whole b p.1)
row-whole (item a (item b (item c ds))) k h = absurd (cc)

done-whole : (ds : Items) (k : LineKind) → done_kind ds ≡ Some k → items_have_float ds ≡ false
done-whole no_items k h = refl
done-whole (item a no_items) k h = rw (is_count-whole a (mapped Done (number_at a) k h)) refl
done-whole (item a (item b ds)) k h = absurd (cc)

pub made : {A : Type 0} (f : A → LineKind) (x : Option A) (k : LineKind) → option_map f x ≡ Some k → (a : A) × (x ≡ Some a)
made f (Some a) k h = (a, refl)
made f None k h = absurd (cc)

words : (r c p n s t w d : Bool) (ds : Items) (k : LineKind)
    → cond r (reply_kind ds) (cond c (option_map (λ by. Call by.0 by.1) (asked_by ds)) (cond p (option_map (λ by. Push by.0 by.1) (asked_by ds)) (cond n (option_map (λ by. Install by.0 by.1) (asked_by ds)) (cond s (step_kind ds) (cond t (table_kind ds) (cond w (row_kind ds) (cond d (done_kind ds) None))))))) ≡ Some k
    → items_have_float ds ≡ false
words true c p n s t w d ds k h = reply-whole ds k h
words false true p n s t w d ds k h = let m = made (λ by. Call by.0 by.1) (asked_by ds) k h in asked-whole ds m.0 m.1
words false false true n s t w d ds k h = let m = made (λ by. Push by.0 by.1) (asked_by ds) k h in asked-whole ds m.0 m.1
words false false false true s t w d ds k h = let m = made (λ by. Install by.0 by.1) (asked_by ds) k h in asked-whole ds m.0 m.1
words false false false false true t w d ds k h = step-whole ds k h
words false false false false false true w d ds k h = table-whole ds k h
words false false false false false false true d ds k h = row-whole ds k h
words false false false false false false false true ds k h = done-whole ds k h
words false false false false false false false false ds k h = absurd (cc)

items-whole : (ds : Items) (k : LineKind) → items_kind ds ≡ Some k → items_have_float ds ≡ false
items-whole no_items k h = refl
items-whole (item null ds) k h = absurd (cc)
items-whole (item (boolean b) ds) k h = absurd (cc)
items-whole (item (number n) ds) k h = absurd (cc)
items-whole (item (string s) ds) k h = words _ _ _ _ _ _ _ _ ds k h
items-whole (item (array es) ds) k h = absurd (cc)
items-whole (item (object ms) ds) k h = absurd (cc)

kind-whole : (d : Data) (k : LineKind) → kind_of d ≡ Some k → has_float d ≡ false
kind-whole null k h = refl
kind-whole (boolean b) k h = refl
kind-whole (number n) k h = absurd (cc)
kind-whole (string s) k h = refl
kind-whole (array ds) k h = items-whole ds k h
kind-whole (object ms) k h = absurd (cc)

-- the same where a value has a kind
pub has_kind-whole : (d : Data) (k : Option LineKind) → kind_of d ≡ k → is_some k ≡ true → has_float d ≡ false
has_kind-whole d (Some k) e h = kind-whole d k e
has_kind-whole d None e h = absurd (cc)
