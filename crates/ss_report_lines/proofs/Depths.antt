-- A value that has the form of a line of a report nests four deep at most.
use Rattle.std.proofs.Common.{◌≡◌, ◌≤◌, ◌&&◌, inl, inr, ℕ, List, Bool, true, false, cond, codes, Some, None, Option, option_map, is_some, arith}
use Rattle.std.specs.Str.{bytes_eq}
use Rattle.std.proofs.lemmas.Bool.{and_parts, or_cases}
use Rattle.serde_json.specs.Data.{Data, null, boolean, number, string, array, object, Items, no_items, item, depth, items_depth}
use Rattle.ss_report_lines.specs.declared.kind.LineKind.{LineKind}
use Rattle.ss_report_lines.specs.declared.kind.LineKind.TheVariants.{Reply, Call, Push, Install, Step, Table, Done}
use Rattle.ss_report_lines.specs.Kinds.{items_all, is_count, is_integer, is_text, is_word, is_value, is_row, is_rows, reason_has, are_reason, is_one, are_outcome, is_outcome, number_at, client_at, reply_kind, asked_by, step_kind, table_kind, row_kind, done_kind, items_kind, kind_of}
use Rattle.ss_report_lines.proofs.Floats.{chosen, mapped, client_counts, either, both_there, made}

-- a test that no value passes that nests deeper
abbrev Shallow : ℕ → (Data → Bool) → Type 0
Shallow n test = (d : Data) → test d ≡ true → depth d ≤ n

abbrev ShallowItems : ℕ → (Items → Bool) → Type 0
ShallowItems n test = (ds : Items) → test ds ≡ true → items_depth ds ≤ n

is_text-flat : Shallow 0 is_text
is_text-flat null h = absurd (cc)
is_text-flat (boolean b) h = absurd (cc)
is_text-flat (number n) h = absurd (cc)
is_text-flat (string s) h = omega arith
is_text-flat (array ds) h = absurd (cc)
is_text-flat (object ms) h = absurd (cc)

is_integer-flat : Shallow 0 is_integer
is_integer-flat null h = absurd (cc)
is_integer-flat (boolean b) h = absurd (cc)
is_integer-flat (number n) h = omega arith
is_integer-flat (string s) h = absurd (cc)
is_integer-flat (array ds) h = absurd (cc)
is_integer-flat (object ms) h = absurd (cc)

is_count-flat : Shallow 0 is_count
is_count-flat null h = absurd (cc)
is_count-flat (boolean b) h = absurd (cc)
is_count-flat (number n) h = omega arith
is_count-flat (string s) h = absurd (cc)
is_count-flat (array ds) h = absurd (cc)
is_count-flat (object ms) h = absurd (cc)

is_word-flat : (word : List ℕ) → Shallow 0 (is_word word)
is_word-flat word null h = absurd (cc)
is_word-flat word (boolean b) h = absurd (cc)
is_word-flat word (number n) h = absurd (cc)
is_word-flat word (string s) h = omega arith
is_word-flat word (array ds) h = absurd (cc)
is_word-flat word (object ms) h = absurd (cc)

is_value-flat : Shallow 0 is_value
is_value-flat d h = elim (or_cases (is_text d) (is_integer d) h) [
  | inl a ↦ is_text-flat d a
  | inr b ↦ is_integer-flat d b
]

items_all-shallow : (n : ℕ) (test : Data → Bool) → Shallow n test → ShallowItems n (items_all test)
items_all-shallow n test w no_items h = omega arith
items_all-shallow n test w (item d ds) h =
    let parts = and_parts (test d) (items_all test ds) h in
    let first = w d parts.0 in
    let rest = items_all-shallow n test w ds parts.1 in
    omega arith

is_row-shallow : Shallow 1 is_row
is_row-shallow null h = absurd (cc)
is_row-shallow (boolean b) h = absurd (cc)
is_row-shallow (number n) h = absurd (cc)
is_row-shallow (string s) h = absurd (cc)
is_row-shallow (array ds) h = let inside = items_all-shallow 0 is_value is_value-flat ds h in omega arith
is_row-shallow (object ms) h = absurd (cc)

is_rows-shallow : Shallow 2 is_rows
is_rows-shallow null h = absurd (cc)
is_rows-shallow (boolean b) h = absurd (cc)
is_rows-shallow (number n) h = absurd (cc)
is_rows-shallow (string s) h = absurd (cc)
is_rows-shallow (array ds) h = let inside = items_all-shallow 1 is_row is_row-shallow ds h in omega arith
is_rows-shallow (object ms) h = absurd (cc)

is_one-shallow : (n : ℕ) (test : Data → Bool) → Shallow n test → ShallowItems n (is_one test)
is_one-shallow n test w no_items h = omega arith
is_one-shallow n test w (item d no_items) h = let first = w d h in omega arith
is_one-shallow n test w (item d (item e ds)) h = absurd (cc)

raised_or : (b : Bool) (d : Data) (c : Bool) → cond b (is_integer d) (c && is_text d) ≡ true → depth d ≤ 0
raised_or true d c h = is_integer-flat d h
raised_or false d c h = is_text-flat d (and_parts c (is_text d) h).1

reason_has-flat : (word : List ℕ) → ShallowItems 0 (reason_has word)
reason_has-flat word no_items h = omega arith
reason_has-flat word (item d no_items) h = let first = raised_or (bytes_eq word (codes "raised")) d _ h in omega arith
reason_has-flat word (item d (item e ds)) h = absurd (cc)

are_reason-flat : ShallowItems 0 are_reason
are_reason-flat no_items h = omega arith
are_reason-flat (item null ds) h = absurd (cc)
are_reason-flat (item (boolean b) ds) h = absurd (cc)
are_reason-flat (item (number n) ds) h = absurd (cc)
are_reason-flat (item (string s) ds) h = let rest = reason_has-flat s ds h in omega arith
are_reason-flat (item (array es) ds) h = absurd (cc)
are_reason-flat (item (object ms) ds) h = absurd (cc)

outcome_words : (done aborted numbered : Bool) (ds : Items) → cond done (is_one is_rows ds) (cond aborted (are_reason ds) (numbered && is_one is_count ds)) ≡ true → items_depth ds ≤ 2
outcome_words true aborted numbered ds h = is_one-shallow 2 is_rows is_rows-shallow ds h
outcome_words false true numbered ds h = let rest = are_reason-flat ds h in omega arith
outcome_words false false numbered ds h = let rest = is_one-shallow 0 is_count is_count-flat ds (and_parts numbered (is_one is_count ds) h).1 in omega arith

are_outcome-shallow : ShallowItems 2 are_outcome
are_outcome-shallow no_items h = omega arith
are_outcome-shallow (item null ds) h = absurd (cc)
are_outcome-shallow (item (boolean b) ds) h = absurd (cc)
are_outcome-shallow (item (number n) ds) h = absurd (cc)
are_outcome-shallow (item (string s) ds) h = let rest = outcome_words _ _ _ ds h in omega arith
are_outcome-shallow (item (array es) ds) h = absurd (cc)
are_outcome-shallow (item (object ms) ds) h = absurd (cc)

is_outcome-shallow : Shallow 3 is_outcome
is_outcome-shallow null h = absurd (cc)
is_outcome-shallow (boolean b) h = absurd (cc)
is_outcome-shallow (number n) h = absurd (cc)
is_outcome-shallow (string s) h = absurd (cc)
is_outcome-shallow (array ds) h = let inside = are_outcome-shallow ds h in omega arith
is_outcome-shallow (object ms) h = absurd (cc)

-- ---- lines

reply-shallow : (ds : Items) (k : LineKind) → reply_kind ds ≡ Some k → items_depth ds ≤ 3
reply-shallow no_items k h = omega arith
reply-shallow (item a no_items) k h = absurd (cc)
reply-shallow (item a (item b no_items)) k h =
    let c = chosen _ _ k h in
    let one : depth a ≤ 0 = is_count-flat a (mapped Reply (number_at a) k c.1) in
    let two : depth b ≤ 0 = elim (or_cases _ _ c.0) [
      | inl x ↦ is_word-flat (codes "no_memory") b x
      | inr y ↦ is_word-flat (codes "list_full") b y
    ] in
    omega arith
reply-shallow (item a (item b (item c no_items))) k h =
    let t = chosen _ _ k h in
    let one : depth a ≤ 0 = is_count-flat a (mapped Reply (number_at a) k t.1) in
    let both : (depth b ≤ 0) × (depth c ≤ 3) = elim (either (is_count b) (is_outcome c) (is_word (codes "halted") b) (is_count c) t.0) [
      | inl x ↦ (is_count-flat b x.0, is_outcome-shallow c x.1)
      | inr y ↦ (is_word-flat (codes "halted") b y.0, (let flat : depth c ≤ 0 = is_count-flat c y.1 in omega arith))
    ] in
    let two : depth b ≤ 0 = both.0 in
    let three : depth c ≤ 3 = both.1 in
    omega arith
reply-shallow (item a (item b (item c (item d ds)))) k h = absurd (cc)

asked-shallow : (ds : Items) (by : ℕ × ℕ) → asked_by ds ≡ Some by → items_depth ds ≤ 3
asked-shallow no_items by h = omega arith
asked-shallow (item a no_items) by h = absurd (cc)
asked-shallow (item a (item b no_items)) by h = absurd (cc)
asked-shallow (item a (item b (item c no_items))) by h = absurd (cc)
asked-shallow (item a (item b (item c (item d no_items)))) by h =
    let t = chosen _ _ by h in
    let parts = and_parts (is_count a) (is_outcome d) t.0 in
    let there = both_there (client_at b) (number_at c) (λ x y. (x, y)) by t.1 in
    let one : depth a ≤ 0 = is_count-flat a parts.0 in
    let two : depth b ≤ 0 = is_count-flat b (client_counts b there.0) in
    let three : depth c ≤ 0 = is_count-flat c there.1 in
    let four : depth d ≤ 3 = is_outcome-shallow d parts.1 in
    omega arith
asked-shallow (item a (item b (item c (item d (item e ds))))) by h = absurd (cc)

step-shallow : (ds : Items) (k : LineKind) → step_kind ds ≡ Some k → items_depth ds ≤ 3
step-shallow no_items k h = omega arith
step-shallow (item a no_items) k h = absurd (cc)
step-shallow (item a (item b no_items)) k h = absurd (cc)
step-shallow (item a (item b (item c no_items))) k h = absurd (cc)
step-shallow (item a (item b (item c (item d no_items)))) k h =
    let t = chosen _ _ k h in
    let p = and_parts (is_count a && is_text b) (is_outcome d) t.0 in
    let q = and_parts (is_count a) (is_text b) p.0 in
    let one : depth a ≤ 0 = is_count-flat a q.0 in
    let two : depth b ≤ 0 = is_text-flat b q.1 in
    let three : depth c ≤ 0 = is_count-flat c (mapped Step (number_at c) k t.1) in
    let four : depth d ≤ 3 = is_outcome-shallow d p.1 in
    omega arith
step-shallow (item a (item b (item c (item d (item e ds))))) k h = absurd (cc)

table-shallow : (ds : Items) (k : LineKind) → table_kind ds ≡ Some k → items_depth ds ≤ 3
table-shallow no_items k h = omega arith
table-shallow (item a no_items) k h = absurd (cc)
table-shallow (item a (item b no_items)) k h =
    let t = chosen (is_text a) _ k h in
    let one : depth a ≤ 0 = is_text-flat a t.0 in
    let two : depth b ≤ 0 = is_count-flat b (mapped Table (number_at b) k t.1) in
    omega arith
table-shallow (item a (item b (item c ds))) k h = absurd (cc)

row-shallow : (ds : Items) (k : LineKind) → row_kind ds ≡ Some k → items_depth ds ≤ 3
row-shallow no_items k h = omega arith
row-shallow (item a no_items) k h = absurd (cc)
row-shallow (item a (item b no_items)) k h =
    let t = chosen (is_text a && is_row b) _ k h in
    let p = and_parts (is_text a) (is_row b) t.0 in
    let one : depth a ≤ 0 = is_text-flat a p.0 in
    let two : depth b ≤ 1 = is_row-shallow b p.1 in
    omega arith
row-shallow (item a (item b (item c ds))) k h = absurd (cc)

done-shallow : (ds : Items) (k : LineKind) → done_kind ds ≡ Some k → items_depth ds ≤ 3
done-shallow no_items k h = omega arith
done-shallow (item a no_items) k h = let one : depth a ≤ 0 = is_count-flat a (mapped Done (number_at a) k h) in omega arith
done-shallow (item a (item b ds)) k h = absurd (cc)

words : (r c p n s t w d : Bool) (ds : Items) (k : LineKind)
    → cond r (reply_kind ds) (cond c (option_map (λ by. Call by.0 by.1) (asked_by ds)) (cond p (option_map (λ by. Push by.0 by.1) (asked_by ds)) (cond n (option_map (λ by. Install by.0 by.1) (asked_by ds)) (cond s (step_kind ds) (cond t (table_kind ds) (cond w (row_kind ds) (cond d (done_kind ds) None))))))) ≡ Some k
    → items_depth ds ≤ 3
words true c p n s t w d ds k h = reply-shallow ds k h
words false true p n s t w d ds k h = let m = made (λ by. Call by.0 by.1) (asked_by ds) k h in asked-shallow ds m.0 m.1
words false false true n s t w d ds k h = let m = made (λ by. Push by.0 by.1) (asked_by ds) k h in asked-shallow ds m.0 m.1
words false false false true s t w d ds k h = let m = made (λ by. Install by.0 by.1) (asked_by ds) k h in asked-shallow ds m.0 m.1
words false false false false true t w d ds k h = step-shallow ds k h
words false false false false false true w d ds k h = table-shallow ds k h
words false false false false false false true d ds k h = row-shallow ds k h
words false false false false false false false true ds k h = done-shallow ds k h
words false false false false false false false false ds k h = absurd (cc)

items-shallow : (ds : Items) (k : LineKind) → items_kind ds ≡ Some k → items_depth ds ≤ 3
items-shallow no_items k h = omega arith
items-shallow (item null ds) k h = absurd (cc)
items-shallow (item (boolean b) ds) k h = absurd (cc)
items-shallow (item (number n) ds) k h = absurd (cc)
items-shallow (item (string s) ds) k h = let rest = words _ _ _ _ _ _ _ _ ds k h in omega arith
items-shallow (item (array es) ds) k h = absurd (cc)
items-shallow (item (object ms) ds) k h = absurd (cc)

kind-shallow : (d : Data) (k : LineKind) → kind_of d ≡ Some k → depth d ≤ 4
kind-shallow null k h = absurd (cc)
kind-shallow (boolean b) k h = absurd (cc)
kind-shallow (number n) k h = absurd (cc)
kind-shallow (string s) k h = absurd (cc)
kind-shallow (array ds) k h = let inside = items-shallow ds k h in omega arith
kind-shallow (object ms) k h = absurd (cc)

-- the same where a value has a kind
pub has_kind-shallow : (d : Data) (k : Option LineKind) → kind_of d ≡ k → is_some k ≡ true → depth d ≤ 4
has_kind-shallow d (Some k) e h = kind-shallow d k e
has_kind-shallow d None e h = absurd (cc)
