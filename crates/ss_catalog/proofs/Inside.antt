-- A value inside another nests no deeper, and has no float where the other has none.
use Rattle.std.proofs.Common.{◌≡◌, ◌≤◌, ◌⊎◌, inl, inr, ℕ, List, Option, Some, None, Ordering, Less, Equal, Greater, false, refl, ap, subst, arith}
use Rattle.std.specs.Prelude.{codes, unwrap_or, option_and_then}
use Rattle.std.specs.Ordering.{nat_cmp, match_ordering}
use Rattle.std.specs.Cmp.Lexicographic.{slice_cmp}
use Rattle.std.proofs.lemmas.Bool.{or_parts}
use Rattle.serde_json.specs.Data.{Data, null, boolean, number, string, array, object, no_items, Members, no_members, member, depth, items_depth, members_depth}
use Rattle.serde_json.specs.Find.{get, get_member, as_array}
use Rattle.serde_json.specs.Written.{has_float, items_have_float, members_have_float}
use Rattle.ss_catalog.specs.Texts.{procedure_values}

-- what is found is the first member, or behind it
here_or_behind : (o : Ordering) (rest : Option Data) (d e : Data) → match_ordering o rest (Some d) rest ≡ Some e → (d ≡ e) ⊎ (rest ≡ Some e)
here_or_behind Less rest d e h = inr h
here_or_behind Equal rest d e h = let same : d ≡ e = cc in inl same
here_or_behind Greater rest d e h = inr h

-- ---- depth

member_depth : (k : List ℕ) (ms : Members) (e : Data) → get_member k ms ≡ Some e → depth e ≤ members_depth ms
member_depth k no_members e h = absurd (cc)
member_depth k (member l d ms) e h = by (here_or_behind (slice_cmp nat_cmp k l) (get_member k ms) d e h) (member_depth k ms e)
  where
    by : (d ≡ e) ⊎ (get_member k ms ≡ Some e) → (get_member k ms ≡ Some e → depth e ≤ members_depth ms) → depth e ≤ members_depth (member l d ms)
    by (inl same) more = let f : depth d ≡ depth e = ap depth same in omega arith
    by (inr behind) more = let f : depth e ≤ members_depth ms = more behind in omega arith

pub get_depth : (k : List ℕ) (d e : Data) → get k d ≡ Some e → depth e ≤ depth d
get_depth k null e h = absurd (cc)
get_depth k (boolean b) e h = absurd (cc)
get_depth k (number n) e h = absurd (cc)
get_depth k (string s) e h = absurd (cc)
get_depth k (array ds) e h = absurd (cc)
get_depth k (object ms) e h = let f : depth e ≤ members_depth ms = member_depth k ms e h in omega arith

-- the items of an array that may be there
array_depth : (o : Option Data) (n : ℕ) → ((e : Data) → o ≡ Some e → depth e ≤ n) → items_depth (unwrap_or (option_and_then as_array o) no_items) ≤ n
array_depth None n h = omega arith
array_depth (Some null) n h = omega arith
array_depth (Some (boolean b)) n h = omega arith
array_depth (Some (number x)) n h = omega arith
array_depth (Some (string s)) n h = omega arith
array_depth (Some (array ds)) n h = let f : depth (array ds) ≤ n = h (array ds) refl in omega arith
array_depth (Some (object ms)) n h = omega arith

pub procedures_depth : (d : Data) → items_depth (procedure_values d) ≤ depth d
procedures_depth d = array_depth (get (codes "procedures") d) (depth d) (get_depth (codes "procedures") d)

-- ---- floats

member_floatless : (k : List ℕ) (ms : Members) (e : Data) → members_have_float ms ≡ false → get_member k ms ≡ Some e → has_float e ≡ false
member_floatless k no_members e none h = absurd (cc)
member_floatless k (member l d ms) e none h =
    let both = or_parts (has_float d) (members_have_float ms) none in
    by both.0 (here_or_behind (slice_cmp nat_cmp k l) (get_member k ms) d e h) (member_floatless k ms e both.1)
  where
    by : has_float d ≡ false → (d ≡ e) ⊎ (get_member k ms ≡ Some e) → (get_member k ms ≡ Some e → has_float e ≡ false) → has_float e ≡ false
    by here (inl same) more = subst (λ (x : Data). has_float x ≡ false) same here
    by here (inr behind) more = more behind

pub get_floatless : (k : List ℕ) (d e : Data) → has_float d ≡ false → get k d ≡ Some e → has_float e ≡ false
get_floatless k null e none h = absurd (cc)
get_floatless k (boolean b) e none h = absurd (cc)
get_floatless k (number n) e none h = absurd (cc)
get_floatless k (string s) e none h = absurd (cc)
get_floatless k (array ds) e none h = absurd (cc)
get_floatless k (object ms) e none h = member_floatless k ms e none h

array_floatless : (o : Option Data) → ((e : Data) → o ≡ Some e → has_float e ≡ false) → items_have_float (unwrap_or (option_and_then as_array o) no_items) ≡ false
array_floatless None h = refl
array_floatless (Some null) h = refl
array_floatless (Some (boolean b)) h = refl
array_floatless (Some (number x)) h = refl
array_floatless (Some (string s)) h = refl
array_floatless (Some (array ds)) h = h (array ds) refl
array_floatless (Some (object ms)) h = refl

pub procedures_floatless : (d : Data) → has_float d ≡ false → items_have_float (procedure_values d) ≡ false
procedures_floatless d none = array_floatless (get (codes "procedures") d) (λ e. get_floatless (codes "procedures") d e none)
