-- A value without one of its keys: the program's map gives it, it is no deeper, and floats are in it or at the key.
use Rattle.std.proofs.Common.{◌≡◌, ◌≤◌, ◌||◌, ℕ, suc, List, [], ◌∷◌, length, Option, Some, None, Bool, true, false, cond, String, BTreeMap, Global, Ordering, Less, Equal, Greater, string_bytes, nat_cmp, is_eq, refl, sym, ap, ◌∙◌, arith}
use Rattle.std.specs.Prelude.{max}
use Rattle.std.specs.BTreeMap.{is_at}
use Rattle.std.specs.Cmp.Lexicographic.{slice_cmp}
use Rattle.std.specs.Map.{remove_entry}
use Rattle.std.specs.Ordering.{match_ordering}
use Rattle.std.proofs.lemmas.Bool.{or_parts}
use Rattle.serde_json.specs.Data.{Data, null, boolean, number, string, array, object, Members, no_members, member, depth, members_depth}
use Rattle.serde_json.specs.Find.{get, get_member}
use Rattle.serde_json.specs.Events.{items_len}
use Rattle.serde_json.specs.View.{view, items_view, members_view}
use Rattle.serde_json.specs.Written.{has_float, members_have_float}
use Rattle.serde_json.specs.declared.value.Value.{Value, Object}
use Rattle.serde_json.proofs.Views.{Entry, view-Object}
use Rattle.ss_nest.specs.Without.{members_without, without}
use Rattle.ss_nest.specs.Outlines.{nests_key, plain_value}

-- ---- as the program takes it out

removed_at : (o : Ordering) (e : Entry) (es rest : List Entry) (ms : Members) → members_view rest ≡ ms
    → members_view (cond (is_eq o) es (e ∷ rest)) ≡ match_ordering o (member (string_bytes e.0) (view e.1) ms) (members_view es) (member (string_bytes e.0) (view e.1) ms)
removed_at Less e es rest ms h = ap (member (string_bytes e.0) (view e.1)) h
removed_at Equal e es rest ms h = refl
removed_at Greater e es rest ms h = ap (member (string_bytes e.0) (view e.1)) h

pub members_view_removed : (k : List ℕ) (es : List Entry)
    → members_view (remove_entry (is_at (λ (x : String Global). slice_cmp nat_cmp k (string_bytes x))) es) ≡ members_without k (members_view es)
members_view_removed k [] = refl
members_view_removed k (e ∷ es) = removed_at (slice_cmp nat_cmp k (string_bytes e.0)) e es _ _ (members_view_removed k es)

-- an object without its nests
pub without_entry : (m n : BTreeMap (String Global) Value) → n.entries ≡ remove_entry (is_at (λ (x : String Global). slice_cmp nat_cmp nests_key (string_bytes x))) m.entries
    → view (Object n) ≡ plain_value (view (Object m))
without_entry m n is =
    view-Object n ∙ ap (λ (es : List Entry). object (members_view es)) is ∙ ap object (members_view_removed nests_key m.entries)
    ∙ sym (ap plain_value (view-Object m))

-- ---- where the key is missing

missing_at : (o : Ordering) (k l : List ℕ) (d : Data) (ms rest : Members) (found : Option Data) → match_ordering o found (Some d) found ≡ None → (found ≡ None → rest ≡ ms)
    → match_ordering o (member l d rest) ms (member l d rest) ≡ member l d ms
missing_at Less k l d ms rest found none same = ap (member l d) (same none)
missing_at Equal k l d ms rest found none same = absurd (cc)
missing_at Greater k l d ms rest found none same = ap (member l d) (same none)

members_missing : (k : List ℕ) (ms : Members) → get_member k ms ≡ None → members_without k ms ≡ ms
members_missing k no_members none = refl
members_missing k (member l d ms) none = missing_at (slice_cmp nat_cmp k l) k l d ms (members_without k ms) (get_member k ms) none (members_missing k ms)

-- a value without the key stays as it is
pub without_missing : (k : List ℕ) (d : Data) → get k d ≡ None → without k d ≡ d
without_missing k null none = refl
without_missing k (boolean b) none = refl
without_missing k (number n) none = refl
without_missing k (string s) none = refl
without_missing k (array ds) none = refl
without_missing k (object ms) none = ap object (members_missing k ms none)

-- ---- how deep it is

depth_at : (o : Ordering) (k l : List ℕ) (d : Data) (ms rest : Members) → members_depth rest ≤ members_depth ms
    → members_depth (match_ordering o (member l d rest) ms (member l d rest)) ≤ max (depth d) (members_depth ms)
depth_at Less k l d ms rest h = omega arith
depth_at Equal k l d ms rest h = omega arith
depth_at Greater k l d ms rest h = omega arith

members_no_deeper : (k : List ℕ) (ms : Members) → members_depth (members_without k ms) ≤ members_depth ms
members_no_deeper k no_members = omega arith
members_no_deeper k (member l d ms) = depth_at (slice_cmp nat_cmp k l) k l d ms (members_without k ms) (members_no_deeper k ms)

pub no_deeper : (k : List ℕ) (d : Data) → depth (without k d) ≤ depth d
no_deeper k null = omega arith
no_deeper k (boolean b) = omega arith
no_deeper k (number n) = omega arith
no_deeper k (string s) = omega arith
no_deeper k (array ds) = omega arith
no_deeper k (object ms) = let inside = members_no_deeper k ms in omega arith

-- ---- floats

both_none : (a b : Bool) → a ≡ false → b ≡ false → (a || b) ≡ false
both_none true b h k = absurd (cc)
both_none false b h k = k

-- where one member is taken out or kept
float_at : (o : Ordering) (l : List ℕ) (d : Data) (ms rest : Members) (found : Option Data)
    → members_have_float (match_ordering o (member l d rest) ms (member l d rest)) ≡ false
    → ((e : Data) → match_ordering o found (Some d) found ≡ Some e → has_float e ≡ false)
    → (members_have_float rest ≡ false → ((e : Data) → found ≡ Some e → has_float e ≡ false) → members_have_float ms ≡ false)
    → members_have_float (member l d ms) ≡ false
float_at Less l d ms rest found h at more =
    let parts = or_parts (has_float d) (members_have_float rest) h in both_none (has_float d) (members_have_float ms) parts.0 (more parts.1 at)
float_at Equal l d ms rest found h at more = both_none (has_float d) (members_have_float ms) (at d refl) h
float_at Greater l d ms rest found h at more =
    let parts = or_parts (has_float d) (members_have_float rest) h in both_none (has_float d) (members_have_float ms) parts.0 (more parts.1 at)

members_floatless : (k : List ℕ) (ms : Members) → members_have_float (members_without k ms) ≡ false → ((e : Data) → get_member k ms ≡ Some e → has_float e ≡ false)
    → members_have_float ms ≡ false
members_floatless k no_members h at = refl
members_floatless k (member l d ms) h at = float_at (slice_cmp nat_cmp k l) l d ms (members_without k ms) (get_member k ms) h at (members_floatless k ms)

-- a value has no float where it has none without a key, and none at it
pub floatless : (k : List ℕ) (d : Data) → has_float (without k d) ≡ false → ((e : Data) → get k d ≡ Some e → has_float e ≡ false) → has_float d ≡ false
floatless k null h at = h
floatless k (boolean b) h at = h
floatless k (number n) h at = h
floatless k (string s) h at = h
floatless k (array ds) h at = h
floatless k (object ms) h at = members_floatless k ms h at

-- ---- how many items

-- an array has as many items as the program counts
pub items_counted : (vs : List Value) → items_len (items_view vs) ≡ length vs
items_counted [] = refl
items_counted (v ∷ vs) = ap suc (items_counted vs)
