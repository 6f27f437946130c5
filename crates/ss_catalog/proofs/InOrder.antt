-- The keys of a value that is read from a text ascend, inside too: each member is found by its key.
use Rattle.std.proofs.Common.{◌≡◌, ℕ, List, Option, Some, None, Ordering, Less, Equal, Greater, refl, sym, ap, subst, ◌∙◌, nat_cmp}
use Rattle.std.specs.Prelude.{option_map, option_and_then, ⊤}
use Rattle.std.specs.Ordering.{is_eq, match_ordering, ordering_reverse}
use Rattle.std.specs.Cmp.Lexicographic.{slice_cmp}
use Rattle.std.proofs.lemmas.Cmp.{nat_list_cmp_total, tied_itself}
use Rattle.std.proofs.lemmas.Map.Text.{is_eq-slice_cmp}
use Rattle.std.proofs.lemmas.Slice.Eq.{bytes_eq-Decides}
use Rattle.ss_lemmas.proofs.Results.{map_some}
use Rattle.json.specs.Token.{Token}
use Rattle.json.specs.Lex.{tokens}
use Rattle.json.specs.Json as json
use Rattle.serde_json.specs.Data.{Data, null, boolean, number, string, array, object, Items, no_items, item, Members, no_members, member, put}
use Rattle.serde_json.specs.Find.{get, get_member}
use Rattle.serde_json.specs.Read.{number_of, of_json, of_items, of_members, max_depth, read}
use Rattle.ss_catalog.proofs.Texts.{some_same}

-- ---- ascending keys

-- a key below each of these
abbrev pub IsBelow : List ℕ → Members → Type 0
IsBelow k no_members = ⊤
IsBelow k (member l d ms) = (slice_cmp nat_cmp k l ≡ Less) × IsBelow k ms

abbrev mutual
  pub IsInOrder : Data → Type 0
  IsInOrder null = ⊤
  IsInOrder (boolean b) = ⊤
  IsInOrder (number n) = ⊤
  IsInOrder (string s) = ⊤
  IsInOrder (array ds) = AreInOrder ds
  IsInOrder (object ms) = MembersInOrder ms

  pub AreInOrder : Items → Type 0
  AreInOrder no_items = ⊤
  AreInOrder (item d ds) = IsInOrder d × AreInOrder ds

  pub MembersInOrder : Members → Type 0
  MembersInOrder no_members = ⊤
  MembersInOrder (member k d ms) = IsInOrder d × (IsBelow k ms × MembersInOrder ms)

-- ---- a member more

below_all : (k l : List ℕ) (ms : Members) → slice_cmp nat_cmp k l ≡ Less → IsBelow l ms → IsBelow k ms
below_all k l no_members is h = tt
below_all k l (member m d ms) is h = (nat_list_cmp_total.trans k l m is h.0, below_all k l ms is h.1)

reversed : (k l : List ℕ) (o : Ordering) → slice_cmp nat_cmp k l ≡ o → slice_cmp nat_cmp l k ≡ ordering_reverse o
reversed k l o is = nat_list_cmp_total.antisymm l k ∙ ap ordering_reverse is

below_put_at : (o : Ordering) (l k m : List ℕ) (d e : Data) (ms : Members) → slice_cmp nat_cmp l k ≡ Less → IsBelow l (member m e ms) → IsBelow l (put k d ms)
    → IsBelow l (match_ordering o (member k d (member m e ms)) (member m d ms) (member m e (put k d ms)))
below_put_at Less l k m d e ms is h more = (is, h)
below_put_at Equal l k m d e ms is h more = h
below_put_at Greater l k m d e ms is h more = (h.0, more)

below_put : (l k : List ℕ) (d : Data) (ms : Members) → slice_cmp nat_cmp l k ≡ Less → IsBelow l ms → IsBelow l (put k d ms)
below_put l k d no_members is h = (is, tt)
below_put l k d (member m e ms) is h = below_put_at (slice_cmp nat_cmp k m) l k m d e ms is h (below_put l k d ms is h.1)

put_at : (o : Ordering) (k l : List ℕ) (d e : Data) (ms : Members) → slice_cmp nat_cmp k l ≡ o → IsInOrder d → MembersInOrder (member l e ms) → MembersInOrder (put k d ms)
    → MembersInOrder (match_ordering o (member k d (member l e ms)) (member l d ms) (member l e (put k d ms)))
put_at Less k l d e ms is inside h more = (inside, ((is, below_all k l ms is h.1.0), h))
put_at Equal k l d e ms is inside h more = (inside, h.1)
put_at Greater k l d e ms is inside h more = (h.0, (below_put l k d ms (reversed k l Greater is) h.1.0, more))

put_in_order : (k : List ℕ) (d : Data) (ms : Members) → IsInOrder d → MembersInOrder ms → MembersInOrder (put k d ms)
put_in_order k d no_members inside h = (inside, (tt, tt))
put_in_order k d (member l e ms) inside h = put_at (slice_cmp nat_cmp k l) k l d e ms refl inside h (put_in_order k d ms inside h.1.1)

-- ---- what is read

then_some : {A B : Type 0} (f : A → Option B) (o : Option A) (b : B) → option_and_then f o ≡ Some b → (a : A) × (o ≡ Some a) × (f a ≡ Some b)
then_some f None b h = absurd (cc)
then_some f (Some a) b h = (a, refl, h)

mutual
  json_in_order : (j : json.Json) (d : Data) → of_json j ≡ Some d → IsInOrder d
  json_in_order json.null d h = subst IsInOrder (some_same (Some null) null d refl h) tt
  json_in_order (json.boolean b) d h = subst IsInOrder (some_same (Some (boolean b)) (boolean b) d refl h) tt
  json_in_order (json.number s) d h = let found = map_some number (number_of s) d h in subst IsInOrder found.2 tt
  json_in_order (json.string s) d h = subst IsInOrder (some_same (Some (string s)) (string s) d refl h) tt
  json_in_order (json.array js) d h = let found = map_some array (of_items js) d h in subst IsInOrder found.2 (items_in_order js found.0 found.1)
  json_in_order (json.object ms) d h = let found = map_some object (of_members ms no_members) d h in subst IsInOrder found.2 (members_in_order ms no_members found.0 tt found.1)

  items_in_order : (js : json.Items) (ds : Items) → of_items js ≡ Some ds → AreInOrder ds
  items_in_order json.no_items ds h = subst AreInOrder (some_same (Some no_items) no_items ds refl h) tt
  items_in_order (json.item j js) ds h =
      let first = then_some (λ (d : Data). option_map (item d) (of_items js)) (of_json j) ds h in
      let rest = map_some (item first.0) (of_items js) ds first.2 in
      subst AreInOrder rest.2 (json_in_order j first.0 first.1, items_in_order js rest.0 rest.1)

  members_in_order : (js : json.Members) (found ms : Members) → MembersInOrder found → of_members js found ≡ Some ms → MembersInOrder ms
  members_in_order json.no_members found ms so h = subst MembersInOrder (some_same (Some found) found ms refl h) so
  members_in_order (json.member k j js) found ms so h =
      let first = then_some (λ (d : Data). of_members js (put k d found)) (of_json j) ms h in
      members_in_order js (put k first.0 found) ms (put_in_order k first.0 found (json_in_order j first.0 first.1) so) first.2

-- a text is read as a value in order
pub read_in_order : (text : List ℕ) (d : Data) → read text ≡ Some d → IsInOrder d
read_in_order text d h =
    let found = then_some of_json (option_and_then (λ (p : json.Json × List Token). json.if_last p.0 p.1) (json.value max_depth (tokens text))) d h in
    json_in_order found.0 d found.2

-- ---- what is found

at_in_order : (o : Ordering) (rest : Option Data) (d e : Data) → IsInOrder d → (rest ≡ Some e → IsInOrder e) → match_ordering o rest (Some d) rest ≡ Some e → IsInOrder e
at_in_order Less rest d e inside more h = more h
at_in_order Equal rest d e inside more h = subst IsInOrder (some_same (Some d) d e refl h) inside
at_in_order Greater rest d e inside more h = more h

member_in_order : (k : List ℕ) (ms : Members) (e : Data) → MembersInOrder ms → get_member k ms ≡ Some e → IsInOrder e
member_in_order k no_members e so h = absurd (cc)
member_in_order k (member l d ms) e so h = at_in_order (slice_cmp nat_cmp k l) (get_member k ms) d e so.0 (member_in_order k ms e so.1.1) h

-- the value at a key is in order, too
pub get_in_order : (k : List ℕ) (d e : Data) → IsInOrder d → get k d ≡ Some e → IsInOrder e
get_in_order k null e so h = absurd (cc)
get_in_order k (boolean b) e so h = absurd (cc)
get_in_order k (number n) e so h = absurd (cc)
get_in_order k (string s) e so h = absurd (cc)
get_in_order k (array ds) e so h = absurd (cc)
get_in_order k (object ms) e so h = member_in_order k ms e so h

-- the first member is found by its key
pub found_first : (k : List ℕ) (d : Data) (ms : Members) → get_member k (member k d ms) ≡ Some d
found_first k d ms = ap (λ (o : Ordering). match_ordering o (get_member k ms) (Some d) (get_member k ms)) (tied_itself nat_list_cmp_total k)

-- keys that compare equal are the same
pub tied_same : (k l : List ℕ) → slice_cmp nat_cmp k l ≡ Equal → k ≡ l
tied_same k l is = (bytes_eq-Decides k l).0 (sym (is_eq-slice_cmp k l) ∙ ap is_eq is)

above_at : (o : Ordering) (k key l : List ℕ) (rest : Option Data) (d e : Data) → slice_cmp nat_cmp key l ≡ o → slice_cmp nat_cmp k l ≡ Less
    → (rest ≡ Some e → slice_cmp nat_cmp k key ≡ Less) → match_ordering o rest (Some d) rest ≡ Some e → slice_cmp nat_cmp k key ≡ Less
above_at Less k key l rest d e is below more h = more h
above_at Equal k key l rest d e is below more h = subst (λ (x : List ℕ). slice_cmp nat_cmp k x ≡ Less) (sym (tied_same key l is)) below
above_at Greater k key l rest d e is below more h = more h

-- what is found behind a key has a greater one
found_above : (k key : List ℕ) (ms : Members) (e : Data) → IsBelow k ms → get_member key ms ≡ Some e → slice_cmp nat_cmp k key ≡ Less
found_above k key no_members e below h = absurd (cc)
found_above k key (member l d ms) e below h = above_at (slice_cmp nat_cmp key l) k key l (get_member key ms) d e refl below.0 (found_above k key ms e below.1) h

-- and so it is found in the whole, too
pub found_behind : (k key : List ℕ) (d e : Data) (ms : Members) → IsBelow k ms → get_member key ms ≡ Some e → get_member key (member k d ms) ≡ Some e
found_behind k key d e ms below h =
    ap (λ (o : Ordering). match_ordering o (get_member key ms) (Some d) (get_member key ms)) (reversed k key Less (found_above k key ms e below h)) ∙ h
