-- What it says of nests that their section has its shape, and their members are known.
use Rattle.std.proofs.Common.{◌≡◌, ◌≤◌, ◌&&◌, ℕ, zero, suc, Bool, true, false, List, [], ◌∷◌, length, slice_get, Option, Some, None, refl, sym, ap, subst, ◌∙◌, Ok, Err, IfOk, arith}
use Rattle.std.specs.Prelude.{codes, cond, nat_le}
use Rattle.std.specs.List.{AllByRecursion, find, list_all}
use Rattle.std.specs.Str.{bytes_eq}
use Rattle.std.proofs.lemmas.Bool.{and_parts, leb-true}
use Rattle.serde_json.specs.Data.{Data, null, boolean, number, string, array, object, Items, no_items, item}
use Rattle.serde_json.specs.Events.{items_len}
use Rattle.ss_lemmas.proofs.Bools.{some_same}
use Rattle.ss_model.specs.declared.catalog.Catalog.{Catalog}
use Rattle.ss_model.specs.declared.catalog.Nest.{Nest}
use Rattle.ss_model.specs.declared.catalog.Procedure.{Procedure}
use Rattle.ss_model.specs.Database.{is_streaming}
use Rattle.ss_model.specs.Orders.{procedure_has}
use Rattle.ss_model.specs.Settling.{procedure_numbers, streams_on}
use Rattle.ss_catalog_json.specs.declared.json_readers.ItemCount.TheVariants.{Any}
use Rattle.ss_catalog_json.specs.Readings.{OrFault, inside, item_step, object_of, read_name, read_word, read_items_from, read_array_of}
use Rattle.ss_catalog_laws.proofs.CallerLemmas.{array_holds, key_or_holds, of_read, then_any, then_key, then_key_with, then_with, where_holds}
use Rattle.ss_catalog.proofs.CallerLemmas.{bind_ok, ok_same}
use Rattle.ss_nest.specs.declared.outline.NestOutline.{NestOutline}
use Rattle.ss_nest.specs.Outlines.{nests_key, read_members, read_nest, read_nests}
use Rattle.ss_nest.specs.Members.{number_or_name, is_member_named, member_named, member_of, members_of, nest_of, nests_of}

-- ---- how many members a nest has

-- from two to eight
abbrev pub IsSeveral : {A : Type 0} → List A → Type 0
IsSeveral xs = (2 ≤ length xs) × (length xs ≤ 8)

-- as many are read as are there
items_count : (n : ℕ) (ds : Items) → IfOk (read_items_from n read_word ds) (λ (ws : List (List ℕ)). length ws ≡ items_len ds)
items_count n no_items = refl
items_count n (item d ds) =
    then_any (List ℕ) (λ (ws : List (List ℕ)). length ws ≡ items_len (item d ds)) (inside (item_step n) (read_word d)) _ (λ w.
    then_with (List (List ℕ)) (λ (ws : List (List ℕ)). length ws ≡ items_len (item d ds)) (λ (ws : List (List ℕ)). length ws ≡ items_len ds) (read_items_from (suc n) read_word ds) _
    (items_count (suc n) ds) (λ ws same. ap suc same))

array_several : (ds : Items) → IfOk (read_members (array ds)) (IsSeveral {A = List ℕ})
array_several ds =
    where_holds (IsSeveral {A = List ℕ}) (nat_le 2 (items_len ds) && nat_le (items_len ds) 8) (read_array_of Any read_word (array ds)) (λ so.
    let parts = and_parts (nat_le 2 (items_len ds)) (nat_le (items_len ds) 8) so in
    let least = leb-true 2 (items_len ds) parts.0 in
    let most = leb-true (items_len ds) 8 parts.1 in
    by (read_items_from 0 read_word ds) (items_count 0 ds) least most)
  where
    by : (r : OrFault (List (List ℕ))) → IfOk r (λ (ws : List (List ℕ)). length ws ≡ items_len ds) → 2 ≤ items_len ds → items_len ds ≤ 8 → IfOk r (IsSeveral {A = List ℕ})
    by (Ok ws) same least most = (omega arith, omega arith)
    by (Err way) same least most = tt

members_several : (d : Data) → IfOk (read_members d) (IsSeveral {A = List ℕ})
members_several null = tt
members_several (boolean b) = tt
members_several (number n) = tt
members_several (string s) = tt
members_several (array ds) = array_several ds
members_several (object ms) = tt

nest_several : (d : Data) → IfOk (read_nest d) (λ (o : NestOutline). IsSeveral o.procedures)
nest_several d =
    then_any _ (λ (o : NestOutline). IsSeveral o.procedures) (object_of (codes "name" ∷ codes "procedures" ∷ []) d) _ (λ u.
    then_key (λ (o : NestOutline). IsSeveral o.procedures) read_name (codes "name") d _ (λ name.
    then_key_with (λ (o : NestOutline). IsSeveral o.procedures) read_members (codes "procedures") d _ (IsSeveral {A = List ℕ}) members_several (λ ws so. so)))

-- each nest as it is written has from two to eight procedures
pub outlines_several : (d : Data) (os : List NestOutline) → read_nests d ≡ Ok os → AllByRecursion (λ (o : NestOutline). IsSeveral o.procedures) os
outlines_several d os is =
    of_read (AllByRecursion (λ (o : NestOutline). IsSeveral o.procedures)) (read_nests d)
    (key_or_holds (AllByRecursion (λ (o : NestOutline). IsSeveral o.procedures)) (read_array_of Any read_nest)
    (λ e. array_holds (λ (o : NestOutline). IsSeveral o.procedures) read_nest nest_several Any e) nests_key [] tt d) os is

-- ---- what members are

pub find_passes : {A : Type 0} (p : A → Bool) (xs : List A) (x : A) → find p xs ≡ Some x → p x ≡ true
find_passes p [] x e = absurd (cc)
find_passes p (y ∷ xs) x e = by (p y) refl e (find_passes p xs x)
  where
    by : (b : Bool) → p y ≡ b → cond b (Some y) (find p xs) ≡ Some x → (find p xs ≡ Some x → p x ≡ true) → p x ≡ true
    by true is e rest = subst (λ z. p z ≡ true) (some_same y x e) is
    by false is e rest = rest e

module _ (c : Catalog) where
  streams_named : (name : List ℕ) (o : Option Procedure) → procedure_has (λ p. is_streaming p.kind && bytes_eq p.name name) o ≡ true → procedure_has (λ p. is_streaming p.kind) o ≡ true
  streams_named name None h = h
  streams_named name (Some p) h = (and_parts (is_streaming p.kind) (bytes_eq p.name name) h).0

  found_streams : (name : List ℕ) (o : Option ℕ) (q : ℕ) → ((x : ℕ) → o ≡ Some x → is_member_named c name x ≡ true) → number_or_name name o ≡ Ok q → streams_on c q ≡ true
  found_streams name None q passes e = absurd (cc)
  found_streams name (Some x) q passes e =
      let same : x ≡ q = ok_same (number_or_name name (Some x)) x q refl e in
      subst (λ n. streams_on c n ≡ true) same (streams_named name (slice_get c.procedures x) (passes x refl))

  member_streams : (name : List ℕ) (q : ℕ) → member_of c name ≡ Ok q → streams_on c q ≡ true
  member_streams name q e = found_streams name (member_named c name) q (λ x is. find_passes (is_member_named c name) (procedure_numbers c) x is) e

  -- all are border or interior procedures, as many as there are names
  pub record AreMembers (names : List (List ℕ)) (qs : List ℕ) : Type 0 where
    pub streams : list_all (streams_on c) qs ≡ true
    pub count : length qs ≡ length names

  pub are_members : (names : List (List ℕ)) (qs : List ℕ) → members_of c names ≡ Ok qs → AreMembers names qs
  are_members [] qs e =
      let same : [] ≡ qs = ok_same (members_of c []) [] qs refl e in
      record { streams = ap (list_all (streams_on c)) (sym same); count = ap length (sym same) }
  are_members (name ∷ names) qs e =
      let first = bind_ok (member_of c name) _ qs e in
      let rest = bind_ok (members_of c names) _ qs first.2 in
      let more = are_members names rest.0 rest.1 in
      let same : first.0 ∷ rest.0 ≡ qs = ok_same (Ok (first.0 ∷ rest.0)) (first.0 ∷ rest.0) qs refl rest.2 in
      let here = member_streams name first.0 first.1 in
      record {
        streams = ap (list_all (streams_on c)) (sym same) ∙ ap (λ b. b && list_all (streams_on c) rest.0) here ∙ more.streams;
        count = ap length (sym same) ∙ ap suc more.count;
      }

  -- each nest is made of what is written
  pub record IsWritten (os : List NestOutline) (i : ℕ) (nest : Nest) : Type 0 where
    pub outline : NestOutline
    pub stands : slice_get os i ≡ Some outline
    pub members : members_of c outline.procedures ≡ Ok nest.members

  written : (o : NestOutline) (nest : Nest) → nest_of c o ≡ Ok nest → members_of c o.procedures ≡ Ok nest.members
  written o nest e =
      let found = bind_ok (members_of c o.procedures) _ nest e in
      let made : Nest = record { name = o.name; members = found.0 } in
      let same : made ≡ nest = ok_same (Ok made) made nest refl found.2 in
      found.1 ∙ ap (λ (n : Nest). Ok n.members) same

  pub is_written : (os : List NestOutline) (nests : List Nest) → nests_of c os ≡ Ok nests → (i : ℕ) (nest : Nest) → slice_get nests i ≡ Some nest → IsWritten os i nest
  is_written [] nests e i nest is =
      let same : [] ≡ nests = ok_same (nests_of c []) [] nests refl e in
      let none : None ≡ Some nest = ap (λ (ns : List Nest). slice_get ns i) same ∙ is in
      absurd (cc)
  is_written (o ∷ os) nests e i nest is =
      let first = bind_ok (nest_of c o) _ nests e in
      let rest = bind_ok (nests_of c os) _ nests first.2 in
      let same : first.0 ∷ rest.0 ≡ nests = ok_same (Ok (first.0 ∷ rest.0)) (first.0 ∷ rest.0) nests refl rest.2 in
      by i first.0 first.1 rest.0 (ap (λ (ns : List Nest). slice_get ns i) same ∙ is) (is_written os rest.0 rest.1)
    where
      by : (i : ℕ) (n : Nest) → nest_of c o ≡ Ok n → (ns : List Nest) → slice_get (n ∷ ns) i ≡ Some nest → ((k : ℕ) (m : Nest) → slice_get ns k ≡ Some m → IsWritten os k m) → IsWritten (o ∷ os) i nest
      by zero n made ns is later = record { outline = o; stands = refl; members = written o nest (made ∙ ap Ok (some_same n nest is)) }
      by (suc k) n made ns is later = let w = later k nest is in record { outline = w.outline; stands = w.stands; members = w.members }
