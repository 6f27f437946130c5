-- One table of a shard that has the parts of some partitions.
use Rattle.std.proofs.Common.{◌≡◌, ◌≤◌, ◌<◌, ◌==◌, ◌||◌, ℕ, suc, Bool, true, false, cond, not, List, [], ◌∷◌, ◌++◌, length, refl, sym, ap, ◌∙◌, Option, Some, None, option_map, slice_get, unwrap_or, pos, arith}
use Rattle.std.specs.Option.{option_or}
use Rattle.std.specs.FinMap as finite
use Rattle.std.proofs.lemmas.List.Folds.{list_any-append}
use Rattle.std.proofs.lemmas.Option.{unwrap_or-slice_get}
use Rattle.std.proofs.Math.Bool.{or-false}
use Rattle.std.proofs.Math.Nat.{zero-mod}
use Rattle.ss_lemmas.proofs.Bools.{some_same}
use Rattle.ss_lemmas.proofs.EachOf.{none_from_map}
use Rattle.ss_lemmas.proofs.Numbers.{eqb_is, eqb_self}
use Rattle.ss_value.specs.declared.value.Value.{Value}
use Rattle.ss_value.specs.declared.value.Value.TheVariants.{Int}
use Rattle.ss_value.specs.ValueOrder.{row_cmp_total, row_cmp-IsAntisymmetric}
use Rattle.ss_value.specs.ValuePartition.{value_partition}
use Rattle.ss_value.specs.Rows.{Row}
use Rattle.ss_model.specs.declared.catalog.Placement.{Placement}
use Rattle.ss_model.specs.declared.catalog.Placement.TheVariants.{Part, By}
use Rattle.ss_model.specs.declared.catalog.TableDef.{TableDef}
use Rattle.ss_model.specs.Contents.{Table, key_position, key_columns, table_placement}
use Rattle.ss_model.specs.Partitions.{key_partition}
use Rattle.ss_model.proofs.CallerLemmas.{get_cut, same_table}
use Rattle.ss_table.specs.Routes.{part_of, optional_part, place_among, place_of}
use Rattle.ss_table.specs.TableValue.{TableValue, LiveRows}
use Rattle.ss_table.specs.Joins.{StandsAtHome, live_of_place, live_elsewhere}
use Rattle.ss_table.specs.Unions.{united}
use Rattle.ss_table.proofs.CallerLemmas.{get_two, place_more}
use Rattle.ss_shard.specs.Contents.{row_limit, rows_by_key}
use Rattle.ss_shard.specs.Databases.{route_at}
use Rattle.ss_shard.specs.Parts.{is_among}
use Rattle.ss_shard.proofs.ByKey.{row_of, get_by_key, map_cond}

-- ---- the part of a key

-- the partition of a key in the table of a definition, if there is one
abbrev pub place_in : ℕ → Option TableDef → Row → ℕ
place_in n d = key_partition n (table_placement d) (key_columns d)

zero_part : (n : ℕ) → value_partition n (Int (pos 0)) ≡ 0
zero_part n = zero-mod n

value_part : (n : ℕ) (o : Option Value) → optional_part n o ≡ value_partition n (unwrap_or o (Int (pos 0)))
value_part n None = sym (zero_part n)
value_part n (Some v) = refl

part_is : (n : ℕ) (cs : List ℕ) (placement : Placement) (key : Row) → part_of (route_at n cs placement) key ≡ key_partition n (Some placement) cs key
part_is n cs (Part y) key = refl
part_is n cs (By c) key = value_part n (slice_get key (key_position c cs)) ∙ ap (value_partition n) (unwrap_or-slice_get key (key_position c cs) (Int (pos 0)))

-- ---- parts that are held

none_among : (held : List ℕ) (p : ℕ) → place_among held p ≡ None → is_among held p ≡ false
none_among [] p e = refl
none_among (q ∷ qs) p e = by (q == p) (none_among qs p) e
  where
    by : (b : Bool) → (place_among qs p ≡ None → is_among qs p ≡ false) → cond b (Some 0) (option_map suc (place_among qs p)) ≡ None → (b || is_among qs p) ≡ false
    by true rest e = absurd (cc)
    by false rest e = rest (none_from_map suc (place_among qs p) e)

pub among_none : (held : List ℕ) (p : ℕ) → is_among held p ≡ false → place_among held p ≡ None
among_none [] p e = refl
among_none (q ∷ qs) p e = by (q == p) (among_none qs p) e
  where
    by : (b : Bool) → (is_among qs p ≡ false → place_among qs p ≡ None) → (b || is_among qs p) ≡ false → cond b (Some 0) (option_map suc (place_among qs p)) ≡ None
    by true rest e = absurd (cc)
    by false rest e = ap (option_map suc) (rest e)

-- one part more
among_more : (held : List ℕ) (p x : ℕ) → is_among (held ++ p ∷ []) x ≡ (is_among held x || (p == x))
among_more held p x = list_any-append (λ q. q == x) held (p ∷ []) ∙ ap (λ b. is_among held x || b) (or-false (p == x))

place_within : (ps : List ℕ) (x i : ℕ) → place_among ps x ≡ Some i → i < length ps
place_within [] x i e = absurd (cc)
place_within (q ∷ qs) x i e = by (q == x) (place_among qs x) (place_within qs x) e
  where
    by : (b : Bool) (o : Option ℕ) → ((i : ℕ) → o ≡ Some i → i < length qs) → cond b (Some 0) (option_map suc o) ≡ Some i → i < suc (length qs)
    by true o rest e = let zero_is : 0 ≡ i = some_same 0 i e in omega (arith, zero_is)
    by false None rest e = absurd (cc)
    by false (Some j) rest e = let next_is : suc j ≡ i = some_same (suc j) i e in let within = rest j refl in omega (arith, next_is, within)

less_so : (a b : ℕ) → a < b → (a == b) ≡ false
less_so a b h = grind (arith, h)

-- the last of several parts stands where only it does
last_place : (held : List ℕ) (p x : ℕ) → 1 ≤ length held → is_among held p ≡ false → (place_of (held ++ p ∷ []) x == length held) ≡ (p == x)
last_place held p x some fresh = by (p == x) refl
  where
    first_or_within : (o : Option ℕ) → place_among held x ≡ o → unwrap_or (option_or o None) 0 < length held
    first_or_within None e = some
    first_or_within (Some i) e = place_within held x i e

    by : (b : Bool) → (p == x) ≡ b → (place_of (held ++ p ∷ []) x == length held) ≡ b
    by true e =
        let none : place_among held x ≡ None = ap (place_among held) (sym (eqb_is p x e)) ∙ among_none held p fresh in
        let at : place_of (held ++ p ∷ []) x ≡ length held =
        ap (λ o. unwrap_or o 0) (place_more held p x ∙ ap (λ o. option_or o (cond (p == x) (Some (length held)) None)) none ∙ ap (λ b. cond b (Some (length held)) None) e) in
        ap (λ a. a == length held) at ∙ eqb_self (length held)
    by false e =
        let at : place_of (held ++ p ∷ []) x ≡ unwrap_or (option_or (place_among held x) None) 0 =
        ap (λ o. unwrap_or o 0) (place_more held p x ∙ ap (λ b. option_or (place_among held x) (cond b (Some (length held)) None)) e) in
        ap (λ a. a == length held) at ∙ less_so _ (length held) (first_or_within (place_among held x) refl)

-- ---- what is there by two tests

of_either : {A : Type 0} (a b : Bool) (o : Option A) → option_or (cond a o None) (cond (b || false) o None) ≡ cond (a || b) o None
of_either true true None = refl
of_either true false None = refl
of_either true true (Some x) = refl
of_either true false (Some x) = refl
of_either false true o = refl
of_either false false o = refl

map_or : {A B : Type 0} (f : A → B) (x y : Option A) → option_map f (option_or x y) ≡ option_or (option_map f x) (option_map f y)
map_or f None y = refl
map_or f (Some x) y = refl

kept_without : {A : Type 0} (a b : Bool) (o : Option A) → (b ≡ true → a ≡ false) → cond (not b) (cond (a || b) o None) None ≡ cond a o None
kept_without true true o apart = absurd (let no : true ≡ false = apart refl in cc)
kept_without true false o apart = refl
kept_without false true o apart = refl
kept_without false false o apart = refl

of_last : {A : Type 0} (a b : Bool) (o : Option A) → cond b (cond (a || b) o None) None ≡ cond (b || false) o None
of_last true true o = refl
of_last true false o = refl
of_last false true o = refl
of_last false false o = refl

-- ---- a table

-- a table of a definition, of these parts, without a dead row
pub record IsDealtTable (n : ℕ) (held : List ℕ) (d : TableDef) (h : TableValue) : Type 0 where
  pub key : h.key ≡ d.key
  pub limit : h.limit ≡ row_limit d.placement
  pub route : h.route ≡ route_at n d.key d.placement
  pub parts : h.parts ≡ held
  pub settled : h.dead ≡ finite.empty

-- the rows of a table whose parts are held
abbrev pub cut_to : ℕ → List ℕ → Option TableDef → Table → Table
cut_to n held d m = finite.retain_keys m (λ key. is_among held (place_in n d key))

module _ (n : ℕ) (d : TableDef) (m : Table) where
  abbrev home : Row → ℕ
  home = place_in n (Some d)

  home_is : (held : List ℕ) (h : TableValue) → IsDealtTable n held d h → (k : Row) → part_of h.route k ≡ place_in n (Some d) k
  home_is held h dealt k = ap (λ r. part_of r k) dealt.route ∙ part_is n d.key d.placement k

  -- what it has at a key
  row_there : (held : List ℕ) (live : LiveRows) → rows_by_key live ≡ cut_to n held (Some d) m → (k : Row) → option_map row_of (finite.get live k) ≡ cond (is_among held (place_in n (Some d) k)) (finite.get m k) None
  row_there held live rows k = sym (get_by_key live k) ∙ ap (λ (t : Table). finite.get t k) rows ∙ get_cut m (λ key. is_among held (place_in n (Some d) key)) k

  -- each row is of one of its parts
  pub stands_at_home : (held : List ℕ) (h : TableValue) → IsDealtTable n held d h → rows_by_key h.live ≡ cut_to n held (Some d) m → StandsAtHome h
  stands_at_home held h dealt rows = λ k e.
      let none : place_among held (place_in n (Some d) k) ≡ None = ap (place_among held) (sym (home_is held h dealt k)) ∙ sym (ap (λ ps. place_among ps (part_of h.route k)) dealt.parts) ∙ e in
      none_from_map row_of (finite.get h.live k) (row_there held h.live rows k ∙ ap (λ b. cond b (finite.get m k) None) (none_among held (place_in n (Some d) k) none))

  -- the rows of two tables together
  pub rows_joined : (held : List ℕ) (p : ℕ) (one two : LiveRows) → rows_by_key one ≡ cut_to n held (Some d) m → rows_by_key two ≡ cut_to n (p ∷ []) (Some d) m
      → rows_by_key (united (one ∷ two ∷ [])) ≡ cut_to n (held ++ p ∷ []) (Some d) m
  rows_joined held p one two rows others = same_table _ _ (λ k.
      get_by_key (united (one ∷ two ∷ [])) k
      ∙ ap (option_map row_of) (get_two row_cmp_total one two k)
      ∙ map_or row_of (finite.get one k) (finite.get two k)
      ∙ ap (λ o. option_or o (option_map row_of (finite.get two k))) (row_there held one rows k)
      ∙ ap (option_or (cond (is_among held (home k)) (finite.get m k) None)) (row_there (p ∷ []) two others k)
      ∙ of_either (is_among held (home k)) (p == home k) (finite.get m k)
      ∙ ap (λ b. cond b (finite.get m k) None) (sym (among_more held p (home k)))
      ∙ sym (get_cut m (λ key. is_among (held ++ p ∷ []) (home key)) k))

  -- ---- and without those of the last part

  module _ (held : List ℕ) (p : ℕ) (some : 1 ≤ length held) (fresh : is_among held p ≡ false) (old : TableValue) (dealt : IsDealtTable n (held ++ p ∷ []) d old) (rows : rows_by_key old.live ≡ cut_to n (held ++ p ∷ []) (Some d) m) where
    at_last : (k : Row) → (place_of old.parts (part_of old.route k) == length held) ≡ (p == home k)
    at_last k = (λ i. place_of (dealt.parts i) (home_is (held ++ p ∷ []) old dealt k i) == length held) ∙ last_place held p (home k) some fresh

    got : (f : Row → Bool) (k : Row) → finite.get (finite.retain_keys old.live f) k ≡ cond (f k) (finite.get old.live k) None
    got f k = finite.get-retain_keys old.live f k (λ x t. ap f (sym (row_cmp-IsAntisymmetric k x t)))

    there : (k : Row) → option_map row_of (finite.get old.live k) ≡ cond (is_among held (home k) || (p == home k)) (finite.get m k) None
    there k = row_there (held ++ p ∷ []) old.live rows k ∙ ap (λ b. cond b (finite.get m k) None) (among_more held p (home k))

    cut_there : (f : Row → Bool) (k : Row) → finite.get (rows_by_key (finite.retain_keys old.live f)) k ≡ cond (f k) (cond (is_among held (home k) || (p == home k)) (finite.get m k) None) None
    cut_there f k =
        get_by_key (finite.retain_keys old.live f) k
        ∙ ap (option_map row_of) (got f k)
        ∙ map_cond row_of (f k) (finite.get old.live k) None
        ∙ ap (λ o. cond (f k) o None) (there k)

    apart : (k : Row) → (p == home k) ≡ true → is_among held (home k) ≡ false
    apart k e = ap (is_among held) (sym (eqb_is p (home k) e)) ∙ fresh

    pub rows_kept : rows_by_key (live_elsewhere old (length held)) ≡ cut_to n held (Some d) m
    rows_kept = same_table _ _ (λ k.
        cut_there (λ k. not (place_of old.parts (part_of old.route k) == length held)) k
        ∙ ap (λ b. cond (not b) (cond (is_among held (home k) || (p == home k)) (finite.get m k) None) None) (at_last k)
        ∙ kept_without (is_among held (home k)) (p == home k) (finite.get m k) (apart k)
        ∙ sym (get_cut m (λ key. is_among held (home key)) k))

    pub rows_last : rows_by_key (live_of_place old (length held)) ≡ cut_to n (p ∷ []) (Some d) m
    rows_last = same_table _ _ (λ k.
        cut_there (λ k. place_of old.parts (part_of old.route k) == length held) k
        ∙ ap (λ b. cond b (cond (is_among held (home k) || (p == home k)) (finite.get m k) None) None) (at_last k)
        ∙ of_last (is_among held (home k)) (p == home k) (finite.get m k)
        ∙ sym (get_cut m (λ key. is_among (p ∷ []) (home key)) k))
