-- The sources that have pushed, found by one walk of a tree.
use Rattle.std.proofs.Common.{◌≡◌, ◌∙◌, ℕ, ◌<◌, ◌≤◌, nat_le, Bool, true, false, cond, ◌&&◌, T, List, [], ◌∷◌, ◌++◌, map, refl, sym, ap, subst, Some, None, unwrap_or, append_assoc, append-nil, arith}
use Rattle.std.specs.List.{All, AllByRecursion, filter}
use Rattle.std.specs.List.Sorted.{IsStrictlySortedBy}
use Rattle.std.specs.Map.{keys_of}
use Rattle.std.specs.Ordering.{is_lt}
use Rattle.std.specs.Borrow.{Bor}
use Rattle.std.specs.declared.cmp.Ordering.TheVariants.{Less}
use Rattle.std.specs.Cmp.Lexicographic.{nat_list_cmp_total}
use Rattle.std.specs.FinMap as finite
use Rattle.std.specs.FinMap.{slice_cmp-IsAntisymmetric, nat_cmp-IsAntisymmetric}
use Rattle.std.specs.FinMap.Entries as entries
use Rattle.std.proofs.lemmas.Bool.{le-leb}
use Rattle.std.proofs.lemmas.List.{map_push, nil_from_length}
use Rattle.std.proofs.lemmas.List.Elements.{All-head, All-tail}
use Rattle.std.proofs.lemmas.Map.Keys.{sorted_head, sorted_tail}
use Rattle.ss_model.specs.Database.{NextNumbers}
use Rattle.ss_shard.specs.Sources.{number_of, lent_source, positive}
use Rattle.ss_shard.proofs.Numbers.{bytes_cmp, named, numbers_of, number_at, get_number}

abbrev Entry : Type 0
Entry = List ℕ × ℕ

-- ---- a map's entries

tells : finite.IsAntisymmetric bytes_cmp
tells = slice_cmp-IsAntisymmetric nat_cmp-IsAntisymmetric

-- the entries whose keys pass a test
entries_retained : (m : NextNumbers) (p : List ℕ → Bool) → finite.entries (finite.retain_keys m p) ≡ entries.where_key bytes_cmp p (finite.entries m)
entries_retained m p =
    let kept = entries.where_key bytes_cmp p (finite.entries m) in
    let alike : (q x : List ℕ) → bytes_cmp q x ≡ _ → p x ≡ p q = λ q x tied. ap p (sym (tells q x tied)) in
    let sorted : T (entries.is_sorted bytes_cmp kept) = entries.is_sorted-where_key bytes_cmp p (finite.entries m) (finite.entries_sorted m) in
    let same : finite.retain_keys m p ≡ finite.from_sorted kept =
    finite.same_map nat_list_cmp_total tells (finite.retain_keys m p) (finite.from_sorted kept) (λ q.
    finite.get-retain_keys m p q (alike q)
    ∙ ap (λ o. cond (p q) o None) (finite.get-entries m q)
    ∙ sym (finite.get-from_sorted bytes_cmp kept q sorted ∙ entries.find-where_key bytes_cmp p q (alike q) (finite.entries m))) in
    ap finite.entries same ∙ finite.entries-from_sorted bytes_cmp kept sorted

-- entries in order are those of the map that is made of them
own_entries : (es : List Entry) → T (entries.is_sorted bytes_cmp es) → finite.entries (finite.from_entries {R = bytes_cmp} es) ≡ es
own_entries es sorted =
    let same : finite.from_entries {R = bytes_cmp} es ≡ finite.from_sorted es =
    finite.same_map nat_list_cmp_total tells (finite.from_entries es) (finite.from_sorted es) (λ q. finite.get-from_entries nat_list_cmp_total es q ∙ sym (finite.get-from_sorted bytes_cmp es q sorted)) in
    ap finite.entries same ∙ finite.entries-from_sorted bytes_cmp es sorted

-- no source has pushed where there is none
pub none_pushed : finite.entries (positive finite.empty) ≡ []
none_pushed =
    entries_retained finite.empty (λ source. nat_le 1 (number_of finite.empty source))
    ∙ ap (entries.where_key bytes_cmp (λ source. nat_le 1 (number_of finite.empty source))) (nil_from_length (finite.entries {X = ℕ} {R = bytes_cmp} finite.empty) (sym (finite.len-entries finite.empty) ∙ finite.len-empty bytes_cmp ℕ))

-- ---- a tree's entries

-- a number of at least 1 beside it
abbrev pub has_pushed : Entry → Bool
has_pushed e = nat_le 1 e.1

none_below : (n : ℕ) → n < 1 → nat_le 1 n ≡ false
none_below n h = let none : n ≡ 0 = omega arith in ap (nat_le 1) none

both : (a b : Bool) → T a → T b → T (a && b)
both true b p q = q
both false b p q = p

module _ {K : Type 0} (bytes : K → List ℕ) where
  below_bytes : (x : List ℕ) (es : List (K × ℕ)) → AllByRecursion (λ y. bytes_cmp x (bytes y) ≡ Less) (keys_of es) → T (entries.below_all bytes_cmp x (map (named bytes) es))
  below_bytes x [] h = tt
  below_bytes x (e ∷ es) h = both (is_lt (bytes_cmp x (bytes e.0))) (entries.below_all bytes_cmp x (map (named bytes) es)) (subst (λ o. T (is_lt o)) (sym h.0) tt) (below_bytes x es h.1)

  -- keys rise as their bytes do
  sorted_bytes : (es : List (K × ℕ)) → IsStrictlySortedBy (λ x y. bytes_cmp (bytes x) (bytes y)) (keys_of es) → T (entries.is_sorted bytes_cmp (map (named bytes) es))
  sorted_bytes [] h = tt
  sorted_bytes (e ∷ es) h =
      both (entries.below_all bytes_cmp (bytes e.0) (map (named bytes) es)) (entries.is_sorted bytes_cmp (map (named bytes) es))
      (below_bytes (bytes e.0) es (sorted_head (λ x y. bytes_cmp (bytes x) (bytes y)) e.0 (keys_of es) h))
      (sorted_bytes es (sorted_tail (λ x y. bytes_cmp (bytes x) (bytes y)) e.0 (keys_of es) h))

  -- a test of a source's number is one of the number beside it
  tests_alike : (all : List (K × ℕ)) (es : List (K × ℕ)) → All (λ e. number_at bytes all (bytes e.0) ≡ Some e.1) es
      → entries.where_key bytes_cmp (λ source. nat_le 1 (number_of (numbers_of bytes all) source)) (map (named bytes) es) ≡ filter has_pushed (map (named bytes) es)
  tests_alike all [] found = refl
  tests_alike all (e ∷ es) found =
      let here : nat_le 1 (number_of (numbers_of bytes all) (bytes e.0)) ≡ nat_le 1 e.1 =
      ap (λ o. nat_le 1 (unwrap_or o 0)) (get_number bytes all (bytes e.0) ∙ All-head (λ e. number_at bytes all (bytes e.0) ≡ Some e.1) e es found) in
      let rest = tests_alike all es (All-tail (λ e. number_at bytes all (bytes e.0) ≡ Some e.1) e es found) in
      λ i. cond (here i) (named bytes e ∷ rest i) (rest i)

  -- those that have pushed, of all entries of a tree
  pushed_entries : (es : List (K × ℕ)) → IsStrictlySortedBy (λ x y. bytes_cmp (bytes x) (bytes y)) (keys_of es) → All (λ e. number_at bytes es (bytes e.0) ≡ Some e.1) es
      → finite.entries (positive (numbers_of bytes es)) ≡ filter has_pushed (map (named bytes) es)
  pushed_entries es sorted found =
      entries_retained (numbers_of bytes es) (λ source. nat_le 1 (number_of (numbers_of bytes es) source))
      ∙ ap (entries.where_key bytes_cmp (λ source. nat_le 1 (number_of (numbers_of bytes es) source))) (own_entries (map (named bytes) es) (sorted_bytes es sorted))
      ∙ tests_alike es es found

  -- ---- the walk

  -- what is listed, and what of the entries left has pushed, are all that have
  abbrev pub Lists : NextNumbers → List (K × ℕ) → List (Bor (List ℕ) × ℕ) → Type 0
  Lists all left list = map lent_source list ++ filter has_pushed (map (named bytes) left) ≡ finite.entries (positive all)

  pub lists_none : (all : NextNumbers) (es left : List (K × ℕ)) (list : List (Bor (List ℕ) × ℕ)) → numbers_of bytes es ≡ all → left ≡ es → list ≡ []
      → IsStrictlySortedBy (λ x y. bytes_cmp (bytes x) (bytes y)) (keys_of es) → All (λ e. number_at bytes es (bytes e.0) ≡ Some e.1) es → Lists all left list
  lists_none all es left list is begun none sorted found =
      (λ i. map lent_source (none i) ++ filter has_pushed (map (named bytes) (begun i)))
      ∙ sym (pushed_entries es sorted found)
      ∙ ap (λ (ns : NextNumbers). finite.entries (positive ns)) is

  module _ (all : NextNumbers) (left : List (K × ℕ)) (list : List (Bor (List ℕ) × ℕ)) (lists : Lists all left list) where
    -- one that has pushed is listed
    pub lists_more : (e : K × ℕ) (rest : List (K × ℕ)) (name : Bor (List ℕ)) → left ≡ e ∷ rest → name.now ≡ bytes e.0 → 1 ≤ e.1 → Lists all rest (list ++ (name, e.1) ∷ [])
    lists_more e rest name is spelled pushed =
        ap (λ front. front ++ filter has_pushed (map (named bytes) rest)) (map_push lent_source list (name, e.1))
        ∙ append_assoc (map lent_source list) ((name.now, e.1) ∷ []) (filter has_pushed (map (named bytes) rest))
        ∙ ap (λ (bs : List ℕ). map lent_source list ++ (bs, e.1) ∷ filter has_pushed (map (named bytes) rest)) spelled
        ∙ sym (ap (λ b. map lent_source list ++ cond b (named bytes e ∷ filter has_pushed (map (named bytes) rest)) (filter has_pushed (map (named bytes) rest))) (le-leb 1 e.1 pushed))
        ∙ sym (ap (λ (es : List (K × ℕ)). map lent_source list ++ filter has_pushed (map (named bytes) es)) is)
        ∙ lists

    -- another is not
    pub lists_still : (e : K × ℕ) (rest : List (K × ℕ)) → left ≡ e ∷ rest → e.1 < 1 → Lists all rest list
    lists_still e rest is not_pushed =
        sym (ap (λ b. map lent_source list ++ cond b (named bytes e ∷ filter has_pushed (map (named bytes) rest)) (filter has_pushed (map (named bytes) rest))) (none_below e.1 not_pushed))
        ∙ sym (ap (λ (es : List (K × ℕ)). map lent_source list ++ filter has_pushed (map (named bytes) es)) is)
        ∙ lists

    -- at the end all are listed
    pub lists_all : left ≡ [] → map lent_source list ≡ finite.entries (positive all)
    lists_all none =
        sym (append-nil (map lent_source list))
        ∙ sym (ap (λ (es : List (K × ℕ)). map lent_source list ++ filter has_pushed (map (named bytes) es)) none)
        ∙ lists
