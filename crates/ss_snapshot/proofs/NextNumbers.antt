-- The sources of a stream that are written: those with a number, each a name.
use Rattle.std.proofs.Common.{◌≡◌, ◌∙◌, ℕ, ◌+◌, ◌<◌, ◌≤◌, nat_lt, nat_le, ◌&&◌, Bool, true, false, cond, Option, Some, None, is_some, List, [], ◌∷◌, ◌++◌, length, map, get_or, All, sym, ap, subst, arith}
use Rattle.std.specs.List.{flat_map, filter, list_all, range_with_len, slice_get}
use Rattle.std.specs.Option.{option_map}
use Rattle.std.specs.Ordering.{nat_cmp, eq_by_cmp, is_eq}
use Rattle.std.proofs.lemmas.Cmp.{tied_itself}
use Rattle.std.specs.Cmp.Lexicographic.{slice_cmp, nat_list_cmp_total}
use Rattle.std.specs.FinMap as finmap
use Rattle.std.specs.FinMap.{contains_key-keys, get-retain_keys, len-empty, len-entries, nat_cmp-IsAntisymmetric, slice_cmp-IsAntisymmetric}
use Rattle.std.proofs.lemmas.Bool.Decides.{nat_tests}
use Rattle.std.proofs.lemmas.List.{flat_map_more, get_or-map, length-map}
use Rattle.std.proofs.lemmas.List.Elements.{All-map, All-from_get_or}
use Rattle.std.proofs.lemmas.Option.{slice_get-map, slice_get-get_or}
use Rattle.ss_lemmas.proofs.Bools.{any_at, first_of_two, second_of_two}
use Rattle.ss_lemmas.proofs.Filtered.{filter_takes, filter_passes_by}
use Rattle.ss_value.specs.Words.{is_letter, is_name, is_word_byte}
use Rattle.ss_model.specs.declared.catalog.Catalog.{Catalog}
use Rattle.ss_model.specs.Database.{NextNumbers, is_border_stream}
use Rattle.ss_shard.specs.Sources.{AreNames, numbers_at, number_of, positive}
use Rattle.ss_standing.specs.FitsImage.{FitNumbers}
use Rattle.ss_standing.specs.Image.{sources_bytes}

-- ---- names

-- a name has at most 32 characters
pub name_short : (t : List ℕ) → is_name t ≡ true → length t ≤ 32
name_short [] is = omega arith
name_short (c ∷ cs) is =
    let short = second_of_two (is_letter c) (nat_lt (length cs) 32) (first_of_two (is_letter c && nat_lt (length cs) 32) (list_all is_word_byte cs) is) in
    let few : length cs < 32 = grind (arith, nat_tests) in
    omega (arith, few)

-- the key of an entry has one
key_there : (m : NextNumbers) (i : ℕ) (e : List ℕ × ℕ) → slice_get (finmap.entries m) i ≡ Some e → is_some (finmap.get m e.0) ≡ true
key_there m i e there =
    contains_key-keys m e.0
    ∙ any_at (eq_by_cmp (slice_cmp nat_cmp) e.0) (finmap.keys m) i e.0
    (slice_get-map (λ (x : List ℕ × ℕ). x.0) (finmap.entries m) i ∙ ap (option_map (λ (x : List ℕ × ℕ). x.0)) there)
    (ap is_eq (tied_itself nat_list_cmp_total e.0))

-- what is left of a map has an entry there
left_there : (b : Bool) (o : Option ℕ) → is_some (cond b o None) ≡ true → is_some o ≡ true
left_there true o some = some
left_there false o some = cc

-- each source with a number is a name
pub positive_named : (m : NextNumbers) → AreNames m → All (λ (next : List ℕ × ℕ). is_name next.0 ≡ true) (finmap.entries (positive m))
positive_named m names i d lt =
    let e = get_or (finmap.entries (positive m)) i d in
    let tells = slice_cmp-IsAntisymmetric nat_cmp-IsAntisymmetric in
    let is : finmap.get (positive m) e.0 ≡ cond (nat_le 1 (number_of m e.0)) (finmap.get m e.0) None =
    get-retain_keys m (λ source. nat_le 1 (number_of m source)) e.0 (λ x tied. ap (λ source. nat_le 1 (number_of m source)) (sym (tells e.0 x tied))) in
    names e.0 (left_there (nat_le 1 (number_of m e.0)) (finmap.get m e.0) (ap is_some (sym is) ∙ key_there (positive m) i e (slice_get-get_or (finmap.entries (positive m)) i d lt)))

-- what holds of each item that is made from another holds of what it is made from
pub all_behind : {A B : Type 0} (P : A → Type 0) (f : B → A) (ys : List B) → All P (map f ys) → All (λ y. P (f y)) ys
all_behind P f ys all k d lt = subst P (get_or-map f ys k d (f d) lt) (all k (f d) (omega (arith, lt, length-map ys f)))

-- no source
pub no_number_fits : FitNumbers finmap.empty
no_number_fits = (
  omega (arith, len-empty (slice_cmp nat_cmp) ℕ),
  λ k d lt. absurd (omega (arith, lt, len-empty (slice_cmp nat_cmp) ℕ, len-entries (finmap.empty {X = ℕ} {R = slice_cmp nat_cmp}))),
  λ k d lt. absurd (omega (arith, lt, len-empty (slice_cmp nat_cmp) ℕ, len-entries (finmap.empty {X = ℕ} {R = slice_cmp nat_cmp}))),
)

-- ---- stream by stream

module _ (catalog : Catalog) (sources : List NextNumbers) where
  abbrev pub spell_at : ℕ → List ℕ
  spell_at s = sources_bytes (get_or (map positive sources) s finmap.empty)

  abbrev pub border_before : ℕ → List ℕ
  border_before n = filter (is_border_stream catalog) (range_with_len 0 n)

  -- a border stream more
  pub border_more : (n : ℕ) (old now next : List ℕ) → n < length sources → is_border_stream catalog n ≡ true → now ≡ old ++ flat_map spell_at (border_before n)
      → next ≡ now ++ sources_bytes (positive (numbers_at sources n)) → next ≡ old ++ flat_map spell_at (border_before (n + 1))
  border_more n old now next there border so_far added =
      added
      ∙ (λ k. so_far k ++ sources_bytes (sym (get_or-map positive sources n finmap.empty finmap.empty there) k))
      ∙ flat_map_more spell_at old (border_before n) n
      ∙ ap (λ ns. old ++ flat_map spell_at ns) (filter_takes (is_border_stream catalog) n border)

  -- another stream
  pub border_same : (n : ℕ) (old now : List ℕ) → is_border_stream catalog n ≡ false → now ≡ old ++ flat_map spell_at (border_before n) → now ≡ old ++ flat_map spell_at (border_before (n + 1))
  border_same n old now other so_far = so_far ∙ ap (λ ns. old ++ flat_map spell_at ns) (filter_passes_by (is_border_stream catalog) n other)

-- all of them fit
pub all_numbers_fit : (sources : List NextNumbers) → ((s : ℕ) → s < length sources → FitNumbers (positive (numbers_at sources s))) → All FitNumbers (map positive sources)
all_numbers_fit sources fit = All-map FitNumbers positive sources (All-from_get_or (λ (m : NextNumbers). FitNumbers (positive m)) sources finmap.empty fit)
