-- Sources that are read one by one and put into a map.
use Rattle.std.proofs.Common.{◌≡◌, ◌∙◌, ℕ, zero, suc, ◌+◌, ◌-◌, ◌<◌, ◌≤◌, ◌^◌, ◌&&◌, nat_le, List, [], ◌∷◌, ◌++◌, map, Bool, true, false, cond, T, Option, Some, None, unwrap_or, Result, Ok, Err, refl, sym, ap, subst, arith}
use Rattle.std.specs.List.{fold}
use Rattle.std.specs.Option.{option_or}
use Rattle.std.specs.Cmp.{Equal-is, IsTotalOrder}
use Rattle.std.specs.Cmp.Lexicographic.{slice_cmp, nat_list_cmp_total}
use Rattle.std.specs.FinMap as finmap
use Rattle.std.specs.FinMap.{FinMap, slice_cmp-IsAntisymmetric, nat_cmp-IsAntisymmetric}
use Rattle.std.specs.FinMap.Entries as entries
use Rattle.std.specs.Ordering.{eq_by_cmp, is_eq, is_lt, nat_cmp}
use Rattle.std.specs.declared.cmp.Ordering.{Ordering}
use Rattle.std.specs.declared.cmp.Ordering.TheVariants.{Less, Equal, Greater}
use Rattle.std.proofs.lemmas.Bool.{le-leb}
use Rattle.std.proofs.lemmas.List.Sums.{fold-append}
use Rattle.ss_lemmas.proofs.Bools.{and_left, and_right}
use Rattle.ss_model.specs.Database.{NextNumbers}
use Rattle.ss_cmdlog.specs.Reading.{◌>>>◌, as_field}
use Rattle.ss_cmdlog.proofs.CallerLemmas.{bind_ok, ok_pair}
use Rattle.ss_shard.specs.Sources.{number_of, positive}
use Rattle.ss_record.specs.Records.{name_at}
use Rattle.ss_standing.specs.ImageForm.{number_where, source_above}
use Rattle.ss_standing.specs.Readers.{Chained, Reader, is_above, many, made, passing, with_front}
use Rattle.ss_standing.proofs.CallerLemmas.{item_refused, next_item, no_more_items}
use Rattle.ss_standing.proofs.Rising.{rising_sorted}
use Rattle.ss_snapshot.specs.declared.reading.fields.PartError.{PartError}
use Rattle.ss_snapshot.specs.declared.reading.fields.PartError.TheVariants.{NoMemory, Foreign}
use Rattle.ss_snapshot.specs.Parts.{Refuses}
use Rattle.ss_snapshot.specs.Sources.{sources_above}
use Rattle.ss_snapshot.proofs.Readings.{passing_gives}

-- ---- entries in order, put into a map one by one

not_equal : (o : Ordering) → T (is_lt o) → is_eq o ≡ false
not_equal Less e = refl
not_equal Equal e = absurd e
not_equal Greater e = absurd e

module _ {K X : Type 0} (R : K → K → Ordering) (total : IsTotalOrder R) (tells : finmap.IsAntisymmetric R) where
  abbrev pub put_in : FinMap R X → K × X → FinMap R X
  put_in m e = finmap.insert m e.0 e.1

  not_found : (q : K) (es : List (K × X)) → T (entries.below_all R q es) → entries.find R q es ≡ None
  not_found q [] below = refl
  not_found q (e ∷ es) below =
      ap (λ b. cond b (Some e.1) (entries.find R q es)) (not_equal (R q e.0) (and_left (is_lt (R q e.0)) (entries.below_all R q es) below))
      ∙ not_found q es (and_right (is_lt (R q e.0)) (entries.below_all R q es) below)

  got : (q : K) (es : List (K × X)) (m : FinMap R X) → T (entries.is_sorted R es) → finmap.get (fold put_in m es) q ≡ option_or (entries.find R q es) (finmap.get m q)
  got q [] m sorted = refl
  got q (e ∷ es) m sorted =
      got q es (put_in m e) (and_right (entries.below_all R e.0 es) (entries.is_sorted R es) sorted)
      ∙ ap (option_or (entries.find R q es)) (finmap.get-insert total m e.0 e.1 q)
      ∙ by (eq_by_cmp R q e.0) refl
    where
      by : (b : Bool) → eq_by_cmp R q e.0 ≡ b → option_or (entries.find R q es) (cond b (Some e.1) (finmap.get m q)) ≡ option_or (cond b (Some e.1) (entries.find R q es)) (finmap.get m q)
      by false tied = refl
      by true tied =
          let same : e.0 ≡ q = sym (tells q e.0 ((Equal-is (R q e.0)).0 tied)) in
          ap (λ o. option_or o (Some e.1)) (not_found q es (subst (λ k. T (entries.below_all R k es)) same (and_left (entries.below_all R e.0 es) (entries.is_sorted R es) sorted)))

  alone : (o : Option X) → option_or o None ≡ o
  alone None = refl
  alone (Some x) = refl

  pub all_put : (es : List (K × X)) → T (entries.is_sorted R es) → fold put_in finmap.empty es ≡ finmap.from_sorted es
  all_put es sorted = finmap.same_map total tells _ _ (λ q.
      got q es finmap.empty sorted
      ∙ ap (option_or (entries.find R q es)) (finmap.get-empty R q)
      ∙ alone (entries.find R q es)
      ∙ sym (finmap.get-from_sorted R es q sorted))

-- ---- the sources with a number of at least 1

tells : finmap.IsAntisymmetric (slice_cmp nat_cmp)
tells = slice_cmp-IsAntisymmetric nat_cmp-IsAntisymmetric

-- the entry that a number stands for
abbrev pub entry_of : ℕ → Option ℕ
entry_of n = cond (nat_le 1 n) (Some n) None

pub got_positive : (m : NextNumbers) (q : List ℕ) → finmap.get (positive m) q ≡ entry_of (number_of m q)
got_positive m q =
    finmap.get-retain_keys m (λ source. nat_le 1 (number_of m source)) q (λ x tied. ap (λ source. nat_le 1 (number_of m source)) (sym (tells q x tied)))
    ∙ by (finmap.get m q)
  where
    by : (o : Option ℕ) → cond (nat_le 1 (unwrap_or o 0)) o None ≡ entry_of (unwrap_or o 0)
    by None = refl
    by (Some n) = refl

-- a source that is put in with a number, where others have the same numbers as before
pub put_positive : (old added : NextNumbers) (source : List ℕ) (n : ℕ) → ((name : List ℕ) → number_of added name ≡ number_of old name) → 1 ≤ n
    → positive (finmap.insert added source n) ≡ finmap.insert (positive old) source n
put_positive old added source n same least = finmap.same_map nat_list_cmp_total tells _ _ (λ q.
    got_positive (finmap.insert added source n) q
    ∙ ap (λ (o : Option ℕ). entry_of (unwrap_or o 0)) (finmap.get-insert nat_list_cmp_total added source n q)
    ∙ by q (eq_by_cmp (slice_cmp nat_cmp) q source)
    ∙ sym (finmap.get-insert nat_list_cmp_total (positive old) source n q ∙ ap (cond (eq_by_cmp (slice_cmp nat_cmp) q source) (Some n)) (got_positive old q)))
  where
    by : (q : List ℕ) (b : Bool) → entry_of (unwrap_or (cond b (Some n) (finmap.get added q)) 0) ≡ cond b (Some n) (entry_of (number_of old q))
    by q true = ap (λ b. cond b (Some n) None) (le-leb 1 n least)
    by q false = ap entry_of (same q)

pub none_positive : positive finmap.empty ≡ finmap.empty
none_positive = finmap.same_map nat_list_cmp_total tells _ _ (λ q.
    got_positive finmap.empty q
    ∙ ap (λ (o : Option ℕ). entry_of (unwrap_or o 0)) (finmap.get-empty (slice_cmp nat_cmp) q)
    ∙ sym (finmap.get-empty (slice_cmp nat_cmp) q))

-- ---- the loop

abbrev pub Source : Type 0
Source = List ℕ × ℕ

abbrev pub next : Option (List ℕ) → Source → Option (List ℕ)
next last source = Some source.0

abbrev pub put : NextNumbers → Source → NextNumbers
put m source = finmap.insert m source.0 source.1

-- the first sources have been read and put in
pub record AreBuilt (count done : ℕ) (built : NextNumbers) (last : Option (List ℕ)) (bytes rest : List ℕ) : Type 0 where
  pub front : List Source
  pub built_so : built ≡ fold put finmap.empty front
  pub last_so : last ≡ fold next None front
  pub read : with_front front (many next source_above (count - done) last rest) ≡ sources_above count bytes

front_none : {A : Type 0} (r : Result (List A × List ℕ) ℕ) → with_front [] r ≡ r
front_none (Ok x) = refl
front_none (Err left) = refl

pub none_built : (count : ℕ) (built : NextNumbers) (bytes : List ℕ) → built ≡ finmap.empty → AreBuilt count 0 built None bytes bytes
none_built count built bytes none = record {
  front = [];
  built_so = none;
  last_so = refl;
  read = (let all : count - 0 ≡ count = omega arith in ap (λ n. with_front [] (many next source_above n None bytes)) all ∙ front_none (sources_above count bytes));
}

above_gives : (last : Option (List ℕ)) (bytes : List ℕ) (source : Source) (rest : List ℕ) → source_above last bytes ≡ Ok (source, rest) → is_above (slice_cmp nat_cmp) last source.0 ≡ true
above_gives last bytes source rest is =
    let name : Reader (List ℕ) = passing (is_above (slice_cmp nat_cmp) last) (λ bytes. as_field bytes (name_at bytes)) in
    let number : Reader ℕ = number_where 8 (λ n. nat_le 1 n && nat_le n (2 ^ 63)) in
    let first = bind_ok (name bytes) (λ a. number a.1 >>> λ b. Ok ((a.0, b.0), b.1)) (source, rest) is in
    let second = bind_ok (number first.0.1) (λ b. Ok ((first.0.0, b.0), b.1)) (source, rest) first.2 in
    let both = ok_pair (first.0.0, second.0.0) source second.0.1 rest second.2 in
    ap (λ (s : Source). is_above (slice_cmp nat_cmp) last s.0) (sym both.0)
    ∙ (passing_gives (is_above (slice_cmp nat_cmp) last) (λ bytes. as_field bytes (name_at bytes)) bytes first.0.0 first.0.1 first.1).0

many_rise : (n : ℕ) (last : Option (List ℕ)) (bytes : List ℕ) (xs : List Source) (rest : List ℕ) → many next source_above n last bytes ≡ Ok (xs, rest) → Chained next (λ s e. is_above (slice_cmp nat_cmp) s e.0 ≡ true) last xs
many_rise zero last bytes xs rest is = let both = ok_pair [] xs bytes rest is in subst (Chained next (λ s e. is_above (slice_cmp nat_cmp) s e.0 ≡ true) last) both.0 tt
many_rise (suc n) last bytes xs rest is =
    let first = bind_ok (source_above last bytes) (λ x. many next source_above n (next last x.0) x.1 >>> λ ys. Ok (x.0 ∷ ys.0, ys.1)) (xs, rest) is in
    let others = bind_ok (many next source_above n (next last first.0.0) first.0.1) (λ ys. Ok (first.0.0 ∷ ys.0, ys.1)) (xs, rest) first.2 in
    let both = ok_pair (first.0.0 ∷ others.0.0) xs others.0.1 rest others.2 in
    subst (Chained next (λ s e. is_above (slice_cmp nat_cmp) s e.0 ≡ true) last) both.0
    (above_gives last bytes first.0.0 first.0.1 first.1, many_rise n (next last first.0.0) first.0.1 others.0.0 others.0.1 others.1)

module _ (count done : ℕ) (built : NextNumbers) (last : Option (List ℕ)) (bytes rest : List ℕ) (are : AreBuilt count done built last bytes rest) where
  pub all_built : done ≡ count → made finmap.from_sorted (sources_above count) bytes ≡ Ok (built, rest)
  all_built end =
      let none : count - done ≡ 0 = omega (arith, end) in
      let is : sources_above count bytes ≡ Ok (are.front, rest) = sym are.read ∙ ap (λ n. with_front are.front (many next source_above n last rest)) none ∙ no_more_items next source_above are.front last rest in
      let sorted : T (entries.is_sorted (slice_cmp nat_cmp) are.front) = rising_sorted (slice_cmp nat_cmp) nat_list_cmp_total are.front (many_rise count None bytes are.front rest is) in
      ap (λ (r : Result (List Source × List ℕ) ℕ). r >>> λ x. Ok (finmap.from_sorted {R = slice_cmp nat_cmp} x.0, x.1)) is
      ∙ ap (λ (m : NextNumbers). Ok (m, rest)) (sym (are.built_so ∙ all_put (slice_cmp nat_cmp) nat_list_cmp_total tells are.front sorted))

  module _ (left : done < count) where
    more : count - done ≡ suc (count - (done + 1))
    more = omega (arith, left)

    read_on : with_front are.front (many next source_above (suc (count - (done + 1))) last rest) ≡ sources_above count bytes
    read_on = ap (λ n. with_front are.front (many next source_above n last rest)) (sym more) ∙ are.read

    pub one_built : (name : List ℕ) (n : ℕ) (behind : List ℕ) (now : NextNumbers) → source_above last rest ≡ Ok ((name, n), behind) → now ≡ finmap.insert built name n → AreBuilt count (done + 1) now (Some name) bytes behind
    one_built name n behind now is put_so = record {
      front = are.front ++ (name, n) ∷ [];
      built_so = put_so ∙ ap (λ (m : NextNumbers). finmap.insert m name n) are.built_so ∙ sym (fold-append put finmap.empty are.front ((name, n) ∷ []));
      last_so = sym (fold-append next None are.front ((name, n) ∷ []));
      read = sym (next_item next source_above are.front (count - (done + 1)) last rest (name, n) behind is) ∙ read_on;
    }

    pub one_refused : (e : PartError) → Refuses e (source_above last rest) → Refuses e (made (finmap.from_sorted {R = slice_cmp nat_cmp}) (sources_above count) bytes)
    one_refused NoMemory refused = tt
    one_refused (Foreign gone) refused =
        ap (λ (r : Result (List Source × List ℕ) ℕ). r >>> λ x. Ok (finmap.from_sorted {R = slice_cmp nat_cmp} x.0, x.1))
        (sym read_on ∙ item_refused next source_above are.front (count - (done + 1)) last rest gone refused)
