-- A shard and streams tell what is kept of the whole database that they stand for, and stand for each of which the same is kept.
use Rattle.std.proofs.Common.{◌≡◌, ◌∙◌, ℕ, ◌+◌, ◌-◌, ◌<◌, ◌≤◌, min, nat_le, List, [], ◌∷◌, length, map, drop, Bool, true, false, cond, refl, sym, ap, arith, subst, Option, Some, None, length-drop}
use Rattle.std.specs.Prelude.{get_or, unwrap_or}
use Rattle.std.specs.List.{filter, fold, range_with_len}
use Rattle.std.specs.Ordering.{nat_cmp}
use Rattle.std.specs.Cmp.Lexicographic.{slice_cmp, nat_list_cmp_total}
use Rattle.std.specs.FinMap as finmap
use Rattle.std.specs.FinMap.{get-empty, get-retain_keys, same_map, nat_cmp-IsAntisymmetric, slice_cmp-IsAntisymmetric}
use Rattle.std.proofs.lemmas.Bool.{le-leb}
use Rattle.std.proofs.lemmas.List.{ext_get_or, get_or-map, length-map}
use Rattle.std.proofs.lemmas.List.FromFn.{get_or-map-range_with_len, length-map-range_with_len}
use Rattle.ss_value.specs.Rows.{Rows}
use Rattle.ss_model.specs.declared.catalog.Catalog.{Catalog}
use Rattle.ss_model.specs.Database.{Database, NextNumbers, batch_count, stream_batches, is_border_stream}
use Rattle.ss_model.specs.Orders.{procedure_takes}
use Rattle.ss_model.specs.Results.{map_indexed}
use Rattle.ss_model.specs.Settling.{Kept, kept, least_count, procedure_numbers}
use Rattle.ss_model.specs.WholeDatabase.{WholeDatabase}
use Rattle.ss_model_kept.proofs.CallerLemmas.{from_kept, get_or-map_index, length-map_index, same_least}
use Rattle.ss_stream.specs.declared.cursor.Cursor.{Cursor}
use Rattle.ss_stream.specs.Pending.{Pending, cursor_at, emitted_count, least_passed}
use Rattle.ss_stream.specs.OfDatabase.{consumer_cursors, consumers_of, kept_stream, kept_streams}
use Rattle.ss_shard.specs.declared.database.Database.{Database as Held}
use Rattle.ss_shard.specs.Databases.{StandsFor}
use Rattle.ss_shard.specs.Sources.{positive, number_of, numbers_at, SameNumbers}
use Rattle.ss_snapshot.specs.Held.{HeldTellsKept, HaveNoSources}

-- ---- the least cursor

least_min : (a b : ℕ) (cs : List Cursor) → least_passed (min a b) cs ≡ min b (least_passed a cs)
least_min a b [] = omega arith
least_min a b (c ∷ cs) = let rest = least_min a b cs in omega (arith, rest)

pub least_within : (a : ℕ) (cs : List Cursor) → least_passed a cs ≤ a
least_within a [] = omega arith
least_within a (c ∷ cs) = let rest = least_within a cs in omega (arith, rest)

-- the least of those that pass a test, from the left and from the right
least_so : (test : ℕ → Bool) (count : ℕ → ℕ) (a : ℕ) (qs : List ℕ)
    → fold (λ least q. cond (test q) (min least (count q)) least) a qs ≡ least_passed a (map (λ q. cursor_at (count q) q) (filter test qs))
least_so test count a [] = refl
least_so test count a (q ∷ qs) = by (test q) (λ c. least_so test count c qs)
  where
    by : (b : Bool) → ((c : ℕ) → fold (λ least q. cond (test q) (min least (count q)) least) c qs ≡ least_passed c (map (λ q. cursor_at (count q) q) (filter test qs)))
        → fold (λ least q. cond (test q) (min least (count q)) least) (cond b (min a (count q)) a) qs ≡ least_passed a (map (λ q. cursor_at (count q) q) (cond b (q ∷ filter test qs) (filter test qs)))
    by true rest = rest (min a (count q)) ∙ least_min a (count q) (map (λ q. cursor_at (count q) q) (filter test qs))
    by false rest = rest a

module _ (catalog : Catalog) (d : Database) where
  -- what a stream keeps is what is kept of it
  stream_tells : (s : ℕ) → (◌≡◌ {A = ℕ × (ℕ × List Rows)} (length (stream_batches d s), (least_count catalog d s, drop (least_count catalog d s) (stream_batches d s)))
      (emitted_count (kept_stream catalog d s), ((kept_stream catalog d s).first, (kept_stream catalog d s).batches)))
  stream_tells s =
      let bs = stream_batches d s in
      let cursors = consumer_cursors catalog d s in
      let plain : 0 + length bs ≡ length bs = omega arith in
      let least : least_count catalog d s ≡ least_passed (0 + length bs) cursors =
      least_so (λ q. procedure_takes catalog q s) (λ q. batch_count d q) (length bs) (procedure_numbers catalog) ∙ ap (λ n. least_passed n cursors) (sym plain) in
      let within = least_within (0 + length bs) cursors in
      let rest : drop (least_passed (0 + length bs) cursors - 0) bs ≡ drop (least_count catalog d s) bs = ap (λ n. drop n bs) (let same : least_passed (0 + length bs) cursors - 0 ≡ least_count catalog d s = omega (arith, least) in same) in
      let many : length bs ≡ least_passed (0 + length bs) cursors + length (drop (least_passed (0 + length bs) cursors - 0) bs) = omega (arith, within, length-drop (least_passed (0 + length bs) cursors - 0) bs) in
      λ k. (many k, (least k, sym rest k))

  abbrev f : ℕ → List Rows → ℕ × (ℕ × List Rows)
  f s bs = (length bs, (least_count catalog d s, drop (least_count catalog d s) bs))

  abbrev g : Pending → ℕ × (ℕ × List Rows)
  g p = (emitted_count p, (p.first, p.batches))

  pub streams_tell : length d.streams ≡ length catalog.streams → map_indexed f d.streams ≡ map g (kept_streams catalog d)
  streams_tell long =
      let none : Pending = record { first = 0; batches = []; cursors = [] } in
      let n = length catalog.streams in
      ext_get_or (0, (0, [])) (map_indexed f d.streams) (map g (kept_streams catalog d))
      (length-map_index f d.streams ∙ long ∙ sym (length-map (kept_streams catalog d) g ∙ length-map-range_with_len (kept_stream catalog d) 0 n))
      (λ s lt. (let there : s < n = omega (arith, lt, length-map_index f d.streams, long) in
      let at : s < length (kept_streams catalog d) = omega (arith, there, length-map-range_with_len (kept_stream catalog d) 0 n) in
      let plain : 0 + s ≡ s = omega arith in
      get_or-map_index f d.streams s [] (0, (0, [])) (omega (arith, there, long)) ∙ stream_tells s
      ∙ sym (get_or-map g (kept_streams catalog d) s none (0, (0, [])) at ∙ ap g (get_or-map-range_with_len (kept_stream catalog d) 0 n s s none there plain))))

-- ---- sources

-- of two options of which the same number is told, where the one has no 0
told_alike : (o n : Option ℕ) → unwrap_or o 0 ≡ unwrap_or n 0 → ((v : ℕ) → n ≡ Some v → 1 ≤ v) → cond (nat_le 1 (unwrap_or o 0)) o None ≡ n
told_alike None None same some = refl
told_alike None (Some v) same some = absurd (let least = some v refl in omega (arith, same, least))
told_alike (Some u) None same some = (let none : u ≡ 0 = omega (arith, same) in let test : nat_le 1 u ≡ false = ap (nat_le 1) none in ap (λ (b : Bool). cond b (Some u) None) test)
told_alike (Some u) (Some v) same some =
    let least = some v refl in
    let test : nat_le 1 u ≡ true = le-leb 1 u (omega (arith, same, least)) in
    ap (λ (b : Bool). cond b (Some u) None) test ∙ ap Some same

positive_is : (m n : NextNumbers) → ((source : List ℕ) → number_of m source ≡ number_of n source) → ((source : List ℕ) (v : ℕ) → finmap.get n source ≡ Some v → 1 ≤ v) → positive m ≡ n
positive_is m n same least =
    let tells = slice_cmp-IsAntisymmetric nat_cmp-IsAntisymmetric in
    same_map nat_list_cmp_total tells (positive m) n
    (λ q. get-retain_keys m (λ source. nat_le 1 (number_of m source)) q (λ x tied. ap (λ source. nat_le 1 (number_of m source)) (sym (tells q x tied)))
    ∙ told_alike (finmap.get m q) (finmap.get n q) (same q) (λ v is. least q v is))

sources_tell : (catalog : Catalog) (d : Database) (sources : List NextNumbers) → SameNumbers d.next_numbers sources → WholeDatabase catalog d → d.next_numbers ≡ map positive sources
sources_tell catalog d sources same whole =
    ext_get_or finmap.empty d.next_numbers (map positive sources) (sym same.streams ∙ sym (length-map sources positive))
    (λ s lt. sym (get_or-map positive sources s finmap.empty finmap.empty (omega (arith, lt, same.streams))
    ∙ positive_is (numbers_at sources s) (numbers_at d.next_numbers s) (λ source. same.numbers s source) (λ source v is. (whole.next_numbers s source v is).at_least)))

-- ---- streams without sources

module _ (catalog : Catalog) (d : Database) (whole : WholeDatabase catalog d) (s : ℕ) (other : is_border_stream catalog s ≡ false) where
  none_has_number : (source : List ℕ) (o : Option ℕ) → finmap.get (numbers_at d.next_numbers s) source ≡ o → unwrap_or o 0 ≡ 0
  none_has_number source None is = refl
  none_has_number source (Some n) is = absurd (let border = (whole.next_numbers s source n is).border in cc)

pub no_sources_elsewhere : (catalog : Catalog) (d : Database) (sources : List NextNumbers) → SameNumbers d.next_numbers sources → WholeDatabase catalog d → HaveNoSources catalog sources
no_sources_elsewhere catalog d sources same whole s other =
    positive_is (numbers_at sources s) finmap.empty
    (λ source. same.numbers s source ∙ none_has_number catalog d whole s other source (finmap.get (numbers_at d.next_numbers s) source) refl ∙ sym (ap (λ (o : Option ℕ). unwrap_or o 0) (none source)))
    (λ source v is. absurd (let no = none source in cc))
  where
    none : (source : List ℕ) → finmap.get (finmap.empty {X = ℕ} {R = slice_cmp nat_cmp}) source ≡ None
    none source = get-empty (slice_cmp nat_cmp) source

pub held_tells_kept : HeldTellsKept
unfolding kept
held_tells_kept catalog d shard streams holds are whole =
    let streams_are = streams_tell catalog d whole.in_step.matched.shape.streams ∙ ap (map (g catalog d)) (sym are) in
    let sources = sources_tell catalog d shard.sources holds.numbers whole in
    λ k. record {
      tables = sym holds.contents.tables k;
      windows = sym holds.contents.windows k;
      streams = streams_are k;
      counts = sym holds.counts k;
      next_numbers = sources k;
      bodies = sym holds.bodies k;
    }

-- ---- what stands for a database stands for each other of which the same is kept

module _ (catalog : Catalog) (x y : Database) (same : kept catalog x ≡ kept catalog y) where
  stream_alike : (s : ℕ) → kept_stream catalog x s ≡ kept_stream catalog y s
  stream_alike s =
      let alike = from_kept catalog x y same in
      let least = same_least catalog x y s alike.counts (alike.lengths s) in
      let tells = stream_tells catalog x s in
      let tells_other = stream_tells catalog y s in
      let first : (kept_stream catalog x s).first ≡ (kept_stream catalog y s).first = ap (λ (t : ℕ × (ℕ × List Rows)). t.1.0) (sym tells) ∙ least ∙ ap (λ (t : ℕ × (ℕ × List Rows)). t.1.0) tells_other in
      let batches : (kept_stream catalog x s).batches ≡ (kept_stream catalog y s).batches =
      ap (λ (t : ℕ × (ℕ × List Rows)). t.1.1) (sym tells) ∙ alike.tails s (least_count catalog x s) (omega arith) ∙ ap (λ n. drop n (stream_batches y s)) least ∙ ap (λ (t : ℕ × (ℕ × List Rows)). t.1.1) tells_other in
      let cursors : consumer_cursors catalog x s ≡ consumer_cursors catalog y s = ap (λ (counts : List ℕ). map (λ q. cursor_at (get_or counts q 0) q) (consumers_of catalog s)) alike.counts in
      λ k. record { first = first k; batches = batches k; cursors = cursors k }

  pub stands_alike : (database : Held) → StandsFor catalog database x → StandsFor catalog database y
  unfolding kept
  stands_alike database stands = record {
    shard = record {
      contents = record {
        tables = stands.shard.contents.tables ∙ ap (λ (k : Kept). k.tables) same;
        windows = stands.shard.contents.windows ∙ ap (λ (k : Kept). k.windows) same;
      };
      counts = stands.shard.counts ∙ ap (λ (k : Kept). k.counts) same;
      numbers = subst (λ (ms : List NextNumbers). SameNumbers ms database.whole.sources) (ap (λ (k : Kept). k.next_numbers) same) stands.shard.numbers;
      bodies = stands.shard.bodies ∙ ap (λ (k : Kept). k.bodies) same;
    };
    streams = stands.streams ∙ (λ k. map (λ s. stream_alike s k) (range_with_len 0 (length catalog.streams)));
  }
