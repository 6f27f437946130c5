-- What is kept, part by part: what is read is spelled so, and what is spelled is read.
use Rattle.std.proofs.Common.{◌≡◌, ◌∙◌, ℕ, zero, suc, ◌+◌, ◌<◌, List, [], ◌∷◌, ◌++◌, length, get_or, Bool, true, false, cond, refl, sym, ap, subst, arith, append_assoc, All}
use Rattle.std.specs.List.{flat_map, filter, range_with_len}
use Rattle.std.specs.FinMap as finmap
use Rattle.std.proofs.lemmas.List.Elements.{All-nil}
use Rattle.std.proofs.lemmas.List.FromFn.{length-range_with_len}
use Rattle.std.specs.Ordering.{nat_cmp}
use Rattle.std.specs.Cmp.Lexicographic.{slice_cmp}
use Rattle.ss_value.specs.Rows.{Rows}
use Rattle.ss_model.specs.declared.catalog.Catalog.{Catalog}
use Rattle.ss_model.specs.Contents.{Table, Window}
use Rattle.ss_model.specs.Database.{NextNumbers, is_border_stream, own_bodies}
use Rattle.ss_model.specs.Settling.{Kept}
use Rattle.ss_record.specs.Numbers.{number_bytes}
use Rattle.ss_standing.specs.Image.{text_bytes, table_bytes, window_bytes, stream_bytes, sources_bytes, all_sources, bodies_bytes, kept_bytes}
use Rattle.ss_standing.specs.Readers.{Reader, IsExact, AreFor, spelled_for, each, followed, made, nothing}
use Rattle.ss_standing.specs.ImageForm.{table_of, window_of, stream_at, counts_of, sources_of, sources_at, body_of, bodies_of, kept_in}
use Rattle.ss_standing.proofs.EmptyKept.{no_entries}
use Rattle.ss_standing.proofs.ImageTells.{no_numbers_fit}
use Rattle.ss_standing.proofs.Exact.{nothing_exact, followed_exact, made_exact, exact_so, each_exact, spelled_alike}
use Rattle.ss_standing.proofs.Chains.{as_many}
use Rattle.ss_standing.proofs.ImageParts.{IsTableOf, table_exact, IsWindowOf, window_exact, IsStreamAt, stream_at_exact, AreCountsOf, counts_exact, IsNext, AreSources, sources_exact, IsBodyOf, body_exact}

-- ---- sources by stream

-- a border stream has some, and another none
pub record IsSourcesAt (catalog : Catalog) (s : ℕ) (m : NextNumbers) : Type 0 where
  pub sources : AreSources m
  pub none : is_border_stream catalog s ≡ false → m ≡ finmap.empty

pub no_sources_are : AreSources finmap.empty
no_sources_are = record { fits = no_numbers_fit; numbers = subst (All IsNext) (sym (no_entries (slice_cmp nat_cmp))) (All-nil IsNext) }

sources_by : (b : Bool) → IsExact (cond b sources_of (nothing finmap.empty)) (λ m. cond b (sources_bytes m) []) (λ m. AreSources m × (b ≡ false → m ≡ finmap.empty))
sources_by true =
    exact_so sources_of sources_bytes sources_bytes AreSources (λ m. AreSources m × (true ≡ false → m ≡ finmap.empty)) sources_exact (λ m are. (refl, (are, λ no. cc))) (λ m has. has.0)
sources_by false =
    exact_so (nothing finmap.empty) (λ m. []) (λ m. []) (λ m. m ≡ finmap.empty) (λ m. AreSources m × (false ≡ false → m ≡ finmap.empty)) (nothing_exact finmap.empty)
    (λ m is. (refl, (subst AreSources (sym is) no_sources_are, λ no. is))) (λ m has. has.1 refl)

module _ (catalog : Catalog) where
  abbrev spell_sources : ℕ → NextNumbers → List ℕ
  spell_sources s m = cond (is_border_stream catalog s) (sources_bytes m) []

  sources_at_exact : (s : ℕ) → IsExact (sources_at catalog s) (spell_sources s) (IsSourcesAt catalog s)
  sources_at_exact s =
      exact_so (sources_at catalog s) (spell_sources s) (spell_sources s) (λ m. AreSources m × (is_border_stream catalog s ≡ false → m ≡ finmap.empty)) (IsSourcesAt catalog s) (sources_by (is_border_stream catalog s))
      (λ m has. (refl, record { sources = has.0; none = has.1 })) (λ m is. (is.sources, is.none))

  -- the border streams alone are spelled
  border_alone : (at : ℕ → NextNumbers) (n from : ℕ) (ms : List NextNumbers) → length ms ≡ n → ((i : ℕ) → i < n → get_or ms i finmap.empty ≡ at (from + i))
      → spelled_for spell_sources (range_with_len from n) ms ≡ flat_map (λ s. sources_bytes (at s)) (filter (is_border_stream catalog) (range_with_len from n))
  border_alone at zero from ms long each = refl
  border_alone at (suc n) from [] long each = absurd (omega (arith, long))
  border_alone at (suc n) from (m ∷ ms) long each =
      let here : m ≡ at from = each 0 (omega arith) ∙ ap at (let same : from + 0 ≡ from = omega arith in same) in
      let rest = border_alone at n (from + 1) ms (omega (arith, long)) (λ i lt. each (suc i) (omega (arith, lt)) ∙ ap at (let same : from + suc i ≡ (from + 1) + i = omega arith in same)) in
      by (is_border_stream catalog from) here rest
    where
      by : (b : Bool) → m ≡ at from → spelled_for spell_sources (range_with_len (from + 1) n) ms ≡ flat_map (λ s. sources_bytes (at s)) (filter (is_border_stream catalog) (range_with_len (from + 1) n))
          → cond b (sources_bytes m) [] ++ spelled_for spell_sources (range_with_len (from + 1) n) ms
          ≡ flat_map (λ s. sources_bytes (at s)) (cond b (from ∷ filter (is_border_stream catalog) (range_with_len (from + 1) n)) (filter (is_border_stream catalog) (range_with_len (from + 1) n)))
      by true here rest = λ k. sources_bytes (here k) ++ rest k
      by false here rest = rest

  sources_are_spelled : (ms : List NextNumbers) → length ms ≡ length catalog.streams → spelled_for spell_sources (range_with_len 0 (length catalog.streams)) ms ≡ all_sources catalog ms
  sources_are_spelled ms long = border_alone (λ s. get_or ms s finmap.empty) (length catalog.streams) 0 ms long (λ i lt. (let same : i ≡ 0 + i = omega arith in ap (λ j. get_or ms j finmap.empty) same))

  all_sources_exact : IsExact (each (sources_at catalog) (range_with_len 0 (length catalog.streams))) (all_sources catalog) (AreFor (IsSourcesAt catalog) (range_with_len 0 (length catalog.streams)))
  all_sources_exact =
      exact_so (each (sources_at catalog) (range_with_len 0 (length catalog.streams))) (spelled_for spell_sources (range_with_len 0 (length catalog.streams))) (all_sources catalog)
      (AreFor (IsSourcesAt catalog) (range_with_len 0 (length catalog.streams))) (AreFor (IsSourcesAt catalog) (range_with_len 0 (length catalog.streams)))
      (each_exact (sources_at catalog) spell_sources (IsSourcesAt catalog) sources_at_exact (range_with_len 0 (length catalog.streams)))
      (λ ms are. (sources_are_spelled ms (as_many (IsSourcesAt catalog) (range_with_len 0 (length catalog.streams)) ms are ∙ length-range_with_len 0 (length catalog.streams)), are))
      (λ ms are. are)

-- items whose spelling doesn't depend on what they are for
alike_exact : {D A : Type 0} (read : D → Reader A) (spell : A → List ℕ) (P : D → A → Type 0) → ((d : D) → IsExact (read d) spell (P d)) → (ds : List D) → IsExact (each read ds) (flat_map spell) (AreFor P ds)
alike_exact read spell P exact ds =
    exact_so (each read ds) (spelled_for (λ d x. spell x) ds) (flat_map spell) (AreFor P ds) (AreFor P ds) (each_exact read (λ d x. spell x) P exact ds)
    (λ xs are. (spelled_alike spell P ds xs are, are)) (λ xs are. are)

-- ---- bodies

-- the texts of the bodies that the procedures have
abbrev pub AreBodies : Bool → Catalog → List (List ℕ) → Type 0
AreBodies true catalog texts = AreFor (IsBodyOf catalog) (range_with_len 0 (length catalog.procedures)) texts
AreBodies false catalog texts = texts ≡ own_bodies catalog

bodies_exact : (bodies : Bool) (catalog : Catalog) → IsExact (bodies_of bodies catalog) (bodies_bytes bodies) (AreBodies bodies catalog)
bodies_exact true catalog = alike_exact (body_of catalog) text_bytes (IsBodyOf catalog) (body_exact catalog) (range_with_len 0 (length catalog.procedures))
bodies_exact false catalog = nothing_exact (own_bodies catalog)

-- ---- all parts

pub record HasForm (bodies : Bool) (catalog : Catalog) (most : ℕ) (k : Kept) : Type 0 where
  pub tables : AreFor IsTableOf catalog.tables k.tables
  pub windows : AreFor IsWindowOf catalog.windows k.windows
  pub streams : AreFor (IsStreamAt catalog most) (range_with_len 0 (length catalog.streams)) k.streams
  pub counts : AreCountsOf catalog k.streams k.counts
  pub sources : AreFor (IsSourcesAt catalog) (range_with_len 0 (length catalog.streams)) k.next_numbers
  pub texts : AreBodies bodies catalog k.bodies

module _ (bodies : Bool) (catalog : Catalog) (most : ℕ) where
  abbrev Streams : Type 0
  Streams = List (ℕ × (ℕ × List Rows))

  abbrev Tail : Type 0
  Tail = List ℕ × (List NextNumbers × List (List ℕ))

  abbrev streams : List ℕ
  streams = range_with_len 0 (length catalog.streams)

  abbrev read_sources : Reader (List NextNumbers)
  read_sources = each (sources_at catalog) streams

  abbrev read_last : Reader (List NextNumbers × List (List ℕ))
  read_last = followed read_sources (λ numbers. bodies_of bodies catalog)

  abbrev spell_tail : Tail → List ℕ
  spell_tail p = flat_map (number_bytes 8) p.0 ++ (all_sources catalog p.1.0 ++ bodies_bytes bodies p.1.1)

  abbrev IsTail : Streams → Tail → Type 0
  IsTail ss p = AreCountsOf catalog ss p.0 × (AreFor (IsSourcesAt catalog) streams p.1.0 × AreBodies bodies catalog p.1.1)

  last_exact : IsExact read_last (λ (p : List NextNumbers × List (List ℕ)). all_sources catalog p.0 ++ bodies_bytes bodies p.1)
      (λ (p : List NextNumbers × List (List ℕ)). AreFor (IsSourcesAt catalog) streams p.0 × AreBodies bodies catalog p.1)
  last_exact =
      followed_exact read_sources (λ numbers. bodies_of bodies catalog) (all_sources catalog) (λ numbers. bodies_bytes bodies) (AreFor (IsSourcesAt catalog) streams) (λ numbers. AreBodies bodies catalog)
      (all_sources_exact catalog) (λ numbers has. bodies_exact bodies catalog)

  abbrev counts_exact_then : (ss : Streams) → IsExact (followed (counts_of catalog ss) (λ counts. read_last)) spell_tail (IsTail ss)
  counts_exact_then ss =
      followed_exact (counts_of catalog ss) (λ counts. read_last) (flat_map (number_bytes 8)) (λ counts (p : List NextNumbers × List (List ℕ)). all_sources catalog p.0 ++ bodies_bytes bodies p.1)
      (AreCountsOf catalog ss) (λ counts (p : List NextNumbers × List (List ℕ)). AreFor (IsSourcesAt catalog) streams p.0 × AreBodies bodies catalog p.1)
      (counts_exact catalog ss) (λ counts has. last_exact)

  streams_exact_then : IsExact (followed (each (stream_at catalog most) streams) (λ ss. followed (counts_of catalog ss) (λ counts. read_last)))
      (λ (p : Streams × Tail). flat_map stream_bytes p.0 ++ spell_tail p.1)
      (λ (p : Streams × Tail). AreFor (IsStreamAt catalog most) streams p.0 × IsTail p.0 p.1)
  streams_exact_then =
      followed_exact (each (stream_at catalog most) streams) (λ ss. followed (counts_of catalog ss) (λ counts. read_last)) (flat_map stream_bytes) (λ ss. spell_tail)
      (AreFor (IsStreamAt catalog most) streams) IsTail
      (alike_exact (stream_at catalog most) stream_bytes (IsStreamAt catalog most) (stream_at_exact catalog most) streams) (λ ss has. counts_exact_then ss)

  abbrev Rest : Type 0
  Rest = Streams × Tail

  abbrev read_rest : Reader Rest
  read_rest = followed (each (stream_at catalog most) streams) (λ ss. followed (counts_of catalog ss) (λ counts. read_last))

  abbrev spell_rest : Rest → List ℕ
  spell_rest p = flat_map stream_bytes p.0 ++ spell_tail p.1

  abbrev IsRest : Rest → Type 0
  IsRest p = AreFor (IsStreamAt catalog most) streams p.0 × IsTail p.0 p.1

  windows_exact_then : IsExact (followed (each window_of catalog.windows) (λ ws. read_rest)) (λ (p : List (ℕ × Window) × Rest). flat_map window_bytes p.0 ++ spell_rest p.1)
      (λ (p : List (ℕ × Window) × Rest). AreFor IsWindowOf catalog.windows p.0 × IsRest p.1)
  windows_exact_then =
      followed_exact (each window_of catalog.windows) (λ ws. read_rest) (flat_map window_bytes) (λ ws. spell_rest) (AreFor IsWindowOf catalog.windows) (λ ws. IsRest)
      (alike_exact window_of window_bytes IsWindowOf window_exact catalog.windows) (λ ws has. streams_exact_then)

  tables_exact_then : IsExact (followed (each table_of catalog.tables) (λ ts. followed (each window_of catalog.windows) (λ ws. read_rest)))
      (λ (p : List Table × (List (ℕ × Window) × Rest)). flat_map table_bytes p.0 ++ (flat_map window_bytes p.1.0 ++ spell_rest p.1.1))
      (λ (p : List Table × (List (ℕ × Window) × Rest)). AreFor IsTableOf catalog.tables p.0 × (AreFor IsWindowOf catalog.windows p.1.0 × IsRest p.1.1))
  tables_exact_then =
      followed_exact (each table_of catalog.tables) (λ ts. followed (each window_of catalog.windows) (λ ws. read_rest)) (flat_map table_bytes) (λ ts (p : List (ℕ × Window) × Rest). flat_map window_bytes p.0 ++ spell_rest p.1)
      (AreFor IsTableOf catalog.tables) (λ ts (p : List (ℕ × Window) × Rest). AreFor IsWindowOf catalog.windows p.0 × IsRest p.1)
      (alike_exact table_of table_bytes IsTableOf table_exact catalog.tables) (λ ts has. windows_exact_then)

  abbrev all_kept : List Table × (List (ℕ × Window) × Rest) → Kept
  all_kept k = record { tables = k.0; windows = k.1.0; streams = k.1.1.0; counts = k.1.1.1.0; next_numbers = k.1.1.1.1.0; bodies = k.1.1.1.1.1 }

  abbrev parts_kept : Kept → List Table × (List (ℕ × Window) × Rest)
  parts_kept k = (k.tables, (k.windows, (k.streams, (k.counts, (k.next_numbers, k.bodies)))))

  abbrev spell_all : List Table × (List (ℕ × Window) × Rest) → List ℕ
  spell_all p = flat_map table_bytes p.0 ++ (flat_map window_bytes p.1.0 ++ spell_rest p.1.1)

  regroup : (k : Kept) → spell_all (parts_kept k) ≡ kept_bytes bodies catalog k
  regroup k =
      sym (grouped (flat_map table_bytes k.tables) (flat_map window_bytes k.windows) (flat_map stream_bytes k.streams) (flat_map (number_bytes 8) k.counts) (all_sources catalog k.next_numbers) (bodies_bytes bodies k.bodies))
    where
      grouped : (a b c d e f : List ℕ) → a ++ b ++ c ++ d ++ e ++ f ≡ a ++ (b ++ (c ++ (d ++ (e ++ f))))
      grouped a b c d e f = simp append_assoc

  abbrev reader : Reader Kept
  reader = made all_kept (followed (each table_of catalog.tables) (λ ts. followed (each window_of catalog.windows) (λ ws. read_rest)))

  pub form_exact : IsExact (kept_in bodies catalog most) (kept_bytes bodies catalog) (HasForm bodies catalog most)
  unfolding kept_in
  form_exact =
      exact_so reader (λ k. spell_all (parts_kept k)) (kept_bytes bodies catalog) (HasForm bodies catalog most) (HasForm bodies catalog most)
      (made_exact all_kept parts_kept (followed (each table_of catalog.tables) (λ ts. followed (each window_of catalog.windows) (λ ws. read_rest))) spell_all
      (λ (p : List Table × (List (ℕ × Window) × Rest)). AreFor IsTableOf catalog.tables p.0 × (AreFor IsWindowOf catalog.windows p.1.0 × IsRest p.1.1)) (HasForm bodies catalog most) tables_exact_then
      (λ p has. (refl, record { tables = has.0; windows = has.1.0; streams = has.1.1.0; counts = has.1.1.1.0; sources = has.1.1.1.1.0; texts = has.1.1.1.1.1 }))
      (λ k has. (refl, (has.tables, (has.windows, (has.streams, (has.counts, (has.sources, has.texts))))))))
      (λ k has. (regroup k, has)) (λ k has. has)
