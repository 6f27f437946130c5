-- A database of a catalogue that gets more bodies to be installed.
use Rattle.std.proofs.Common.{◌≡◌, ◌∙◌, ◌++◌, ◌||◌, ◌<◌, ◌≤◌, ℕ, zero, suc, Bool, true, false, List, [], ◌∷◌, length, get_or, slice_get, Option, Some, None, refl, sym, ap, subst, arith, inl, inr, ◌⊎◌, ◌^◌, All, map}
use Rattle.std.proofs.lemmas.Bool.{cases_lt}
use Rattle.std.proofs.lemmas.List.{get_or_past}
use Rattle.std.proofs.lemmas.Slice.Eq.{bytes_eq-Decides}
use Rattle.ss_lemmas.proofs.LoopItem.{some_at}
use Rattle.std.specs.Prelude.{cond, option_map, unwrap_or}
use Rattle.std.specs.List.{find, list_any}
use Rattle.std.specs.Str.{bytes_eq}
use Rattle.ss_model.specs.declared.catalog.Body.{Body}
use Rattle.ss_model.specs.declared.catalog.Catalog.{Catalog}
use Rattle.ss_model.specs.declared.catalog.Procedure.{Procedure}
use Rattle.ss_model.specs.declared.catalog.Step.{Step}
use Rattle.ss_model.specs.Database.{Database as Model, body_named, body_text, has_body, own_text, spare_bodies, steps_named}
use Rattle.ss_model.specs.Results.{map_indexed}
use Rattle.ss_model.specs.SparesAside.{with_spares}
use Rattle.ss_model.specs.WholeDatabase.{WholeDatabase}
use Rattle.ss_shard.specs.Bodies.{HasBodies, IsBodyNumber, IsComing, steps_numbered, text_numbered, texts_of}
use Rattle.ss_shard.specs.Databases.{IsWhole, StandsFor}
use Rattle.ss_shard.specs.Parts.{IsWholeShard, all_partitions, dealing_for}
use Rattle.ss_shard.proofs.CallerLemmas.{text_held}
use Rattle.ss_stream.specs.OfDatabase.{AreStreamsOf}
use Rattle.ss_stream.specs.Pending.{Pending}
use Rattle.ss_shard.specs.ShardValue.{ShardValue}
use Rattle.ss_shard.specs.Windows.{Holds, HoldsDatabase}
use Rattle.ss_shard.specs.Shards.{IsCommitted}
use Rattle.ss_shard.specs.declared.database.Database.{Database}
use Rattle.ss_model.specs.Settling.{Kept, kept}
use Rattle.ss_standing.specs.FitsImage.{FitBodies, FitNumbers, FitsStream, FitsTable, FitsWindow}
use Rattle.ss_standing.specs.Image.{image_bytes}
use Rattle.ss_standing.specs.Standing.{IsImageAt}
use Rattle.ss_snapshot.proofs.CallerLemmas.{kept_with}
use Rattle.ss_snapshot.specs.Bodies.{GrowsTo}
use Rattle.ss_snapshot.specs.Images.{IsImageOf, IsReadAs}
use Rattle.ss_snapshot.specs.Own.{IsReadFromItsText}
use Rattle.ss_recover.specs.Loading.{HasMore}
use Rattle.ss_recover.proofs.NoEmpty.{alone_with_own, no_empty}

-- ---- the number of a body that is there

-- a procedure's own body, or one of its list; or the procedure gets no other ones
abbrev pub IsThere : Catalog → Catalog → ℕ → ℕ → Type 0
IsThere old new q k = (k ≡ 0) ⊎ ((i : ℕ) × (b : Body) × (k ≡ suc i) × (slice_get (spare_bodies old q) i ≡ Some b)) ⊎ (spare_bodies new q ≡ spare_bodies old q)

-- the text of another number is empty
number_there : (c new : Catalog) (q k : ℕ) → has_body c q [] ≡ false → has_body c q (text_numbered c q k) ≡ true → IsThere c new q k
number_there c new q zero none has = inl refl
number_there c new q (suc i) none has = by (slice_get (spare_bodies c q) i) refl has
  where
    by : (o : Option Body) → slice_get (spare_bodies c q) i ≡ o → has_body c q (unwrap_or (option_map (λ (b : Body). b.text) o) []) ≡ true → IsThere c new q (suc i)
    by None is h = absurd (cc)
    by (Some b) is h = inr (inl (i, b, refl, is))

or_front : (a b : Bool) → a ≡ true → (a || b) ≡ true
or_front true b h = refl
or_front false b h = absurd (cc)

get_front : (xs ys : List Body) (i : ℕ) (b : Body) → slice_get xs i ≡ Some b → slice_get (xs ++ ys) i ≡ Some b
get_front [] ys i b is = absurd (cc)
get_front (x ∷ xs) ys zero b is = is
get_front (x ∷ xs) ys (suc i) b is = get_front xs ys i b is

found_front : (p : Body → Bool) (xs ys : List Body) → list_any p xs ≡ true → find p (xs ++ ys) ≡ find p xs
found_front p [] ys h = absurd (cc)
found_front p (x ∷ xs) ys h = by (p x) h (found_front p xs ys)
  where
    by : (t : Bool) → (t || list_any p xs) ≡ true → (list_any p xs ≡ true → find p (xs ++ ys) ≡ find p xs) → cond t (Some x) (find p (xs ++ ys)) ≡ cond t (Some x) (find p xs)
    by true k more = refl
    by false k more = more k

-- the steps that are named, where the own text is meant or not, and this was found
abbrev steps_from : Procedure → Bool → Option Body → List Step
steps_from p own found = cond own p.body (unwrap_or (option_map (λ (b : Body). b.steps) found) p.body)

module _ (old new : Catalog) (more : HasMore old new) (q : ℕ) where
  own_stays : own_text new q ≡ own_text old q
  own_stays = ap (λ (c : Catalog). own_text c q) more.grows.same

  still_at : (i : ℕ) (b : Body) → slice_get (spare_bodies old q) i ≡ Some b → slice_get (spare_bodies new q) i ≡ Some b
  still_at i b is = ap (λ (l : List Body). slice_get l i) (more.behind q).1 ∙ get_front (spare_bodies old q) (more.behind q).0 i b is

  -- a number that is there has the same text and the same steps
  text_stays : (k : ℕ) → IsThere old new q k → text_numbered new q k ≡ text_numbered old q k
  text_stays k (inl is) = ap (text_numbered new q) is ∙ own_stays ∙ sym (ap (text_numbered old q) is)
  text_stays zero (inr (inr same)) = own_stays
  text_stays (suc i) (inr (inr same)) = ap (λ (l : List Body). unwrap_or (option_map (λ (b : Body). b.text) (slice_get l i)) []) same
  text_stays k (inr (inl (i, b, is, at))) =
      ap (text_numbered new q) is ∙ ap (λ (o : Option Body). unwrap_or (option_map (λ (b : Body). b.text) o) []) (still_at i b at ∙ sym at) ∙ sym (ap (text_numbered old q) is)

  steps_stay : (k : ℕ) (p : Procedure) → IsThere old new q k → steps_numbered new q k p ≡ steps_numbered old q k p
  steps_stay k p (inl is) = ap (λ (n : ℕ). steps_numbered new q n p) is ∙ sym (ap (λ (n : ℕ). steps_numbered old q n p) is)
  steps_stay zero p (inr (inr same)) = refl
  steps_stay (suc i) p (inr (inr same)) = ap (λ (l : List Body). unwrap_or (option_map (λ (b : Body). b.steps) (slice_get l i)) p.body) same
  steps_stay k p (inr (inl (i, b, is, at))) =
      ap (λ (n : ℕ). steps_numbered new q n p) is ∙ ap (λ (o : Option Body). unwrap_or (option_map (λ (b : Body). b.steps) o) p.body) (still_at i b at ∙ sym at)
      ∙ sym (ap (λ (n : ℕ). steps_numbered old q n p) is)

  named_stays : (text : List ℕ) (p : Procedure) → has_body old q text ≡ true → steps_named new q text p ≡ steps_named old q text p
  named_stays text p has = by (bytes_eq (own_text old q) text) refl has
    where
      by : (t : Bool) → bytes_eq (own_text old q) text ≡ t → (t || list_any (λ (b : Body). bytes_eq b.text text) (spare_bodies old q)) ≡ true → steps_named new q text p ≡ steps_named old q text p
      by true is h = ap (λ (own : Bool). steps_from p own (body_named text (spare_bodies new q))) (ap (λ (t : List ℕ). bytes_eq t text) own_stays ∙ is)
          ∙ sym (ap (λ (own : Bool). steps_from p own (body_named text (spare_bodies old q))) is)
      by false is h = ap (λ (own : Bool). steps_from p own (body_named text (spare_bodies new q))) (ap (λ (t : List ℕ). bytes_eq t text) own_stays)
          ∙ ap (steps_from p (bytes_eq (own_text old q) text)) (ap (body_named text) (more.behind q).1 ∙ found_front (λ (b : Body). bytes_eq b.text text) (spare_bodies old q) (more.behind q).0 h)

  pub number_stays : (k : ℕ) → IsThere old new q k → has_body old q (text_numbered old q k) ≡ true → IsBodyNumber old q k → IsBodyNumber new q k
  number_stays k there has is = λ p.
      steps_stay k p there ∙ is p ∙ sym (named_stays (text_numbered old q k) p has) ∙ ap (λ (t : List ℕ). steps_named new q t p) (sym (text_stays k there))

-- ---- what a shard has

same_indexed : (f g : ℕ → ℕ → List ℕ) (xs : List ℕ) → ((i : ℕ) → i < length xs → f i (get_or xs i 0) ≡ g i (get_or xs i 0)) → map_indexed f xs ≡ map_indexed g xs
same_indexed f g [] h = refl
same_indexed f g (x ∷ xs) h =
    λ j. h 0 (omega arith) j ∷ same_indexed (λ i. f (suc i)) (λ i. g (suc i)) xs (λ i less. h (suc i) (omega (arith, less))) j

long_indexed : (f : ℕ → ℕ → List ℕ) (xs : List ℕ) → length (map_indexed f xs) ≡ length xs
long_indexed f [] = refl
long_indexed f (x ∷ xs) = ap suc (long_indexed (λ i. f (suc i)) xs)

module _ (old new : Catalog) (own : IsReadFromItsText old) (more : HasMore old new) (shard : ShardValue) (db : Model) (holds : HoldsDatabase old shard db) (whole : WholeDatabase old db) where
  abbrev number_of : ℕ → ℕ
  number_of q = get_or shard.bodies q 0

  -- each number is that of a body that is there
  at : (q : ℕ) → IsThere old new q (number_of q) × (has_body old q (text_numbered old q (number_of q)) ≡ true)
  at q = by (cases_lt q (length shard.bodies))
    where
      itself : bytes_eq (own_text old q) (own_text old q) ≡ true
      itself = (bytes_eq-Decides (own_text old q) (own_text old q)).1 refl

      own_there : IsThere old new q 0 × (has_body old q (text_numbered old q 0) ≡ true)
      own_there = (inl refl, or_front (bytes_eq (own_text old q) (own_text old q)) (list_any (λ (b : Body). bytes_eq b.text (own_text old q)) (spare_bodies old q)) itself)

      -- a procedure whose own text is empty has no other bodies, now as before
      by_text : (p : Procedure) → slice_get old.procedures q ≡ Some p → has_body old q (text_numbered old q (number_of q)) ≡ true
          → (has_body old q [] ≡ false) ⊎ (own_text old q ≡ []) → IsThere old new q (number_of q)
      by_text p is has (inl none) = number_there old new q (number_of q) none has
      by_text p is has (inr none) =
          let still = ap (λ (c : Catalog). slice_get c.procedures q) more.grows.same ∙ is in
          inr (inr (alone_with_own new q p still more.grows.own (own_stays old new more q ∙ none) ∙ sym (alone_with_own old q p is own none)))

      by : (q < length shard.bodies) ⊎ (length shard.bodies ≤ q) → IsThere old new q (number_of q) × (has_body old q (text_numbered old q (number_of q)) ≡ true)
      by (inl less) =
          let long = long_indexed (text_numbered old) shard.bodies in
          let count = ap (λ (ts : List (List ℕ)). length ts) holds.bodies in
          let all = whole.body_count in
          let p = some_at old.procedures q (omega (arith, less, long, count, all)) in
          let text = text_held old shard db holds.bodies q less in
          let has : has_body old q (text_numbered old q (number_of q)) ≡ true = subst (λ (t : List ℕ). has_body old q t ≡ true) text (whole.bodies q p.0 p.1) in
          (by_text p.0 p.1 has (no_empty old q p.0 p.1 own), has)
      by (inr past) = subst (λ (k : ℕ). IsThere old new q k × (has_body old q (text_numbered old q k) ≡ true)) (sym (get_or_past shard.bodies q 0 past)) own_there

  texts_stay : texts_of new shard.bodies ≡ db.bodies
  texts_stay = same_indexed (text_numbered new) (text_numbered old) shard.bodies (λ q less. text_stays old new more q (number_of q) (at q).0) ∙ holds.bodies

  pub holds_more : HoldsDatabase new shard db
  holds_more =
      let wide = with_spares old new.spares in
      let contents : Holds wide shard db.contents = record { tables = holds.contents.tables; windows = holds.contents.windows } in
      record { contents = subst (λ (c : Catalog). Holds c shard db.contents) (sym more.grows.same) contents; counts = holds.counts; numbers = holds.numbers; bodies = texts_stay }

  bodies_stay : HasBodies old shard.bodies → HasBodies new shard.bodies
  bodies_stay has = record {
    count = has.count ∙ sym (ap (λ (c : Catalog). length c.procedures) more.grows.same);
    each = λ q. number_stays old new more q (number_of q) (at q).0 (at q).1 (has.each q);
  }

  pub committed_more : IsCommitted old shard → IsCommitted new shard
  committed_more is =
      let wide = with_spares old new.spares in
      let of = is.of_catalog in
      let bodies : HasBodies new shard.bodies = bodies_stay of.bodies in
      let committed : IsCommitted wide shard = record {
        of_catalog = record {
          tables = record { shapes = of.tables.shapes; keyed = of.tables.keyed };
          indexes = of.indexes;
          windows = record { frames = of.windows.frames; held = of.windows.held };
          cursors = of.cursors;
          sources = of.sources;
          bodies = subst (λ (c : Catalog). HasBodies c shard.bodies) more.grows.same bodies;
          coming = subst (IsComing wide) (sym is.none_coming) tt;
        };
        final = is.final;
        committed = is.committed;
        empty = is.empty;
        none_coming = is.none_coming;
      } in
      subst (λ (c : Catalog). IsCommitted c shard) (sym more.grows.same) committed

  pub dealt_more : (parts : ℕ) → IsWholeShard old parts shard → IsWholeShard new parts shard
  dealt_more parts is = record {
    number = is.number;
    parts = record {
      running = is.parts.running;
      committed = committed_more is.parts.committed;
      dealt = is.parts.dealt ∙ sym (ap (λ (c : Catalog). map (dealing_for parts (all_partitions parts)) c.tables) more.grows.same);
    };
  }

-- ---- what is read of an image

module _ (old : Catalog) (spares : List (List Body)) (has : (q : ℕ) (text : List ℕ) → has_body old q text ≡ true → has_body (with_spares old spares) q text ≡ true) where
  abbrev wide : Catalog
  wide = with_spares old spares

  whole_wide : (db : Model) → WholeDatabase old db → WholeDatabase wide db
  whole_wide db k = record {
    contents = record { table_count = k.contents.table_count; window_count = k.contents.window_count; tables = k.contents.tables; windows = k.contents.windows };
    in_step = record {
      matched = record { shape = record { counts = k.in_step.matched.shape.counts; streams = k.in_step.matched.shape.streams }; streams = k.in_step.matched.streams };
      within = k.in_step.within;
    };
    next_count = k.next_count;
    batches = k.batches;
    inner = k.inner;
    calls = k.calls;
    next_numbers = λ s source n is. let m = k.next_numbers s source n is in record { border = m.border; at_least = m.at_least; at_most = m.at_most };
    body_count = k.body_count;
    bodies = λ q p is. has q (body_text db q) (k.bodies q p is);
  }

  fit_wide : (bodies : Bool) (texts : List (List ℕ)) → FitBodies bodies old texts → FitBodies bodies wide texts
  fit_wide true texts h = h
  fit_wide false texts h = h

  bytes_wide : (bodies : Bool) (db : Model) → image_bytes bodies wide (kept wide db) ≡ image_bytes bodies old (kept old db)
  unfolding kept image_bytes
  bytes_wide bodies db = refl

  image_wide : (bodies : Bool) (first : ℕ) (bytes : List ℕ) (db : Model) → IsImageAt old bodies first bytes db → IsImageAt wide bodies first bytes db
  image_wide bodies first bytes db is =
      let same = sym (kept_with old spares db) in
      record {
        whole = whole_wide db is.whole;
        had = is.had;
        fits = record {
          tables = subst (λ (k : Kept). All FitsTable k.tables) same is.fits.tables;
          windows = subst (λ (k : Kept). All FitsWindow k.windows) same is.fits.windows;
          streams = subst (λ (k : Kept). All FitsStream k.streams) same is.fits.streams;
          counts = subst (λ (k : Kept). All (λ (n : ℕ). n < 2 ^ 64) k.counts) same is.fits.counts;
          next_numbers = subst (λ (k : Kept). All FitNumbers k.next_numbers) same is.fits.next_numbers;
          texts = subst (λ (k : Kept). FitBodies bodies wide k.bodies) same (fit_wide bodies (kept old db).bodies is.fits.texts);
        };
        spelled = is.spelled ∙ sym (bytes_wide bodies db);
      }

-- an image of a database is that of the catalogue with more bodies too
pub image_more : (old new : Catalog) → GrowsTo old new → (bodies : Bool) (first : ℕ) (bytes : List ℕ) (db : Model) → IsImageAt old bodies first bytes db → IsImageAt new bodies first bytes db
image_more old new grows bodies first bytes db is =
    subst (λ (c : Catalog). IsImageAt c bodies first bytes db) (sym grows.same)
    (image_wide old new.spares (λ q text h. ap (λ (c : Catalog). has_body c q text) (sym grows.same) ∙ grows.has q text h) bodies first bytes db is)

streams_more : (old new : Catalog) → new ≡ with_spares old new.spares → (db : Model) (streams : List Pending) → AreStreamsOf old db streams → AreStreamsOf new db streams
streams_more old new same db streams are = subst (λ (c : Catalog). AreStreamsOf c db streams) (sym same) are

module _ (old new : Catalog) (more : HasMore old new) (bodies : Bool) (bytes : List ℕ) (first parts : ℕ) (database : Database) (read : IsReadAs bodies bytes first (old, database)) where
  stands_more : StandsFor new database read.0
  stands_more = record {
    shard = holds_more old new read.1.own more database.whole read.0 read.2.shard read.1.image.whole;
    streams = streams_more old new more.grows.same read.0 database.streams.streams read.2.streams;
  }

  image_of_more : IsImageOf bodies bytes first new read.0
  image_of_more = record {
    own = more.grows.own;
    short = subst (λ (c : Catalog). length c.text < 2 ^ 32) (sym more.grows.same) read.1.short;
    image = image_more old new more.grows bodies first bytes read.0 read.1.image;
  }

  pub read_more : IsReadAs bodies bytes first (new, database)
  read_more = (read.0, image_of_more, stands_more)

  pub whole_more : IsWholeShard old parts database.whole × IsWhole old database → IsWholeShard new parts database.whole × IsWhole new database
  whole_more is =
      let committed = committed_more old new read.1.own more database.whole read.0 read.2.shard read.1.image.whole in (
        dealt_more old new read.1.own more database.whole read.0 read.2.shard read.1.image.whole parts is.0,
        record { committed = committed is.1.committed; number = is.1.number; stands = (read.0, stands_more, image_of_more.image.whole) },
      )
