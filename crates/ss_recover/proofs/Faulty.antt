-- A disk is empty, or a store, or has one first fault.
use Rattle.std.proofs.Common.{◌≡◌, inl, inr, ⊎_elim, ◌∙◌, ◌<◌, ◌≤◌, ◌+◌, ◌^◌, ℕ, zero, suc, List, [], ◌∷◌, ◌++◌, length, take, drop, slice_get, Option, Some, None, Result, Ok, Err, ap, arith, refl, subst, sym, take-append-drop}
use Rattle.std.proofs.lemmas.Bool.{cases_lt}
use Rattle.std.proofs.lemmas.List.{length-map, take-map, take-take}
use Rattle.std.proofs.lemmas.Option.{slice_get-map, slice_get_within}
use Rattle.std.specs.Option.{option_map}
use Rattle.ss_lemmas.proofs.LoopItem.{drop_at, some_at}
use Rattle.ss_model.specs.declared.catalog.Catalog.{Catalog}
use Rattle.ss_model.specs.declared.entry.Entry.{Entry}
use Rattle.ss_model.specs.declared.entry.Listed.{Listed}
use Rattle.ss_model.specs.declared.entry.Mode.{Mode}
use Rattle.ss_model.specs.declared.entry.Mode.TheVariants.{Strong, Weak}
use Rattle.ss_model.specs.declared.entry.Outcome.{Outcome}
use Rattle.ss_model.specs.Database.{Applied, Database as Model, apply}
use Rattle.ss_model.specs.Replays.{Replays, after}
use Rattle.ss_model.proofs.CallerLemmas.{goes_on}
use Rattle.ss_weak_lists.specs.Stops.{PassesLast, WeakStopsOnce}
use Rattle.ss_disk.specs.Files.{Files}
use Rattle.ss_cmdlog.specs.Generation.{Stood}
use Rattle.ss_cmdlog.specs.Opening.{number_of, store_at}
use Rattle.ss_cmdlog.specs.Store.{IsEmpty, current_file, entries_of}
use Rattle.ss_snapshot.specs.Own.{SameButSpares}
use Rattle.ss_snapshot.specs.Images.{IsForeignAt, IsImageOf, HasOneKept, HasOneOffset, IsImageOrForeign}
use Rattle.ss_standing.specs.Standing.{listed_entries}
use Rattle.ss_standing.proofs.CallerLemmas.{entries_tell}
use Rattle.ss_recover.specs.Faults.{HasForeignEntry, HasForeignSettling, IsStore, ReadsAs, ReplaysAs, ReplaysAsTheyStand, StopsAfter, first_place, image_place, record_place}
use Rattle.ss_recover.specs.Laws.{EmptyHasNoFault, HasOneFault, StoreHasNoFault, StoreIsOne}
use Rattle.ss_replay.specs.Replaying.{DoesNotReplay, StopsBehind}

-- ---- lists

-- what stands at a place below so many stands there in the first of them
pub at_front : {A : Type 0} (xs : List A) (m n : ℕ) → n < m → slice_get (take m xs) n ≡ slice_get xs n
at_front [] zero n lt = absurd (omega arith)
at_front [] (suc m) n lt = refl
at_front (x ∷ xs) zero n lt = absurd (omega arith)
at_front (x ∷ xs) (suc m) zero lt = refl
at_front (x ∷ xs) (suc m) (suc n) lt = at_front xs m n (omega arith)

no_outcome : (o : Option Applied) (l : Outcome) → o ≡ None → option_map (λ (a : Applied). a.outcome) o ≡ Some l → ⊥
no_outcome o l none some = (let both : None ≡ Some l = ap (option_map (λ (a : Applied). a.outcome)) (sym none) ∙ some in cc)

module _ (catalog : Catalog) (d : Model) (first : ℕ) where
  -- of a list that replays, each entry at its place, none doesn't replay behind those before it
  none_stops : (list front : List Listed) → Replays catalog d list → first + length list ≤ 2 ^ 60 → Replays catalog d front → listed_entries front ≡ take (length front) (listed_entries list) → length front < length list
      → (e : Entry) → slice_get (listed_entries list) (length front) ≡ Some e → DoesNotReplay catalog (after catalog d front) (first + length front) e → ⊥
  none_stops list front replays few fronts same within e there (inl last) = omega (arith, last)
  none_stops list front replays few fronts same within e there (inr none) =
      let n = length front in
      let (x, here) = some_at list n within in
      let whole : take n list ++ (x ∷ drop (suc n) list) ≡ list = ap (λ (l : List Listed). take n list ++ l) (sym (drop_at list n x here)) ∙ take-append-drop n list in
      let parts = (goes_on catalog d (take n list) (x ∷ drop (suc n) list)).splits (subst (Replays catalog d) (sym whole) replays) in
      let is_front : front ≡ take n list = entries_tell catalog d front (take n list) fronts parts.0 (same ∙ take-map (λ (l : Listed). l.entry) n list) in
      let entry_is : Some x.entry ≡ Some e = sym (slice_get-map (λ (l : Listed). l.entry) list n ∙ ap (option_map (λ (l : Listed). l.entry)) here) ∙ there in
      let same_entry : x.entry ≡ e = cc in
      no_outcome (apply catalog (after catalog d (take n list)) x.entry) x.outcome
      (subst (λ (l : List Listed). apply catalog (after catalog d l) x.entry ≡ None) is_front (subst (λ (f : Entry). apply catalog (after catalog d front) f ≡ None) (sym same_entry) none)) parts.1.0

  -- two lists that stop are one
  one_stop : (entries : List Entry) (a b : List Listed) → StopsBehind catalog d first entries a → StopsBehind catalog d first entries b → length a < length b → ⊥
  one_stop entries a b stops others shorter =
      none_stops b a others.replays others.few stops.replays
      (stops.before ∙ sym (ap (take (length a)) others.before ∙ take-take (length a) (length b) entries (omega (arith, shorter)))) shorter
      stops.entry (ap (λ (es : List Entry). slice_get es (length a)) others.before ∙ at_front entries (length b) (length a) shorter ∙ stops.there) stops.stops

  same_length : (entries : List Entry) (a b : List Listed) → StopsBehind catalog d first entries a → StopsBehind catalog d first entries b → length a ≡ length b
  same_length entries a b stops others = ⊎_elim
      (λ (lt : length a < length b). absurd (one_stop entries a b stops others lt))
      (λ (le : length b ≤ length a). ⊎_elim
      (λ (lt : length b < length a). absurd (one_stop entries b a others stops lt))
      (λ (ge : length a ≤ length b). omega (arith, le, ge))
      (cases_lt (length b) (length a)))
      (cases_lt (length a) (length b))

  -- entries that replay as they stand don't stop
  none_stops_so : (entries : List Entry) (front : List Listed) → ReplaysAsTheyStand catalog d first entries → StopsBehind catalog d first entries front → ⊥
  none_stops_so entries front all stops =
      let list = all.list in
      let there = ap (λ (es : List Entry). slice_get es (length front)) all.entries_are ∙ stops.there in
      let within = slice_get_within (listed_entries list) (length front) stops.entry there in
      none_stops list front all.replays all.few stops.replays (stops.before ∙ ap (take (length front)) (sym all.entries_are)) (omega (arith, within, length-map list (λ (l : Listed). l.entry))) stops.entry there stops.stops

-- ---- either mode

module _ (once : WeakStopsOnce) (catalog : Catalog) (d : Model) (first : ℕ) (entries : List Entry) where
  pub no_stop : (mode : Mode) (n : ℕ) → ReplaysAs mode catalog d first entries → StopsAfter mode catalog d first entries n → ⊥
  no_stop Strong n all stops = (let (front, is, behind) = stops in none_stops_so catalog d first entries front all behind)
  no_stop Weak n all stops = (once catalog d first entries).no_stop n all stops

  one_place : (mode : Mode) (m n : ℕ) → StopsAfter mode catalog d first entries m → StopsAfter mode catalog d first entries n → m ≡ n
  one_place Strong m n stops others =
      let (a, is, behind) = stops in
      let (b, is_other, other) = others in
      is ∙ same_length catalog d first entries a b behind other ∙ sym is_other
  one_place Weak m n stops others = (once catalog d first entries).one_stop m n stops others

  -- where settling passes the last place, none of them replays, nor some of them
  never : (mode : Mode) → mode ≡ Weak → PassesLast catalog d first → ReplaysAs mode catalog d first entries → ⊥
  never mode weak passes all = (let replays : ReplaysAs Weak catalog d first entries = subst (λ (m : Mode). ReplaysAs m catalog d first entries) weak all in (once catalog d first entries).unsettled entries passes replays)

  pub not_before : (mode : Mode) (n : ℕ) → mode ≡ Weak → PassesLast catalog d first → StopsAfter mode catalog d first entries n → ⊥
  not_before mode n weak passes stops =
      let stop : StopsAfter Weak catalog d first entries n = subst (λ (m : Mode). StopsAfter m catalog d first entries n) weak stops in
      (once catalog d first entries).unsettled (take n entries) passes stop.before

-- ---- files

ok_is : {A E : Type 0} (x y : A) → ◌≡◌ {A = Result A E} (Ok x) (Ok y) → x ≡ y
ok_is x y is = cc

err_is : {A E : Type 0} (x y : E) → ◌≡◌ {A = Result A E} (Err x) (Err y) → x ≡ y
err_is x y is = cc

one_reading : (disk : Files) (which other : ℕ) (s t : Stood) → ReadsAs disk which s → ReadsAs disk other t → (s ≡ t) × (which ≡ other)
one_reading disk which other s t a b =
    let bytes : a.byte ∷ [] ≡ b.byte ∷ [] = sym a.selector ∙ b.selector in
    let byte : a.byte ≡ b.byte = cc in
    (ok_is s t (sym a.read ∙ b.read), a.named ∙ ap (λ (n : ℕ). number_of (current_file n)) byte ∙ sym b.named)

unread : (disk : Files) (which other at : ℕ) (s : Stood) → ReadsAs disk which s → store_at disk ≡ Err (other, at) → ⊥
unread disk which other at s reads err = (let both : ◌≡◌ {A = Result Stood (ℕ × ℕ)} (Ok s) (Err (other, at)) = sym reads.read ∙ err in cc)

unselected : (disk : Files) (which : ℕ) (s : Stood) → IsEmpty disk → ReadsAs disk which s → ⊥
unselected disk which s empty reads = (let both : [] ≡ reads.byte ∷ [] = sym empty ∙ reads.selector in cc)

pub empty_no_fault : EmptyHasNoFault
empty_no_fault disk which at empty (inl bytes) = bytes.0 empty
empty_no_fault disk which at empty (inr (inl image)) = unselected disk which image.s empty image.reads
empty_no_fault disk which at empty (inr (inr (inl entry))) = unselected disk which entry.s empty entry.reads
empty_no_fault disk which at empty (inr (inr (inr settling))) = unselected disk which settling.s empty settling.reads

module _ (one : HasOneKept) (either : IsImageOrForeign) (offset : HasOneOffset) (once : WeakStopsOnce) where
  -- the image of the one generation is that of the other, which is the same
  image_there : (disk : Files) (which other : ℕ) (s t : Stood) (a : Catalog) (x : Model) → ReadsAs disk which s → ReadsAs disk other t → IsImageOf s.bodies s.image s.first a x → IsImageOf t.bodies t.image t.first a x
  image_there disk which other s t a x reads others image = subst (λ (u : Stood). IsImageOf u.bodies u.image u.first a x) (one_reading disk which other s t reads others).0 image

  one_catalog : (disk : Files) (which other : ℕ) (s t : Stood) (a b : Catalog) (x y : Model) → ReadsAs disk which s → ReadsAs disk other t → IsImageOf s.bodies s.image s.first a x → IsImageOf t.bodies t.image t.first b y
      → SameButSpares a b
  one_catalog disk which other s t a b x y reads others image images = (one t.bodies t.image t.first a b x y (image_there disk which other s t a x reads others image) images).0

  one_text : (disk : Files) (which other : ℕ) (s t : Stood) (a b : Catalog) (x y : Model) → ReadsAs disk which s → ReadsAs disk other t → IsImageOf s.bodies s.image s.first a x → IsImageOf t.bodies t.image t.first b y
      → a.text ≡ b.text
  one_text disk which other s t a b x y reads others image images = ap (λ (c : Catalog). c.text) (one_catalog disk which other s t a b x y reads others image images)

  image_not : (disk : Files) (which other off : ℕ) (s t : Stood) (a : Catalog) (x : Model) → ReadsAs disk which s → ReadsAs disk other t → IsImageOf s.bodies s.image s.first a x → IsForeignAt t.bodies t.first t.image off → ⊥
  image_not disk which other off s t a x reads others image foreign = either t.bodies t.image t.first a x off (image_there disk which other s t a x reads others image) foreign

  -- Where an entry stops, the entries stop behind the image of the other generation, which is the same, whatever bodies may be installed in
  -- its catalogue, and at no later one.
  stops_there : (disk : Files) (which other at : ℕ) (a : HasForeignEntry disk which at) (t : Stood) (b : Catalog) (y : Model) → ReadsAs disk other t → IsImageOf t.bodies t.image t.first b y
      → (m : ℕ) × StopsAfter t.mode b y t.first (entries_of t) m × m ≤ a.before
  stops_there disk which other at a t b y reads image =
      let same = (one_reading disk which other a.s t a.reads reads).0 in
      let text = one_text disk other which t a.s b a.catalog y a.db reads a.reads image a.image in
      let (m, stops, le) = a.furthest b y text (image_there disk other which t a.s b y reads a.reads image) in
      (m, subst (λ (u : Stood). StopsAfter u.mode b y u.first (entries_of u) m) same stops, le)

  -- and so does settling that passes the last place
  passes_there : (disk : Files) (which other at : ℕ) (a : HasForeignSettling disk which at) (t : Stood) (b : Catalog) (y : Model) → ReadsAs disk other t → IsImageOf t.bodies t.image t.first b y → PassesLast b y t.first
  passes_there disk which other at a t b y reads image =
      let same = (one_reading disk which other a.s t a.reads reads).0 in
      let text = one_text disk other which t a.s b a.catalog y a.db reads a.reads image a.image in
      subst (λ (u : Stood). PassesLast b y u.first) same (a.others b y text (image_there disk other which t a.s b y reads a.reads image))

  -- a store's entries, as those of its generation
  store_replays : (mode : Mode) (disk : Files) (catalog : Catalog) (store : IsStore mode disk catalog) → ReplaysAs store.s.mode catalog store.db store.s.first (entries_of store.s)
  store_replays mode disk catalog store = subst (λ (m : Mode). ReplaysAs m catalog store.db store.s.first (entries_of store.s)) (sym store.of_mode) store.replays

  pub store_no_fault : StoreHasNoFault
  store_no_fault mode disk catalog which at store (inl bytes) = unread disk store.which which at store.s store.reads bytes.1
  store_no_fault mode disk catalog which at store (inr (inl image)) = image_not disk store.which which image.offset store.s image.s catalog store.db store.reads image.reads store.image image.foreign
  store_no_fault mode disk catalog which at store (inr (inr (inl entry))) =
      let (m, stops, le) = stops_there disk which store.which at entry store.s catalog store.db store.reads store.image in
      no_stop once catalog store.db store.s.first (entries_of store.s) store.s.mode m (store_replays mode disk catalog store) stops
  store_no_fault mode disk catalog which at store (inr (inr (inr settling))) =
      let same = (one_reading disk which store.which settling.s store.s settling.reads store.reads).0 in
      let passes = passes_there disk which store.which at settling store.s catalog store.db store.reads store.image in
      never once catalog store.db store.s.first (entries_of store.s) store.s.mode (ap (λ (u : Stood). u.mode) (sym same) ∙ settling.of_mode) passes (store_replays mode disk catalog store)

  pub store_is_one : StoreIsOne
  store_is_one m n disk a b store other = (
    sym store.of_mode ∙ ap (λ (u : Stood). u.mode) (one_reading disk store.which other.which store.s other.s store.reads other.reads).0 ∙ other.of_mode,
    one_catalog disk store.which other.which store.s other.s a b store.db other.db store.reads other.reads store.image other.image,
  )

  -- an entry that stops and settling that passes the last place don't go together
  entry_or_settling : (disk : Files) (which other at place : ℕ) → HasForeignEntry disk which at → HasForeignSettling disk other place → ⊥
  entry_or_settling disk which other at place a b =
      let (m, stops, le) = stops_there disk which other at a b.s b.catalog b.db b.reads b.image in
      not_before once b.catalog b.db b.s.first (entries_of b.s) b.s.mode m b.of_mode b.past stops

  no_later : (disk : Files) (which other at place : ℕ) (a : HasForeignEntry disk which at) (b : HasForeignEntry disk other place) → b.before ≤ a.before
  no_later disk which other at place a b =
      let (m, stops, le) = stops_there disk which other at a b.s b.catalog b.db b.reads b.image in
      let is = one_place once b.catalog b.db b.s.first (entries_of b.s) b.s.mode m b.before stops b.stops in
      omega (arith, is, le)

  one_entry : (disk : Files) (which other at place : ℕ) → HasForeignEntry disk which at → HasForeignEntry disk other place → (which ≡ other) × (at ≡ place)
  one_entry disk which other at place a b =
      let same = one_reading disk which other a.s b.s a.reads b.reads in
      let lengths : a.before ≡ b.before = (let less = no_later disk which other at place a b in let more = no_later disk other which place at b a in omega (arith, less, more)) in
      (same.1, a.place ∙ (λ k. image_place (same.0 k).bodies + length (same.0 k).image + record_place (same.0 k).groups (lengths k)) ∙ sym b.place)

  pub one_fault : HasOneFault
  one_fault disk which at other place (inl a) (inl b) =
      let both = err_is (which, at) (other, place) (sym a.1 ∙ b.1) in
      (ap (λ (p : ℕ × ℕ). p.0) both, ap (λ (p : ℕ × ℕ). p.1) both)
  one_fault disk which at other place (inl a) (inr (inl b)) = absurd (unread disk other which at b.s b.reads a.1)
  one_fault disk which at other place (inl a) (inr (inr (inl b))) = absurd (unread disk other which at b.s b.reads a.1)
  one_fault disk which at other place (inl a) (inr (inr (inr b))) = absurd (unread disk other which at b.s b.reads a.1)
  one_fault disk which at other place (inr (inl a)) (inl b) = absurd (unread disk which other place a.s a.reads b.1)
  one_fault disk which at other place (inr (inr (inl a))) (inl b) = absurd (unread disk which other place a.s a.reads b.1)
  one_fault disk which at other place (inr (inr (inr a))) (inl b) = absurd (unread disk which other place a.s a.reads b.1)
  one_fault disk which at other place (inr (inl a)) (inr (inr (inl b))) = absurd (image_not disk other which a.offset b.s a.s b.catalog b.db b.reads a.reads b.image a.foreign)
  one_fault disk which at other place (inr (inl a)) (inr (inr (inr b))) = absurd (image_not disk other which a.offset b.s a.s b.catalog b.db b.reads a.reads b.image a.foreign)
  one_fault disk which at other place (inr (inr (inl a))) (inr (inl b)) = absurd (image_not disk which other b.offset a.s b.s a.catalog a.db a.reads b.reads a.image b.foreign)
  one_fault disk which at other place (inr (inr (inr a))) (inr (inl b)) = absurd (image_not disk which other b.offset a.s b.s a.catalog a.db a.reads b.reads a.image b.foreign)
  one_fault disk which at other place (inr (inl a)) (inr (inl b)) =
      let same = one_reading disk which other a.s b.s a.reads b.reads in
      let offsets = offset b.s.bodies b.s.image b.s.first a.offset b.offset (subst (λ (u : Stood). IsForeignAt u.bodies u.first u.image a.offset) same.0 a.foreign) b.foreign in
      (same.1, a.place ∙ (λ k. image_place (same.0 k).bodies + offsets k) ∙ sym b.place)
  one_fault disk which at other place (inr (inr (inl a))) (inr (inr (inl b))) = one_entry disk which other at place a b
  one_fault disk which at other place (inr (inr (inl a))) (inr (inr (inr b))) = absurd (entry_or_settling disk which other at place a b)
  one_fault disk which at other place (inr (inr (inr a))) (inr (inr (inl b))) = absurd (entry_or_settling disk other which place at b a)
  one_fault disk which at other place (inr (inr (inr a))) (inr (inr (inr b))) = (let same = one_reading disk which other a.s b.s a.reads b.reads in (same.1, a.place ∙ ap (λ (u : Stood). first_place u.bodies) same.0 ∙ sym b.place))
