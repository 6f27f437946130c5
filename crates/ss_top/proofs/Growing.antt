-- What holds of a catalogue holds of one with more bodies to be installed.
use Rattle.std.proofs.Common.{◌≡◌, ◌∙◌, ◌⊎◌, ◌+◌, ◌<◌, ◌^◌, true, inl, inr, ℕ, zero, suc, List, [], ◌∷◌, length, take, Some, None, refl, sym, ap, subst, unwrap_or, arith}
use Rattle.std.specs.Prelude.{Option, option_map, ◌&&◌, nat_le, nat_lt, slice_get}
use Rattle.std.specs.List.{list_all}
use Rattle.std.proofs.lemmas.Bool.{and_from}
use Rattle.ss_lemmas.proofs.Bools.{first_of_two, second_of_two}
use Rattle.ss_model.specs.declared.catalog.Body.{Body}
use Rattle.ss_model.specs.declared.catalog.Catalog.{Catalog}
use Rattle.ss_model.specs.declared.entry.Entry.{Entry}
use Rattle.ss_model.specs.declared.entry.Entry.TheVariants.{Call, Push, Step as StepEntry, Install}
use Rattle.ss_model.specs.declared.entry.Listed.{Listed}
use Rattle.ss_model.specs.declared.entry.Mode.TheVariants as modes
use Rattle.ss_model.specs.declared.entry.Outcome.TheVariants.{Done}
use Rattle.ss_model.specs.declared.entry.Request.{Request}
use Rattle.ss_model.specs.Database.{Applied, Database as Model, apply, body_text, empty_database, fits_entry, has_body, takes_bodies}
use Rattle.ss_model.specs.Orders.{Orders}
use Rattle.ss_model.specs.Recovery.{Strong}
use Rattle.ss_model.specs.Replays.{Replays, after, database_after}
use Rattle.ss_model.specs.Report.{asked_entries}
use Rattle.ss_model.specs.Settling.{Kept, kept}
use Rattle.ss_model.specs.SparesAside.{GoesOnWith, SparesAside, SparesMayBeAdded, with_spares}
use Rattle.ss_model.specs.WholeDatabase.{WholeDatabase}
use Rattle.ss_model.proofs.CallerLemmas.{applied_fits}
use Rattle.ss_model_laws.proofs.CallerLemmas.{whole_after}
use Rattle.ss_disk.specs.Files.{Files}
use Rattle.ss_disk.specs.Kinds.{DiskKind, present}
use Rattle.ss_disk.proofs.CallerLemmas.{leaves_less}
use Rattle.ss_cmdlog.specs.Generation.{Stood}
use Rattle.ss_standing.specs.Laws.{StandsForOne}
use Rattle.ss_standing.specs.Standing.{Replayed, Stands, StandsForAtLeast, StandsForFront}
use Rattle.ss_headline.specs.Disks.{disk_of}
use Rattle.ss_headline.specs.Layers.{Closed, Opened, Receipted}
use Rattle.ss_headline.specs.Sentences.{ReceiptsStay}
use Rattle.ss_engine.specs.Clients.{AllFit}
use Rattle.ss_nest.specs.Bodies.{HasOneNestedBody, NestedBodiesMayStand}
use Rattle.ss_snapshot.specs.Bodies.{GrowsTo}
use Rattle.ss_snapshot.specs.Own.{SameButSpares}
use Rattle.ss_snapshot.proofs.BothSpares.{both}
use Rattle.ss_snapshot.proofs.CallerLemmas.{kept_with}
use Rattle.ss_recover.specs.Faults.{IsStore}
use Rattle.ss_recover.specs.Recovering.{IsOwnCatalog}
use Rattle.ss_recover.proofs.BothBodies.{behind_goes_on, front_goes_on, one_joint}
use Rattle.ss_recover.proofs.Grown.{image_more}
use Rattle.ss_recover.proofs.MoreValues.{FindsBody, same_value}
use Rattle.ss_top.specs.Turns.{HoldsStrong}

-- what is asked for fits the catalogue with more bodies too
module _ (catalog : Catalog) (spares : List (List Body)) (has : (q : ℕ) (text : List ℕ) → has_body catalog q text ≡ true → has_body (with_spares catalog spares) q text ≡ true) where
  entry_fits : (e : Entry) → fits_entry catalog e ≡ true → fits_entry (with_spares catalog spares) e ≡ true
  entry_fits (Call client index n args) h = h
  entry_fits (Push client index s source seq rows) h = h
  entry_fits (StepEntry n r) h = h
  entry_fits (Install client index q text) h =
      and_from (nat_lt client 8 && takes_bodies (slice_get catalog.procedures q) && nat_le (length text) 1048576) (has_body (with_spares catalog spares) q text) (first_of_two _ _ h) (has q text (second_of_two _ _ h))

  entries_fit : (es : List Entry) → list_all (fits_entry catalog) es ≡ true → list_all (fits_entry (with_spares catalog spares)) es ≡ true
  entries_fit [] h = refl
  entries_fit (e ∷ es) h =
      and_from (fits_entry (with_spares catalog spares) e) (list_all (fits_entry (with_spares catalog spares)) es)
      (entry_fits e (first_of_two (fits_entry catalog e) (list_all (fits_entry catalog) es) h)) (entries_fit es (second_of_two (fits_entry catalog e) (list_all (fits_entry catalog) es) h))

pub fits_more : (a b : Catalog) (requests : List Request) → GrowsTo a b → AllFit a requests → AllFit b requests
fits_more a b requests grows fit =
    subst (λ (c : Catalog). AllFit c requests) (sym grows.same)
    (entries_fit a b.spares (λ q text h. ap (λ (c : Catalog). has_body c q text) (sym grows.same) ∙ grows.has q text h) (asked_entries requests) fit)

-- the laws from which it follows
pub record GrowthLaws : Type 0 where
  pub aside : SparesAside
  pub stand : NestedBodiesMayStand
  pub body : HasOneNestedBody
  pub one : StandsForOne

-- a whole database is one with more bodies
pub whole_with : (catalog : Catalog) (spares : List (List Body)) (db : Model) → ((q : ℕ) → has_body catalog q (body_text db q) ≡ true → has_body (with_spares catalog spares) q (body_text db q) ≡ true)
    → WholeDatabase catalog db → WholeDatabase (with_spares catalog spares) db
whole_with catalog spares db has k = record {
  contents = record { table_count = k.contents.table_count; window_count = k.contents.window_count; tables = k.contents.tables; windows = k.contents.windows };
  in_step = record {
    matched = record { shape = record { counts = k.in_step.matched.shape.counts; streams = k.in_step.matched.shape.streams }; streams = k.in_step.matched.streams };
    within = k.in_step.within;
  };
  next_count = k.next_count;
  batches = k.batches;
  inner = k.inner;
  calls = k.calls;
  next_numbers = λ s source n is. let m = k.next_numbers s source n is in record { border = m.border; at_least = m.at_least; at_most = m.at_most };
  body_count = k.body_count;
  bodies = λ q p is. has q (k.bodies q p is);
}

orders_with : (catalog : Catalog) (spares : List (List Body)) (db : Model) (list : List Listed) → Orders catalog db list → Orders (with_spares catalog spares) db list
orders_with catalog spares db list o = record { each_in_order = o.each_in_order; graph_order = o.graph_order; pushed_first = o.pushed_first }

nothing_with : (catalog : Catalog) (spares : List (List Body)) → kept (with_spares catalog spares) (empty_database (with_spares catalog spares)) ≡ kept catalog (empty_database catalog)
unfolding kept
nothing_with catalog spares = refl

-- the first entries of a list replay
pub front_of : (catalog : Catalog) (n : ℕ) (list : List Listed) (db : Model) → Replays catalog db list → Replays catalog db (take n list)
front_of catalog zero list db r = tt
front_of catalog (suc n) [] db r = tt
front_of catalog (suc n) (l ∷ ls) db r = (r.0, front_of catalog n ls (database_after catalog db l.entry) r.1)

module _ (laws : GrowthLaws) (a b : Catalog) (own : IsOwnCatalog a) (grows : GrowsTo a b) where
  same : SameButSpares a b
  same = sym (ap (λ (c : Catalog). with_spares c []) grows.same)

  abbrev spares : List (List Body)
  spares = both a.spares b.spares

  law : SparesMayBeAdded a spares
  law = laws.aside a own.0 spares (front_goes_on laws.stand laws.body a b same own.1 grows.own)

  on_more : GoesOnWith b spares
  on_more = behind_goes_on laws.stand laws.body a b same own.1 grows.own

  joint_is : with_spares a spares ≡ with_spares b spares
  joint_is = one_joint laws.stand laws.body a b same own.1 grows.own

  -- ---- databases

  pub kept_more : (db : Model) → kept b db ≡ kept a db
  kept_more db = ap (λ (c : Catalog). kept c db) grows.same ∙ kept_with a b.spares db

  pub whole_more : (db : Model) → WholeDatabase a db → WholeDatabase b db
  whole_more db whole =
      subst (λ (c : Catalog). WholeDatabase c db) (sym grows.same)
      (whole_with a b.spares db (λ q h. ap (λ (c : Catalog). has_body c q (body_text db q)) (sym grows.same) ∙ grows.has q (body_text db q) h) whole)

  pub nothing_more : kept b (empty_database b) ≡ kept a (empty_database a)
  nothing_more = ap (λ (c : Catalog). kept c (empty_database c)) grows.same ∙ nothing_with a b.spares

  -- ---- entries and lists

  finds : (d : Model) (e : Entry) (x : Applied) → apply a d e ≡ Some x → FindsBody (with_spares b spares) b e
  finds d (Call client index q args) x is = tt
  finds d (Push client index s source seq rows) x is = tt
  finds d (StepEntry q r) x is = tt
  finds d (Install client index q text) x is = λ there. grows.has q text (second_of_two _ _ (applied_fits a d (Install client index q text) x is))

  value_more : (d : Model) → WholeDatabase a d → (e : Entry) (x : Applied) → apply a d e ≡ Some x → apply b d e ≡ Some x
  value_more d whole e x is =
      let up : apply (with_spares a spares) d e ≡ Some x = law.applies d e x whole is in
      let there : apply (with_spares b spares) d e ≡ Some x = subst (λ (c : Catalog). apply c d e ≡ Some x) joint_is up in
      sym (same_value laws.aside b grows.accepted spares on_more d (whole_more d whole) e (finds d e x is)) ∙ there

  pub record Goes (db : Model) (list : List Listed) : Type 0 where
    pub replays : Replays b db list
    pub ends : after b db list ≡ after a db list

  next_of : (c : Catalog) (d : Model) (e : Entry) (x : Applied) → apply c d e ≡ Some x → database_after c d e ≡ x.db
  next_of c d e x is = ap (λ (o : Option Applied). unwrap_or (option_map (λ (a : Applied). a.db) o) d) is

  pub goes_more : (list : List Listed) (db : Model) → WholeDatabase a db → Replays a db list → Goes db list
  goes_more [] db whole r = record { replays = tt; ends = refl }
  goes_more (l ∷ ls) db whole r = by (λ z k q. goes_more ls z k q) (apply a db l.entry) refl r.0
    where
      by : ((z : Model) → WholeDatabase a z → Replays a z ls → Goes z ls) → (o : Option Applied) → apply a db l.entry ≡ o → option_map (λ (x : Applied). x.outcome) o ≡ Some l.outcome → Goes db (l ∷ ls)
      by later None is e = absurd (cc)
      by later (Some x) is e =
          let there = value_more db whole l.entry x is in
          let next = next_of a db l.entry x is in
          let next_too = next_of b db l.entry x there in
          let whole_next = subst (WholeDatabase a) next (whole_after a own.0 db (record { entry = l.entry; outcome = Done [] } ∷ []) whole) in
          let rest = later x.db whole_next (subst (λ (z : Model). Replays a z ls) next r.1) in
          record {
            replays = (ap (option_map (λ (x : Applied). x.outcome)) there ∙ e, subst (λ (z : Model). Replays b z ls) (sym next_too) rest.replays);
            ends = ap (λ (z : Model). after b z ls) next_too ∙ rest.ends ∙ ap (λ (z : Model). after a z ls) (sym next);
          }

  pub kept_behind : (db : Model) (list : List Listed) → WholeDatabase a db → Replays a db list → kept b (after b db list) ≡ kept a (after a db list)
  kept_behind db list whole r = ap (kept b) (goes_more list db whole r).ends ∙ kept_more (after a db list)

  orders_more : (db : Model) (list : List Listed) → Orders a db list → Orders b db list
  orders_more db list o = subst (λ (c : Catalog). Orders c db list) (sym grows.same) (orders_with a b.spares db list o)

  -- ---- what files stand for

  replayed_more : (s : Stood) (n : ℕ) (k : Kept) → Replayed a s n k → Replayed b s n k
  replayed_more s n k r = record {
    strong = r.strong;
    opening = r.opening;
    image = image_more a b grows s.bodies s.first s.image r.opening r.image;
    list = r.list;
    entries = r.entries;
    replays = (goes_more r.list r.opening r.image.whole r.replays).replays;
    count_is = r.count_is;
    kept_is = r.kept_is ∙ sym (kept_behind r.opening r.list r.image.whole r.replays);
  }

  pub stands_more : (image : Files) (n : ℕ) (k : Kept) → Stands a image n k → Stands b image n k
  stands_more image n k (inl none) = inl (record { empty = none.empty; none = none.none; nothing = none.nothing ∙ sym nothing_more })
  stands_more image n k (inr s) = inr (record { stood = s.stood; stands = s.stands; replayed = replayed_more s.stood n k s.replayed })

  module _ (db : Model) (first : ℕ) (list : List Listed) (whole : WholeDatabase a db) (replays : Replays a db list) where
    pub front_more : (least : ℕ) (image : Files) → StandsForFront a db first list least image → StandsForFront b db first list least image
    front_more least image f = record {
      some = f.some;
      within = f.within;
      enough = f.enough;
      stands = subst (Stands b image (first + f.some)) (sym (kept_behind db (take f.some list) whole (front_of a f.some list db replays)))
          (stands_more image (first + f.some) (kept a (after a db (take f.some list))) f.stands);
    }

    -- what such a front stands for at least with more bodies it does without
    at_least_back : (least n : ℕ) (image : Files) → StandsForFront a db first list least image → StandsForAtLeast b n image → StandsForAtLeast a n image
    unfolding front_more
    at_least_back least n image f at =
        let here = front_more least image f in
        let one = laws.one b image at.count (first + f.some) at.k (kept b (after b db (take f.some list))) at.stands here.stands in
        record { count = first + f.some; k = kept a (after a db (take f.some list)); stands = f.stands; enough = omega (arith, at.enough, one.0) }

    at_least_more : (n : ℕ) (image : Files) → StandsForAtLeast a n image → StandsForAtLeast b n image
    at_least_more n image at = record { count = at.count; k = at.k; stands = stands_more image at.count at.k at.stands; enough = at.enough }

    -- ---- an engine that was closed

    module _ {D : Type 0} (kind : DiskKind D) (old new : D) where
      pub closed_more : Closed Strong a db first list (disk_of kind old new) → Closed Strong b db first list (disk_of kind old new)
      closed_more c = record {
        replays = (goes_more list db whole c.replays).replays;
        orders = orders_more db list c.orders;
        crashes = λ true'. leaves_less kind.moment kind.images old new _ _ (c.crashes true') (λ image f. front_more first image f);
        receipts_stay = λ true' n t u from le till all image left.
            let run = c.crashes true' in
            at_least_more n image
            (c.receipts_stay true' n t u from le till (λ i there. at_least_back first n i (run.each t i from (omega (arith, le, till)) there) (all i there)) image left);
      }

      pub receipted_more : (count : ℕ) → Receipted Strong a db first list count (disk_of kind old new) → Receipted Strong b db first list count (disk_of kind old new)
      receipted_more count r = record { from_first = r.from_first; within = r.within; receipt = λ true' image left. front_more count image (r.receipt true' image left); few = r.few }

  -- ---- a store that was opened

  module _ {D : Type 0} (kind : DiskKind D) (db : Model) (first : ℕ) (old new : D) where
    pub opened_more : Opened Strong a db first (disk_of kind old new) → ((list : List Listed) → ReceiptsStay Strong b list (disk_of kind old new)) → Opened Strong b db first (disk_of kind old new)
    opened_more o stay = record {
      whole = whole_more db o.whole;
      began = λ told. tt;
      stood = λ told. subst (Stands b (kind.seen old) first) (sym (kept_more db)) (stands_more (kind.seen old) first (kept a db) (o.stood told));
      crashes = λ true'. leaves_less kind.moment kind.images old new _ _ (o.crashes true') (λ image either. by image either);
      receipts_stay = stay;
      settled = o.settled;
      faults = o.faults;
    }
      where
        by : (image : Files) → present kind old image ⊎ StandsForFront a db first [] first image → present kind old image ⊎ StandsForFront b db first [] first image
        by image (inl left) = inl left
        by image (inr f) = inr (front_more db first [] o.whole tt first image f)

  pub store_more : (files : Files) → IsStore modes.Strong files a → IsStore modes.Strong files b
  store_more files is = record {
    which = is.which;
    s = is.s;
    reads = is.reads;
    of_mode = is.of_mode;
    accepted = grows.accepted;
    db = is.db;
    image = record {
      own = grows.own;
      short = subst (λ (c : Catalog). length c.text < 2 ^ 32) (sym grows.same) is.image.short;
      image = image_more a b grows is.s.bodies is.s.first is.s.image is.db is.image.image;
    };
    replays = record {
      list = is.replays.list;
      entries_are = is.replays.entries_are;
      replays = (goes_more is.replays.list is.db is.image.image.whole is.replays.replays).replays;
      few = is.replays.few;
    };
  }

  pub holds_more : (files : Files) → HoldsStrong a files → HoldsStrong b files
  holds_more files (inl empty) = inl empty
  holds_more files (inr store) = inr (store_more files store)
