-- The tables of a shard that has the parts of some partitions: taken in by another, and given back.
use Rattle.std.proofs.Common.{◌≡◌, ◌≤◌, ℕ, false, List, [], ◌∷◌, ◌++◌, map, length, refl, sym, ap, subst, ◌∙◌, Some, None, slice_get}
use Rattle.std.specs.Cmp.{nat_cmp_total}
use Rattle.std.specs.Option.{option_or}
use Rattle.std.specs.Ordering.{nat_cmp}
use Rattle.std.specs.FinMap as finite
use Rattle.std.specs.FinMap.{nat_cmp-IsAntisymmetric}
use Rattle.ss_lemmas.proofs.Ends.{ends_alike}
use Rattle.ss_value.specs.Rows.{Row}
use Rattle.ss_model.specs.declared.catalog.TableDef.{TableDef}
use Rattle.ss_model.specs.Results.{map_indexed}
use Rattle.ss_model.specs.Contents.{Table}
use Rattle.ss_table.specs.TableValue.{TableValue, DeadRows}
use Rattle.ss_table.specs.Joins.{shell_of, live_of_place, live_elsewhere}
use Rattle.ss_table.specs.Routes.{place_among}
use Rattle.ss_table.specs.Unions.{united}
use Rattle.ss_table.proofs.CallerLemmas.{get_two, none_left, none_right}
use Rattle.ss_undo.specs.ResultsFrom.{AreCommitted}
use Rattle.ss_shard.specs.Joins.{MayTakeIn, MayTakeInAll, with_tables, shells_of, MayGiveBack, MayGiveBackAll, WasGivenBack, WereGivenBack}
use Rattle.ss_shard.specs.Contents.{rows_by_key, tables_of}
use Rattle.ss_shard.specs.Databases.{empty_table}
use Rattle.ss_shard.specs.Shards.{shape_of, shape_for, shapes_of}
use Rattle.ss_shard.specs.Parts.{is_among, dealing_of, dealing_for}
use Rattle.ss_shard.proofs.PartsOfTables.{IsDealtTable, among_none, cut_to, stands_at_home, rows_joined, rows_kept, rows_last}

-- ---- the first and the rest of equal lists

firsts : {A : Type 0} (x y : A) (xs ys : List A) → x ∷ xs ≡ y ∷ ys → x ≡ y
firsts x y xs ys e = cc

rests : {A : Type 0} (x y : A) (xs ys : List A) → x ∷ xs ≡ y ∷ ys → xs ≡ ys
rests x y xs ys e = cc

none_some : {A : Type 0} (x : A) (xs : List A) → [] ≡ x ∷ xs → ⊥
none_some x xs e = cc

-- ---- tables of definitions

-- the tables are those of these definitions, of these parts, and no slot is dead
abbrev pub AreDealt : ℕ → List ℕ → List TableDef → List TableValue → Type 0
AreDealt n held [] hs = hs ≡ []
AreDealt n held (d ∷ ds) [] = ⊥
AreDealt n held (d ∷ ds) (h ∷ hs) = IsDealtTable n held d h × AreDealt n held ds hs

-- the rows of tables whose parts are held
abbrev pub cuts_to : ℕ → List ℕ → List TableDef → List Table → List Table
cuts_to n held ds ms = map_indexed (λ t m. cut_to n held (slice_get ds t) m) ms

module _ (n : ℕ) (held : List ℕ) where
  pub are_dealt : (ds : List TableDef) (hs : List TableValue) → shapes_of hs ≡ map shape_for ds → map dealing_of hs ≡ map (dealing_for n held) ds → AreCommitted hs → AreDealt n held ds hs
  are_dealt [] [] shapes dealing final = refl
  are_dealt [] (h ∷ hs) shapes dealing final = absurd (none_some _ _ (sym shapes))
  are_dealt (d ∷ ds) [] shapes dealing final = none_some _ _ shapes
  are_dealt (d ∷ ds) (h ∷ hs) shapes dealing final =
      let shape : shape_of h ≡ shape_for d = firsts _ _ _ _ shapes in
      let dealt : dealing_of h ≡ dealing_for n held d = firsts _ _ _ _ dealing in (
        record { key = ap (λ s. s.0) shape; limit = ap (λ s. s.1) shape; route = ap (λ r. r.0) dealt; parts = ap (λ r. r.1) dealt; settled = final.0 },
        are_dealt ds hs (rests _ _ _ _ shapes) (rests _ _ _ _ dealing) final.1,
      )

  pub shapes_are : (ds : List TableDef) (hs : List TableValue) → AreDealt n held ds hs → shapes_of hs ≡ map shape_for ds
  shapes_are [] hs a = ap shapes_of a
  shapes_are (d ∷ ds) [] a = absurd a
  shapes_are (d ∷ ds) (h ∷ hs) a = λ i. ((a.0).key i, (a.0).limit i) ∷ shapes_are ds hs a.1 i

  pub dealing_is : (ds : List TableDef) (hs : List TableValue) → AreDealt n held ds hs → map dealing_of hs ≡ map (dealing_for n held) ds
  dealing_is [] hs a = ap (map dealing_of) a
  dealing_is (d ∷ ds) [] a = absurd a
  dealing_is (d ∷ ds) (h ∷ hs) a = λ i. ((a.0).route i, (a.0).parts i) ∷ dealing_is ds hs a.1 i

  pub all_final : (ds : List TableDef) (hs : List TableValue) → AreDealt n held ds hs → AreCommitted hs
  all_final [] hs a = subst (λ (hs : List TableValue). AreCommitted hs) (sym a) tt
  all_final (d ∷ ds) [] a = absurd a
  all_final (d ∷ ds) (h ∷ hs) a = ((a.0).settled, all_final ds hs a.1)

no_dead : united (finite.empty {K = ℕ} {X = Row} {R = nat_cmp} ∷ finite.empty ∷ []) ≡ finite.empty {K = ℕ} {X = Row} {R = nat_cmp}
no_dead = finite.same_map nat_cmp_total nat_cmp-IsAntisymmetric _ _ (λ q.
    get_two nat_cmp_total (finite.empty {K = ℕ} {X = Row} {R = nat_cmp}) finite.empty q
    ∙ ap (λ o. option_or o (finite.get (finite.empty {K = ℕ} {X = Row} {R = nat_cmp}) q)) (finite.get-empty nat_cmp q))

-- ---- tables that are taken in

module _ (n : ℕ) (some : 1 ≤ n) (held : List ℕ) (p : ℕ) (fresh : is_among held p ≡ false) where
  may_take_in : (d : TableDef) (h g : TableValue) (m : Table) → IsDealtTable n held d h → IsDealtTable n (p ∷ []) d g → rows_by_key h.live ≡ cut_to n held (Some d) m → rows_by_key g.live ≡ cut_to n (p ∷ []) (Some d) m → MayTakeIn h g
  may_take_in d h g m own other rows others = record {
    key = other.key ∙ sym own.key;
    route = other.route ∙ sym own.route;
    part = (p, other.parts, ap (λ ps. place_among ps p) own.parts ∙ among_none held p fresh);
    home = (stands_at_home n d m held h own rows, stands_at_home n d m (p ∷ []) g other others);
    settled = (own.settled, other.settled);
  }

  pub may_take_in_all : (ds : List TableDef) (hs gs : List TableValue) (ms : List Table) → AreDealt n held ds hs → AreDealt n (p ∷ []) ds gs → tables_of hs ≡ cuts_to n held ds ms → tables_of gs ≡ cuts_to n (p ∷ []) ds ms → MayTakeInAll hs gs
  may_take_in_all [] hs gs ms own other rows others = subst (λ hs. MayTakeInAll hs gs) (sym own) other
  may_take_in_all (d ∷ ds) [] gs ms own other rows others = absurd own
  may_take_in_all (d ∷ ds) (h ∷ hs) [] ms own other rows others = absurd other
  may_take_in_all (d ∷ ds) (h ∷ hs) (g ∷ gs) [] own other rows others = absurd (none_some _ _ (sym rows))
  may_take_in_all (d ∷ ds) (h ∷ hs) (g ∷ gs) (m ∷ ms) own other rows others = (
    may_take_in d h g m own.0 other.0 (firsts _ _ _ _ rows) (firsts _ _ _ _ others),
    may_take_in_all ds hs gs ms own.1 other.1 (rests _ _ _ _ rows) (rests _ _ _ _ others),
  )

  pub taken_in : (ds : List TableDef) (hs gs : List TableValue) → AreDealt n held ds hs → AreDealt n (p ∷ []) ds gs → AreDealt n (held ++ p ∷ []) ds (with_tables hs gs)
  taken_in [] hs gs own other = ap (λ hs. with_tables hs gs) own
  taken_in (d ∷ ds) [] gs own other = absurd own
  taken_in (d ∷ ds) (h ∷ hs) [] own other = absurd other
  taken_in (d ∷ ds) (h ∷ hs) (g ∷ gs) own other = (
    record {
      key = (own.0).key;
      limit = (own.0).limit;
      route = (own.0).route;
      parts = λ i. (own.0).parts i ++ (other.0).parts i;
      settled = (λ i. united ((own.0).settled i ∷ (other.0).settled i ∷ [])) ∙ no_dead;
    },
    taken_in ds hs gs own.1 other.1,
  )

  pub rows_taken_in : (ds : List TableDef) (hs gs : List TableValue) (ms : List Table) → AreDealt n held ds hs → AreDealt n (p ∷ []) ds gs → tables_of hs ≡ cuts_to n held ds ms → tables_of gs ≡ cuts_to n (p ∷ []) ds ms
      → tables_of (with_tables hs gs) ≡ cuts_to n (held ++ p ∷ []) ds ms
  rows_taken_in [] hs gs [] own other rows others = ap (λ hs. tables_of (with_tables hs gs)) own
  rows_taken_in [] hs gs (m ∷ ms) own other rows others = absurd (none_some _ _ (sym (ap tables_of own) ∙ rows))
  rows_taken_in (d ∷ ds) [] gs ms own other rows others = absurd own
  rows_taken_in (d ∷ ds) (h ∷ hs) [] ms own other rows others = absurd other
  rows_taken_in (d ∷ ds) (h ∷ hs) (g ∷ gs) [] own other rows others = absurd (none_some _ _ (sym rows))
  rows_taken_in (d ∷ ds) (h ∷ hs) (g ∷ gs) (m ∷ ms) own other rows others =
      let first = rows_joined n d m held p h.live g.live (firsts _ _ _ _ rows) (firsts _ _ _ _ others) in
      let rest = rows_taken_in ds hs gs ms own.1 other.1 (rests _ _ _ _ rows) (rests _ _ _ _ others) in
      λ i. first i ∷ rest i

  -- what is left of those that were taken in
  pub shells_left : (ds : List TableDef) (gs : List TableValue) → AreDealt n (p ∷ []) ds gs → shells_of gs ≡ map (λ d. shell_of (empty_table n p d)) ds
  shells_left [] gs a = ap shells_of a
  shells_left (d ∷ ds) [] a = absurd a
  shells_left (d ∷ ds) (g ∷ gs) a =
      let first : shell_of g ≡ shell_of (empty_table n p d) = (λ i. record { key = []; limit = (a.0).limit i; live = finite.empty; dead = finite.empty; route = (a.0).route i; parts = (a.0).parts i }) in
      let rest = shells_left ds gs a.1 in
      λ i. first i ∷ rest i

-- ---- tables that are given back

module _ (n first : ℕ) (others : List ℕ) (p : ℕ) where
  may_give_back : (d : TableDef) (h shell : TableValue) → IsDealtTable n (first ∷ (others ++ p ∷ [])) d h → shell ≡ shell_of (empty_table n p d) → MayGiveBack h shell
  may_give_back d h shell own is = (
    record {
      first = first;
      rest = others;
      part = p;
      parts = own.parts;
      own = ap (λ (x : TableValue). x.parts) is;
      routes = ap (λ (x : TableValue). x.route) is ∙ sym own.route;
      empty = is ∙ sym (ap shell_of is);
    },
    own.settled,
  )

  pub may_give_back_all : (ds : List TableDef) (hs shells : List TableValue) → AreDealt n (first ∷ (others ++ p ∷ [])) ds hs → shells ≡ map (λ d. shell_of (empty_table n p d)) ds → MayGiveBackAll hs shells
  may_give_back_all [] hs shells own are = subst (λ hs. MayGiveBackAll hs shells) (sym own) are
  may_give_back_all (d ∷ ds) [] shells own are = absurd own
  may_give_back_all (d ∷ ds) (h ∷ hs) [] own are = absurd (none_some _ _ are)
  may_give_back_all (d ∷ ds) (h ∷ hs) (k ∷ ks) own are = (may_give_back d h k own.0 (firsts _ _ _ _ are), may_give_back_all ds hs ks own.1 (rests _ _ _ _ are))

module _ (n : ℕ) (held : List ℕ) (p : ℕ) where
  given_back : (d : TableDef) (old shell new last : TableValue) → IsDealtTable n (held ++ p ∷ []) d old → shell ≡ shell_of (empty_table n p d) → WasGivenBack old shell new last → IsDealtTable n held d new × IsDealtTable n (p ∷ []) d last
  given_back d old shell new last own is given =
      let released = given.released in
      let one = released.one in
      let ends = ends_alike new.parts held one.0 p (sym (ap (λ ps. new.parts ++ ps) one.1) ∙ sym released.parts ∙ own.parts) in
      let none : united (new.dead ∷ last.dead ∷ []) ≡ finite.empty = sym (ap (λ (x : TableValue). x.dead) released.joined) ∙ own.settled in
      let at_none : (q : ℕ) → option_or (finite.get new.dead q) (finite.get last.dead q) ≡ None = λ q. sym (get_two nat_cmp_total new.dead last.dead q) ∙ ap (λ (m : DeadRows). finite.get m q) none ∙ finite.get-empty nat_cmp q in (
        record {
          key = released.keys.1 ∙ own.key;
          limit = given.limit ∙ own.limit;
          route = sym (ap (λ (x : TableValue). x.route) released.joined) ∙ own.route;
          parts = ends.0;
          settled = finite.same_map nat_cmp_total nat_cmp-IsAntisymmetric _ _ (λ q. none_left (finite.get new.dead q) (finite.get last.dead q) (at_none q) ∙ sym (finite.get-empty nat_cmp q));
        },
        record {
          key = released.keys.0 ∙ own.key;
          limit = given.last_limit ∙ ap (λ (x : TableValue). x.limit) is;
          route = released.routes ∙ own.route;
          parts = one.1 ∙ ap (λ q. q ∷ []) ends.1;
          settled = finite.same_map nat_cmp_total nat_cmp-IsAntisymmetric _ _ (λ q. none_right (finite.get new.dead q) (finite.get last.dead q) (at_none q) ∙ sym (finite.get-empty nat_cmp q));
        },
      )

  pub all_given_back : (ds : List TableDef) (olds shells news lasts : List TableValue) → AreDealt n (held ++ p ∷ []) ds olds → shells ≡ map (λ d. shell_of (empty_table n p d)) ds → WereGivenBack olds shells news lasts
      → AreDealt n held ds news × AreDealt n (p ∷ []) ds lasts
  all_given_back [] olds shells news lasts own are given = subst (λ olds. WereGivenBack olds shells news lasts) own given
  all_given_back (d ∷ ds) [] shells news lasts own are given = absurd own
  all_given_back (d ∷ ds) (o ∷ os) [] news lasts own are given = absurd given
  all_given_back (d ∷ ds) (o ∷ os) (k ∷ ks) [] lasts own are given = absurd given
  all_given_back (d ∷ ds) (o ∷ os) (k ∷ ks) (h ∷ hs) [] own are given = absurd given
  all_given_back (d ∷ ds) (o ∷ os) (k ∷ ks) (h ∷ hs) (l ∷ ls) own are given =
      let here = given_back d o k h l own.0 (firsts _ _ _ _ are) given.0 in
      let rest = all_given_back ds os ks hs ls own.1 (rests _ _ _ _ are) given.1 in
      ((here.0, rest.0), (here.1, rest.1))

  module _ (some : 1 ≤ length held) (fresh : is_among held p ≡ false) where
    rows_given_back : (d : TableDef) (m : Table) (old shell new last : TableValue) → IsDealtTable n (held ++ p ∷ []) d old → IsDealtTable n held d new → WasGivenBack old shell new last → rows_by_key old.live ≡ cut_to n (held ++ p ∷ []) (Some d) m
        → (rows_by_key new.live ≡ cut_to n held (Some d) m) × (rows_by_key last.live ≡ cut_to n (p ∷ []) (Some d) m)
    rows_given_back d m old shell new last own kept given rows =
        let at = ap length kept.parts in (
          ap rows_by_key ((given.released).others ∙ ap (live_elsewhere old) at) ∙ rows_kept n d m held p some fresh old own rows,
          ap rows_by_key ((given.released).live ∙ ap (live_of_place old) at) ∙ rows_last n d m held p some fresh old own rows,
        )

    pub all_rows_given_back : (ds : List TableDef) (ms : List Table) (olds shells news lasts : List TableValue) → AreDealt n (held ++ p ∷ []) ds olds → AreDealt n held ds news → WereGivenBack olds shells news lasts → tables_of olds ≡ cuts_to n (held ++ p ∷ []) ds ms
        → (tables_of news ≡ cuts_to n held ds ms) × (tables_of lasts ≡ cuts_to n (p ∷ []) ds ms)
    all_rows_given_back [] [] olds shells news lasts own kept given rows =
        let none = subst (λ olds. WereGivenBack olds shells news lasts) own given in
        (ap tables_of none.0, ap tables_of none.1)
    all_rows_given_back [] (m ∷ ms) olds shells news lasts own kept given rows = absurd (none_some _ _ (sym (ap tables_of own) ∙ rows))
    all_rows_given_back (d ∷ ds) ms [] shells news lasts own kept given rows = absurd own
    all_rows_given_back (d ∷ ds) ms (o ∷ os) [] news lasts own kept given rows = absurd given
    all_rows_given_back (d ∷ ds) ms (o ∷ os) (k ∷ ks) [] lasts own kept given rows = absurd given
    all_rows_given_back (d ∷ ds) ms (o ∷ os) (k ∷ ks) (h ∷ hs) [] own kept given rows = absurd given
    all_rows_given_back (d ∷ ds) [] (o ∷ os) (k ∷ ks) (h ∷ hs) (l ∷ ls) own kept given rows = absurd (none_some _ _ (sym rows))
    all_rows_given_back (d ∷ ds) (m ∷ ms) (o ∷ os) (k ∷ ks) (h ∷ hs) (l ∷ ls) own kept given rows =
        let here = rows_given_back d m o k h l own.0 kept.0 given.0 (firsts _ _ _ _ rows) in
        let rest = all_rows_given_back ds ms os ks hs ls own.1 kept.1 given.1 (rests _ _ _ _ rows) in
        ((λ i. here.0 i ∷ rest.0 i), (λ i. here.1 i ∷ rest.1 i))
