-- The indexes of a table that comes apart.
use Rattle.std.proofs.Common.{◌≡◌, ℕ, ◌+◌, ◌==◌, not, true, false, cond, List, [], ◌∷◌, ◌++◌, length, refl, sym, ap, subst, ◌∙◌, Some, None, arith}
use Rattle.std.specs.FinMap as finite
use Rattle.std.proofs.lemmas.Bool.{eqb-true}
use Rattle.ss_lemmas.proofs.Bools.{some_same}
use Rattle.ss_lemmas.proofs.Ends.{ends_alike}
use Rattle.ss_value.specs.Rows.{Row}
use Rattle.ss_table.specs.TableValue.{TableValue as Table, LiveRows}
use Rattle.ss_table.specs.Unions.{united}
use Rattle.ss_table.specs.Routes.{part_of as part_of_key, place_among, place_of}
use Rattle.ss_table.specs.Parts.{AreApart}
use Rattle.ss_table.specs.Joins.{IsSettled, IsLentBy, WasReleased}
use Rattle.ss_table.specs.Placed.{ArePlaced}
use Rattle.ss_table.proofs.CallerLemmas.{at_end, last_at, same_itself}
use Rattle.ss_index.specs.Pairs.{Pair, Pairs, IndexValue}
use Rattle.ss_index.specs.Entries.{pairs_in}
use Rattle.ss_index.specs.Parts.{part_of, pairs_of, pairs_beside, IsLastShell, WasParted}
use Rattle.ss_index.specs.Indexes.{AreLastShells, WereParted}
use Rattle.ss_index.proofs.CallerLemmas.{kept_pairs, occurs}
use Rattle.ss_undo.specs.Holding.{live_pairs, Holds, HoldAll}
use Rattle.ss_undo.specs.Indexed.{Group, columns_in}
use Rattle.ss_undo.proofs.CallerLemmas.{nothing_kept}
use Rattle.ss_shard.specs.Joins.{MayGiveBack}
use Rattle.ss_shard.proofs.Occurring.{both_live, none_live, only_live, first_settled, second_settled}
use Rattle.ss_shard.proofs.Apart.{some_missing, get_kept}
use Rattle.ss_shard.proofs.JoinedPairs.{live_held, same_columns, other_columns}

module _ (h shell : Table) (may : MayGiveBack h shell) where
  lent : IsLentBy h shell
  lent = may.0

  is_last : (i k : IndexValue) → Holds h [] i → Holds shell [] k → k.columns ≡ i.columns → IsLastShell i k
  is_last i k here there alike =
      let live : shell.live ≡ finite.empty = ap (λ (x : Table). x.live) lent.empty in
      let dead : shell.dead ≡ finite.empty = ap (λ (x : Table). x.dead) lent.empty in
      let none : k.pairs ≡ finite.empty = there.pairs ∙ ap pairs_in (nothing_kept k.columns shell live dead) in
      record {
        first = lent.first;
        middle = lent.rest;
        last = lent.part;
        parts = here.parts ∙ lent.parts;
        emptied = (λ j. record { columns = alike j; pairs = none j; parts = (there.parts ∙ lent.own) j });
      }

  -- the indexes of the shell are the shells of the table's
  pub are_last : (is ks : Group) → HoldAll h [] is → HoldAll shell [] ks → columns_in ks ≡ columns_in is → AreLastShells is ks
  are_last [] [] here there alike = refl
  are_last [] (k ∷ ks) here there alike = cc
  are_last (i ∷ is) [] here there alike = cc
  are_last (i ∷ is) (k ∷ ks) here there alike = (
    is_last i k here.0 there.0 (same_columns i k is ks alike),
    are_last is ks here.1 there.1 (other_columns i k is ks alike),
  )

  module _ (placed : ArePlaced h) (new last : Table) (was : WasReleased h new last) (own : last.parts ≡ shell.parts) where
    abbrev part : ℕ
    part = lent.part

    abbrev home : Row → ℕ
    home k = place_of h.parts (part_of_key h.route k)

    last_parts : last.parts ≡ part ∷ []
    last_parts = own ∙ lent.own

    parts_are : h.parts ≡ new.parts ++ part ∷ []
    parts_are = was.parts ∙ ap (λ ps. new.parts ++ ps) last_parts

    -- the last part stands at the end
    end : place_among h.parts part ≡ Some (length new.parts)
    end = last_at 0 h.parts new.parts part (subst (λ ps. AreApart 0 h.parts ps) parts_are placed.apart) ∙ ap Some (omega arith)

    -- a row's slot is of the last part where its key is at home there, and else of another
    slot_in : (k : Row) (slot : ℕ) (row : Row) → finite.get h.live k ≡ Some (slot, row) → (home k == length new.parts) ≡ true → part_of slot ≡ part
    slot_in k slot row e t =
        let at : place_among h.parts (part_of slot) ≡ Some (length new.parts) = placed.slots k slot row e ∙ ap Some (eqb-true (home k) (length new.parts) t) in
        at_end new.parts part (part_of slot) (ap (λ ps. place_among ps (part_of slot)) (sym parts_are) ∙ at)

    slot_out : (k : Row) (slot : ℕ) (row : Row) → finite.get h.live k ≡ Some (slot, row) → (home k == length new.parts) ≡ false → (part_of slot == part) ≡ true → ⊥
    slot_out k slot row e f t =
        let at : home k ≡ length new.parts = some_same _ _ (sym (placed.slots k slot row e) ∙ ap (place_among h.parts) (eqb-true (part_of slot) part t) ∙ end) in
        let no : true ≡ false = sym (same_itself (length new.parts)) ∙ ap (λ a. a == length new.parts) (sym at) ∙ f in cc

    new_at : (k : Row) → finite.get new.live k ≡ cond (not (home k == length new.parts)) (finite.get h.live k) None
    new_at k = ap (λ (m : LiveRows). finite.get m k) was.others ∙ get_kept h.live (λ q. not (home q == length new.parts)) k

    last_at_key : (k : Row) → finite.get last.live k ≡ cond (home k == length new.parts) (finite.get h.live k) None
    last_at_key k = ap (λ (m : LiveRows). finite.get m k) was.live ∙ get_kept h.live (λ q. home q == length new.parts) k

    no_key_twice : (k : Row) (v : ℕ × Row) → finite.get new.live k ≡ Some v → finite.get last.live k ≡ None
    no_key_twice k v e = elim (home k == length new.parts) as (λ b. finite.get new.live k ≡ cond (not b) (finite.get h.live k) None → finite.get last.live k ≡ cond b (finite.get h.live k) None → finite.get last.live k ≡ None) [
      | true ↦ λ a l. absurd (some_missing v (sym a ∙ e))
      | false ↦ λ a l. l
    ] (new_at k) (last_at_key k)

    -- a row that stays has no slot of the last part, and one that goes has
    none_new : (k : Row) (slot : ℕ) (row : Row) → finite.get new.live k ≡ Some (slot, row) → (part_of slot == part) ≡ true → ⊥
    none_new k slot row e t = elim (home k == length new.parts) as (λ b. (home k == length new.parts) ≡ b → cond (not b) (finite.get h.live k) None ≡ Some (slot, row) → ⊥) [
      | true ↦ λ u is. some_missing (slot, row) is
      | false ↦ λ u is. slot_out k slot row is u t
    ] refl (sym (new_at k) ∙ e)

    none_last : (k : Row) (slot : ℕ) (row : Row) → finite.get last.live k ≡ Some (slot, row) → (part_of slot == part) ≡ false → ⊥
    none_last k slot row e f = elim (home k == length new.parts) as (λ b. (home k == length new.parts) ≡ b → cond b (finite.get h.live k) None ≡ Some (slot, row) → ⊥) [
      | true ↦ λ u is. let no : true ≡ false = sym (same_itself part) ∙ ap (λ a. a == part) (sym (slot_in k slot row is u)) ∙ f in cc
      | false ↦ λ u is. some_missing (slot, row) is
    ] refl (sym (last_at_key k) ∙ e)

    none_dead : united (new.dead ∷ last.dead ∷ []) ≡ finite.empty
    none_dead = sym (ap (λ (x : Table). x.dead) was.joined) ∙ may.1

    new_settled : IsSettled new
    new_settled = first_settled new.dead last.dead none_dead

    last_settled : IsSettled last
    last_settled = second_settled new.dead last.dead none_dead

    module _ (c : List ℕ) (q : Pair) where
      all_occur : occurs q (live_pairs c h.live) ≡ occurs q (live_pairs c new.live) + occurs q (live_pairs c last.live)
      all_occur = ap (λ (x : Table). occurs q (live_pairs c x.live)) was.joined ∙ both_live c q new.live last.live no_key_twice

      new_occur : occurs q (live_pairs c new.live) ≡ cond (not (part_of q.1 == part)) (occurs q (live_pairs c h.live)) 0
      new_occur = elim (part_of q.1 == part) as (λ b. (part_of q.1 == part) ≡ b → occurs q (live_pairs c new.live) ≡ cond (not b) (occurs q (live_pairs c h.live)) 0) [
        | true ↦ λ t. none_live c q new.live (λ k row e. none_new k q.1 row e t)
        | false ↦ λ t.
            let none : occurs q (live_pairs c last.live) ≡ 0 = none_live c q last.live (λ k row e. none_last k q.1 row e t) in
            let all = all_occur in
            omega (arith, none, all)
      ] refl

      last_occur : occurs q (live_pairs c last.live) ≡ cond (part_of q.1 == part) (occurs q (live_pairs c h.live)) 0
      last_occur = elim (part_of q.1 == part) as (λ b. (part_of q.1 == part) ≡ b → occurs q (live_pairs c last.live) ≡ cond b (occurs q (live_pairs c h.live)) 0) [
        | true ↦ λ t.
            let none : occurs q (live_pairs c new.live) ≡ 0 = none_live c q new.live (λ k row e. none_new k q.1 row e t) in
            let all = all_occur in
            omega (arith, none, all)
        | false ↦ λ t. none_live c q last.live (λ k row e. none_last k q.1 row e t)
      ] refl

    abbrev index_with : List ℕ → Pairs → List ℕ → IndexValue
    index_with columns pairs parts = record { columns = columns; pairs = pairs; parts = parts }

    holds_parted : (i now back : IndexValue) → Holds h [] i → WasParted i now back → Holds new [] now × Holds last [] back
    holds_parted i now back held went =
        let c : List ℕ = i.columns in
        let ends = ends_alike now.parts new.parts went.last part (sym went.parts ∙ held.parts ∙ parts_are) in
        let all : i.pairs ≡ pairs_in (live_pairs c h.live) = live_held h may.1 i held in
        let beside : pairs_beside went.last i.pairs ≡ pairs_in (live_pairs c new.live) =
        (λ j. pairs_beside (ends.1 j) (all j)) ∙ sym (kept_pairs (live_pairs c h.live) (live_pairs c new.live) (λ p. not (part_of p.1 == part)) (new_occur c)) in
        let given : pairs_of went.last i.pairs ≡ pairs_in (live_pairs c last.live) =
        (λ j. pairs_of (ends.1 j) (all j)) ∙ sym (kept_pairs (live_pairs c h.live) (live_pairs c last.live) (λ p. part_of p.1 == part) (last_occur c)) in (
          subst (Holds new []) (sym went.rest) (record { pairs = beside ∙ ap pairs_in (sym (only_live c new new_settled)); parts = ends.0 }),
          subst (Holds last []) (sym went.given) (record { pairs = given ∙ ap pairs_in (sym (only_live c last last_settled)); parts = ap (λ p. p ∷ []) ends.1 ∙ sym last_parts }),
        )

    -- the indexes that come apart hold the pairs of the tables that do
    pub hold_parted : (is now back : Group) → HoldAll h [] is → WereParted is now back → HoldAll new [] now × HoldAll last [] back
    hold_parted [] now back held went = (subst (HoldAll new []) (sym went.0) tt, subst (HoldAll last []) (sym went.1) tt)
    hold_parted (i ∷ is) [] back held went = absurd went
    hold_parted (i ∷ is) (n ∷ now) [] held went = absurd went
    hold_parted (i ∷ is) (n ∷ now) (b ∷ back) held went =
        let one = holds_parted i n b held.0 went.0 in
        let rest = hold_parted is now back held.1 went.1 in
        ((one.0, rest.0), (one.1, rest.1))

-- they stay on their columns
pub columns_parted : (is now back : Group) → WereParted is now back → (columns_in now ≡ columns_in is) × (columns_in back ≡ columns_in is)
columns_parted [] now back went = (ap columns_in went.0, ap columns_in went.1)
columns_parted (i ∷ is) [] back went = absurd went
columns_parted (i ∷ is) (n ∷ now) [] went = absurd went
columns_parted (i ∷ is) (n ∷ now) (b ∷ back) went =
    let rest = columns_parted is now back went.1 in (
      (λ j. (went.0.rest j).columns ∷ rest.0 j),
      (λ j. (went.0.given j).columns ∷ rest.1 j),
    )
