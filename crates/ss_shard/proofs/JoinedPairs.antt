-- The indexes of two tables together.
use Rattle.std.proofs.Common.{◌≡◌, ℕ, true, false, List, [], ◌∷◌, ◌++◌, refl, sym, ap, ◌∙◌}
use Rattle.std.specs.Prelude.{is_some}
use Rattle.std.specs.List.{AllByRecursion}
use Rattle.std.specs.FinMap as finite
use Rattle.ss_table.specs.TableValue.{TableValue as Table}
use Rattle.ss_table.specs.Unions.{united}
use Rattle.ss_table.specs.Routes.{place_among}
use Rattle.ss_table.specs.Joins.{IsSettled, with_table, shell_of}
use Rattle.ss_table.specs.Placed.{ArePlaced}
use Rattle.ss_index.specs.Pairs.{Pairs, IndexValue}
use Rattle.ss_index.specs.Entries.{pairs_in}
use Rattle.ss_index.specs.Parts.{part_of, holds, both_pairs, StandAtHome, MayJoin, joined}
use Rattle.ss_index.specs.Indexes.{MayJoinAll, joined_all, shells}
use Rattle.ss_index.proofs.CallerLemmas.{occurs_append, pairs_append, same_pairs, stands_nowhere}
use Rattle.ss_undo.specs.Holding.{live_pairs, Holds, HasNone, HoldAll}
use Rattle.ss_undo.specs.Indexed.{Group, columns_in}
use Rattle.ss_undo.proofs.CallerLemmas.{hold_at_first}
use Rattle.ss_shard.specs.Joins.{MayTakeIn}
use Rattle.ss_shard.proofs.Occurring.{both_live, none_live, only_live}
use Rattle.ss_shard.proofs.Placing.{held_as}
use Rattle.ss_shard.proofs.Apart.{no_key_twice, still_settled}

pub same_columns : (i k : IndexValue) (is ks : Group) → columns_in (k ∷ ks) ≡ columns_in (i ∷ is) → k.columns ≡ i.columns
same_columns i k is ks e = cc

pub other_columns : (i k : IndexValue) (is ks : Group) → columns_in (k ∷ ks) ≡ columns_in (i ∷ is) → columns_in ks ≡ columns_in is
other_columns i k is ks e = cc

-- what an index holds of a table of which no row is dead
pub live_held : (h : Table) → IsSettled h → (i : IndexValue) → Holds h [] i → i.pairs ≡ pairs_in (live_pairs i.columns h.live)
live_held h settled i held = held.pairs ∙ ap pairs_in (only_live i.columns h settled)

-- its pairs are all at home
at_home : (h : Table) → ArePlaced h → IsSettled h → (i : IndexValue) → Holds h [] i → StandAtHome i
at_home h placed settled i held p out =
    ap (λ (m : Pairs). finite.get m p) (live_held h settled i held)
    ∙ stands_nowhere (live_pairs i.columns h.live) p (none_live i.columns p h.live (λ k row e.
    let there : is_some (place_among h.parts (part_of p.1)) ≡ true = ap is_some (placed.slots k p.1 row e) in
    let no : true ≡ false = sym there ∙ sym (held_as h.parts (part_of p.1)) ∙ sym (ap (λ ps. holds ps (part_of p.1)) held.parts) ∙ out in cc))

module _ (h g : Table) (may : MayTakeIn h g) where
  module _ (placed : ArePlaced h) (also : ArePlaced g) where
    may_join : (i k : IndexValue) → Holds h [] i → Holds g [] k → k.columns ≡ i.columns → MayJoin i k
    may_join i k here there alike = record {
      columns = alike;
      part = (may.part).0;
      alone = there.parts ∙ (may.part).1;
      fresh = ap (λ ps. holds ps (may.part).0) here.parts ∙ held_as h.parts (may.part).0 ∙ ap is_some (may.part).2;
      home = at_home h placed (may.settled).0 i here;
      other_home = at_home g also (may.settled).1 k there;
    }

    pub may_join_all : (is ks : Group) → HoldAll h [] is → HoldAll g [] ks → columns_in ks ≡ columns_in is → MayJoinAll is ks
    may_join_all [] [] here there alike = refl
    may_join_all [] (k ∷ ks) here there alike = cc
    may_join_all (i ∷ is) [] here there alike = cc
    may_join_all (i ∷ is) (k ∷ ks) here there alike = (
      may_join i k here.0 there.0 (same_columns i k is ks alike),
      may_join_all is ks here.1 there.1 (other_columns i k is ks alike),
    )

  holds_both : (i k : IndexValue) → Holds h [] i → Holds g [] k → k.columns ≡ i.columns → Holds (with_table h g) [] (joined i k)
  holds_both i k here there alike =
      let c : List ℕ = i.columns in
      let mine : i.pairs ≡ pairs_in (live_pairs c h.live) = live_held h (may.settled).0 i here in
      let others : k.pairs ≡ pairs_in (live_pairs c g.live) = live_held g (may.settled).1 k there ∙ ap (λ cs. pairs_in (live_pairs cs g.live)) alike in
      record {
        pairs = (λ j. both_pairs (mine j) (others j))
            ∙ sym (pairs_append (live_pairs c h.live) (live_pairs c g.live))
            ∙ same_pairs (live_pairs c h.live ++ live_pairs c g.live) (live_pairs c (united (h.live ∷ g.live ∷ []))) (λ q.
            occurs_append q (live_pairs c h.live) (live_pairs c g.live) ∙ sym (both_live c q h.live g.live (no_key_twice h g may)))
            ∙ ap pairs_in (sym (only_live c (with_table h g) (still_settled h g may)));
        parts = (λ j. here.parts j ++ there.parts j);
      }

  -- the indexes together hold the pairs of the tables together
  pub hold_both : (is ks : Group) → HoldAll h [] is → HoldAll g [] ks → columns_in ks ≡ columns_in is → HoldAll (with_table h g) [] (joined_all is ks)
  hold_both [] ks here there alike = tt
  hold_both (i ∷ is) [] here there alike = cc
  hold_both (i ∷ is) (k ∷ ks) here there alike = (
    holds_both i k here.0 there.0 (same_columns i k is ks alike),
    hold_both is ks here.1 there.1 (other_columns i k is ks alike),
  )

pub columns_joined : (is ks : Group) → columns_in (joined_all is ks) ≡ columns_in is
columns_joined [] ks = refl
columns_joined (i ∷ is) [] = refl
columns_joined (i ∷ is) (k ∷ ks) = ap (λ cs. i.columns ∷ cs) (columns_joined is ks)

-- and what is left holds the pairs of what is left
pub columns_left : (ks : Group) → columns_in (shells ks) ≡ columns_in ks
columns_left [] = refl
columns_left (k ∷ ks) = ap (λ cs. k.columns ∷ cs) (columns_left ks)

pub hold_left : (g : Table) (ks : Group) → HoldAll g [] ks → HoldAll (shell_of g) [] (shells ks)
hold_left g ks held = hold_at_first (shell_of g) (shells ks) refl refl (none_left ks held)
  where
    none_left : (ks : Group) → HoldAll g [] ks → AllByRecursion (HasNone g.parts) (shells ks)
    none_left [] held = tt
    none_left (k ∷ ks) held = ((refl, (held.0).parts), none_left ks held.1)
