-- Shards whose windows, counts and next numbers of one home change places: what they hold then.
use Rattle.std.proofs.Common.{◌≡◌, ◌∙◌, ◌==◌, ◌||◌, ℕ, Bool, true, false, cond, List, [], ◌∷◌, ◌++◌, map, length, refl, sym, ap, subst}
use Rattle.std.specs.FinMap as finite
use Rattle.std.proofs.lemmas.List.Folds.{list_any-append}
use Rattle.ss_lemmas.proofs.Numbers.{eqb_is, eqb_turned}
use Rattle.ss_model.specs.declared.catalog.Catalog.{Catalog}
use Rattle.ss_model.specs.Results.{map_indexed}
use Rattle.ss_model.specs.Contents.{Window}
use Rattle.ss_model.specs.Database.{Database, NextNumbers}
use Rattle.ss_model.specs.parts.HeldParts.{elsewhere_blank}
use Rattle.ss_model.specs.Partitions.{window_partition, home_of, home_partition, border_procedure}
use Rattle.ss_model_kept.proofs.CallerLemmas.{length-map_index}
use Rattle.ss_shard.specs.Exchanges.{exchanged}
use Rattle.ss_shard.specs.ShardValue.{ShardValue}
use Rattle.ss_shard.specs.Sources.{number_of, numbers_at, SameNumbers}
use Rattle.ss_shard.specs.Windows.{kept_part, kept_of}
use Rattle.ss_shard.specs.Parts.{is_among, HoldsParts, HoldsAtHome, HoldsBodies, HoldsRows, with_homes}
use Rattle.ss_shard.proofs.Exchanged.{chosen, length_exchanged, get_exchanged, map_exchanged, indexed_exchanged, indexed_twice}

-- ---- which partitions are held then

or_nothing : (b : Bool) → (b || false) ≡ b
or_nothing true = refl
or_nothing false = refl

or_chosen : (x b : Bool) → (x || b) ≡ cond b b x
or_chosen true true = refl
or_chosen true false = refl
or_chosen false true = refl
or_chosen false false = refl

is_own : (p q : ℕ) → is_among (p ∷ []) q ≡ (q == p)
is_own p q = or_nothing (p == q) ∙ eqb_turned p q

-- those of both
is_of_both : (held : List ℕ) (p q : ℕ) → is_among (held ++ p ∷ []) q ≡ cond (q == p) (q == p) (is_among held q)
is_of_both held p q = list_any-append (λ k. k == q) held (p ∷ []) ∙ ap (λ b. is_among held q || b) (is_own p q) ∙ or_chosen (is_among held q) (q == p)

joined_held : (held : List ℕ) (p q : ℕ) → is_among (held ++ p ∷ []) q ≡ cond (q == p) (is_among (p ∷ []) q) (is_among held q)
joined_held held p q = is_of_both held p q ∙ ap (λ b. cond (q == p) b (is_among held q)) (sym (is_own p q))

not_held : (held : List ℕ) (p q : ℕ) → is_among held p ≡ false → (q == p) ≡ true → is_among held q ≡ false
not_held held p q fresh is = ap (is_among held) (eqb_is q p is) ∙ fresh

lent_held : (held : List ℕ) (p : ℕ) → is_among held p ≡ false → (q : ℕ) → false ≡ cond (q == p) (is_among held q) (is_among (p ∷ []) q)
lent_held held p fresh q = by (q == p) refl
  where
    by : (b : Bool) → (q == p) ≡ b → false ≡ cond b (is_among held q) (is_among (p ∷ []) q)
    by true is = sym (not_held held p q fresh is)
    by false is = sym (is_own p q ∙ is)

kept_held : (held : List ℕ) (p : ℕ) → is_among held p ≡ false → (q : ℕ) → is_among held q ≡ cond (q == p) false (is_among (held ++ p ∷ []) q)
kept_held held p fresh q = by (q == p) refl
  where
    by : (b : Bool) → (q == p) ≡ b → is_among held q ≡ cond b false (is_among (held ++ p ∷ []) q)
    by true is = not_held held p q fresh is
    by false is = sym (is_of_both held p q ∙ ap (λ b. cond b b (is_among held q)) is)

given_held : (held : List ℕ) (p q : ℕ) → is_among (p ∷ []) q ≡ cond (q == p) (is_among (held ++ p ∷ []) q) false
given_held held p q = is_own p q ∙ by (q == p) refl
  where
    by : (b : Bool) → (q == p) ≡ b → b ≡ cond b (is_among (held ++ p ∷ []) q) false
    by true is = sym (is_of_both held p q ∙ ap (λ b. cond b b (is_among held q)) is)
    by false is = refl

-- ---- what they hold then

same_exchanged : (at : ℕ → Bool) (ms ns ls bs : List NextNumbers) → SameNumbers ms ls → SameNumbers ns bs → length ns ≡ length ms → SameNumbers (exchanged at ms ns) (exchanged at ls bs)
same_exchanged at ms ns ls bs f g alike =
    let found : length bs ≡ length ls = g.streams ∙ alike ∙ sym f.streams in
    record {
      streams = length_exchanged at ls bs ∙ f.streams ∙ sym (length_exchanged at ms ns);
      numbers = λ s source.
          let of_source : NextNumbers → ℕ = λ (n : NextNumbers). number_of n source in
          ap of_source (get_exchanged at ls bs s finite.empty found)
          ∙ chosen of_source (at s) (numbers_at bs s) (numbers_at ls s)
          ∙ (λ i. cond (at s) (g.numbers s source i) (f.numbers s source i))
          ∙ sym (chosen of_source (at s) (numbers_at ns s) (numbers_at ms s))
          ∙ sym (ap of_source (get_exchanged at ms ns s finite.empty alike));
    }

module _ (catalog : Catalog) (n p : ℕ) (a b : ShardValue) (db : Database) where
  -- a shard of these partitions takes what is at home on one from a shard of those
  module _ (own others now : List ℕ) (tests : (q : ℕ) → is_among now q ≡ cond (q == p) (is_among others q) (is_among own q)) (holds : HoldsAtHome catalog n own a db) (lends : HoldsAtHome catalog n others b db) where
    abbrev kept_by : List ℕ → ℕ → Window → ℕ × Window
    kept_by held w us = kept_of catalog w (cond (is_among held (window_partition catalog n w)) us [])

    abbrev counted_by : List ℕ → ℕ → ℕ → ℕ
    counted_by held q c = cond (is_among held (home_of catalog n q)) c 0

    abbrev numbered_by : List ℕ → ℕ → NextNumbers → NextNumbers
    numbered_by held s m = cond (is_among held (home_partition n (border_procedure catalog s))) m finite.empty

    windows_so : map kept_part (with_homes catalog n p a b).windows ≡ map_indexed (kept_by now) db.contents.windows
    windows_so =
        let at : ℕ → Bool = λ (w : ℕ). window_partition catalog n w == p in
        let mine : map kept_part a.windows ≡ map_indexed (kept_by own) db.contents.windows = holds.windows ∙ indexed_twice (kept_of catalog) _ db.contents.windows in
        let theirs : map kept_part b.windows ≡ map_indexed (kept_by others) db.contents.windows = lends.windows ∙ indexed_twice (kept_of catalog) _ db.contents.windows in
        map_exchanged kept_part at a.windows b.windows
        ∙ (λ i. exchanged at (mine i) (theirs i))
        ∙ indexed_exchanged at (kept_by own) (kept_by others) (kept_by now) db.contents.windows
        (λ w us.
        let keep : Bool → ℕ × Window = λ (b : Bool). kept_of catalog w (cond b us []) in
        ap keep (tests (window_partition catalog n w)) ∙ chosen keep (window_partition catalog n w == p) _ _)

    counts_so : (with_homes catalog n p a b).cursors ≡ map_indexed (counted_by now) db.counts
    counts_so =
        let at : ℕ → Bool = λ (q : ℕ). home_of catalog n q == p in
        (λ i. exchanged at (holds.counts i) (lends.counts i))
        ∙ indexed_exchanged at (counted_by own) (counted_by others) (counted_by now) db.counts
        (λ q c.
        let count : Bool → ℕ = λ (b : Bool). cond b c 0 in
        ap count (tests (home_of catalog n q)) ∙ chosen count (home_of catalog n q == p) _ _)

    numbers_so : SameNumbers (map_indexed (numbered_by now) db.next_numbers) (with_homes catalog n p a b).sources
    numbers_so =
        let at : ℕ → Bool = λ (s : ℕ). home_partition n (border_procedure catalog s) == p in
        subst (λ (ms : List NextNumbers). SameNumbers ms (exchanged at a.sources b.sources))
        (indexed_exchanged at (numbered_by own) (numbered_by others) (numbered_by now) db.next_numbers
        (λ s m.
        let number : Bool → NextNumbers = λ (b : Bool). cond b m finite.empty in
        ap number (tests (home_partition n (border_procedure catalog s))) ∙ chosen number (home_partition n (border_procedure catalog s) == p) _ _))
        (same_exchanged at (map_indexed (numbered_by own) db.next_numbers) (map_indexed (numbered_by others) db.next_numbers) a.sources b.sources holds.numbers lends.numbers
        (length-map_index (numbered_by others) db.next_numbers ∙ sym (length-map_index (numbered_by own) db.next_numbers)))

    homes_exchanged : HoldsAtHome catalog n now (with_homes catalog n p a b) db
    homes_exchanged = record { windows = windows_so ∙ sym (indexed_twice (kept_of catalog) _ db.contents.windows); counts = counts_so; numbers = numbers_so }

  -- a shard that takes in another's part holds both
  pub homes_joined : (held : List ℕ) → HoldsAtHome catalog n held a db → HoldsAtHome catalog n (p ∷ []) b db → HoldsAtHome catalog n (held ++ p ∷ []) (with_homes catalog n p a b) db
  homes_joined held holds lends = homes_exchanged held (p ∷ []) (held ++ p ∷ []) (joined_held held p) holds lends

  -- of the other there are blanks left
  pub homes_lent : (held : List ℕ) → is_among held p ≡ false → HoldsAtHome catalog n (p ∷ []) a db → HoldsAtHome catalog n held b db → HoldsAtHome catalog n [] (with_homes catalog n p a b) db
  homes_lent held fresh lends holds = homes_exchanged (p ∷ []) held [] (lent_held held p fresh) lends holds

  -- a shard that gives a part back for blanks keeps its own
  pub homes_kept : (held : List ℕ) → is_among held p ≡ false → HoldsAtHome catalog n (held ++ p ∷ []) a db → HoldsAtHome catalog n [] b db → HoldsAtHome catalog n held (with_homes catalog n p a b) db
  homes_kept held fresh holds blank = homes_exchanged (held ++ p ∷ []) [] held (kept_held held p fresh) holds blank

  -- and the other holds its part
  pub homes_given : (held : List ℕ) → HoldsAtHome catalog n [] a db → HoldsAtHome catalog n (held ++ p ∷ []) b db → HoldsAtHome catalog n (p ∷ []) (with_homes catalog n p a b) db
  homes_given held blank holds = homes_exchanged [] (held ++ p ∷ []) (p ∷ []) (given_held held p) blank holds

-- ---- among all that a shard holds

module _ (catalog : Catalog) (n : ℕ) (held : List ℕ) (shard : ShardValue) (db : Database) where
  pub homes_in : HoldsParts catalog n held shard db → HoldsAtHome catalog n held shard db
  homes_in holds = record { windows = holds.contents.windows; counts = holds.counts; numbers = holds.numbers }

  pub parts_from : HoldsRows catalog n held shard.tables db → HoldsAtHome catalog n held shard db → HoldsBodies catalog n held shard.bodies db → HoldsParts catalog n held shard db
  parts_from rows homes bodies = record { contents = record { tables = rows; windows = homes.windows }; counts = homes.counts; numbers = homes.numbers; bodies = bodies }

  -- another shard with the same of these
  pub homes_alike : (other : ShardValue) → other.windows ≡ shard.windows → other.cursors ≡ shard.cursors → other.sources ≡ shard.sources → HoldsAtHome catalog n held shard db → HoldsAtHome catalog n held other db
  homes_alike other windows cursors sources holds = record {
    windows = ap (map kept_part) windows ∙ holds.windows;
    counts = cursors ∙ holds.counts;
    numbers = subst (λ (ls : List NextNumbers). SameNumbers (elsewhere_blank catalog n (is_among held) db).next_numbers ls) (sym sources) holds.numbers;
  }
