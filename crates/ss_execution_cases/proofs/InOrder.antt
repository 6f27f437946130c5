-- The shards of a database, one after another and by their numbers.
use Rattle.std.proofs.Common.{◌≡◌, ℕ, ◌+◌, zero, suc, List, [], ◌∷◌, ◌++◌, length, slice_get, refl, sym, ap, subst, ◌∙◌, Some, arith}
use Rattle.std.specs.List.{range_with_len}
use Rattle.ss_model.specs.declared.catalog.Catalog.{Catalog}
use Rattle.ss_model.specs.Database.{Database}
use Rattle.ss_shard.specs.ShardValue.{ShardValue}
use Rattle.ss_shard.specs.Parts.{all_partitions, HasParts, HoldsParts, IsShardOf}
use Rattle.ss_shard.specs.Unions.{numbers_of, AreFresh, HaveTheirOwn, HoldTheirOwn, AreApart}
use Rattle.ss_shard.proofs.CallerLemmas.{not_among}
use Rattle.ss_execution_cases.specs.Held.{AreOfOne}

-- a shard of one partition, by its own number and by another that is equal
own_parts : (catalog : Catalog) (n p : ℕ) (s : ShardValue) → IsShardOf catalog n p s → HasParts catalog n (s.number ∷ []) s
own_parts catalog n p s is = subst (λ q. HasParts catalog n (q ∷ []) s) (sym is.number) is.parts

further : (k q : ℕ) → k + suc q ≡ (k + 1) + q
further k q = omega arith

here : (k : ℕ) → k + 0 ≡ k
here k = omega arith

module _ (catalog : Catalog) (n : ℕ) where
  -- shards whose numbers rise by one from k on
  abbrev Rise : ℕ → List ShardValue → Type 0
  Rise k xs = (q : ℕ) (s : ShardValue) → slice_get xs q ≡ Some s → IsShardOf catalog n (k + q) s

  abbrev RiseWith : ℕ → List ShardValue → Database → Type 0
  RiseWith k xs db = (q : ℕ) (s : ShardValue) → slice_get xs q ≡ Some s → HoldsParts catalog n ((k + q) ∷ []) s db

  rest : (k : ℕ) (x : ShardValue) (xs : List ShardValue) → Rise k (x ∷ xs) → Rise (k + 1) xs
  rest k x xs rise q s e = subst (λ p. IsShardOf catalog n p s) (further k q) (rise (suc q) s e)

  rest_with : (k : ℕ) (x : ShardValue) (xs : List ShardValue) (db : Database) → RiseWith k (x ∷ xs) db → RiseWith (k + 1) xs db
  rest_with k x xs db rise q s e = subst (λ p. HoldsParts catalog n (p ∷ []) s db) (further k q) (rise (suc q) s e)

  numbers_rise : (k : ℕ) (xs : List ShardValue) → Rise k xs → numbers_of xs ≡ range_with_len k (length xs)
  numbers_rise k [] rise = refl
  numbers_rise k (x ∷ xs) rise = (λ i. ((rise 0 x refl).number ∙ here k) i ∷ numbers_rise (k + 1) xs (rest k x xs rise) i)

  have_own : (k : ℕ) (xs : List ShardValue) → Rise k xs → HaveTheirOwn catalog n xs
  have_own k [] rise = tt
  have_own k (x ∷ xs) rise = (own_parts catalog n (k + 0) x (rise 0 x refl), have_own (k + 1) xs (rest k x xs rise))

  hold_own : (k : ℕ) (xs : List ShardValue) (db : Database) → Rise k xs → RiseWith k xs db → HoldTheirOwn catalog n xs db
  hold_own k [] db rise holds = tt
  hold_own k (x ∷ xs) db rise holds =
      (subst (λ p. HoldsParts catalog n (p ∷ []) x db) (sym (rise 0 x refl).number) (holds 0 x refl), hold_own (k + 1) xs db (rest k x xs rise) (rest_with k x xs db holds))

  -- and back
  first_number : (k : ℕ) (x : ShardValue) (xs : List ShardValue) → numbers_of (x ∷ xs) ≡ range_with_len k (length (x ∷ xs)) → x.number ≡ k
  first_number k x xs e = ap (first_of k) e
    where
      first_of : ℕ → List ℕ → ℕ
      first_of d [] = d
      first_of d (p ∷ ps) = p

  other_numbers : (k : ℕ) (x : ShardValue) (xs : List ShardValue) → numbers_of (x ∷ xs) ≡ range_with_len k (length (x ∷ xs)) → numbers_of xs ≡ range_with_len (k + 1) (length xs)
  other_numbers k x xs e = ap behind e
    where
      behind : List ℕ → List ℕ
      behind [] = []
      behind (p ∷ ps) = ps

  pub rise_again : (k : ℕ) (xs : List ShardValue) → numbers_of xs ≡ range_with_len k (length xs) → HaveTheirOwn catalog n xs → Rise k xs
  rise_again k [] e own q s found = cc
  rise_again k (x ∷ xs) e own zero s found =
      let is : x ≡ s = cc in
      subst (λ (y : ShardValue). IsShardOf catalog n (k + 0) y) is
      (record {
        number = first_number k x xs e ∙ sym (here k);
        parts = subst (λ p. HasParts catalog n (p ∷ []) x) (first_number k x xs e ∙ sym (here k)) own.0;
      })
  rise_again k (x ∷ xs) e own (suc q) s found =
      subst (λ p. IsShardOf catalog n p s) (sym (further k q)) (rise_again (k + 1) xs (other_numbers k x xs e) own.1 q s found)

  pub hold_again : (k : ℕ) (xs : List ShardValue) (db : Database) → numbers_of xs ≡ range_with_len k (length xs) → HoldTheirOwn catalog n xs db → RiseWith k xs db
  hold_again k [] db e own q s found = cc
  hold_again k (x ∷ xs) db e own zero s found =
      let is : x ≡ s = cc in
      subst (λ (y : ShardValue). HoldsParts catalog n ((k + 0) ∷ []) y db) is
      (subst (λ p. HoldsParts catalog n (p ∷ []) x db) (first_number k x xs e ∙ sym (here k)) own.0)
  hold_again k (x ∷ xs) db e own (suc q) s found =
      subst (λ p. HoldsParts catalog n (p ∷ []) s db) (sym (further k q)) (hold_again (k + 1) xs db (other_numbers k x xs e) own.1 q s found)

pub from_zero : (q : ℕ) → q ≡ 0 + q
from_zero q = omega arith

-- the first partitions with one more
one_more : (a k : ℕ) → range_with_len a k ++ (a + k) ∷ [] ≡ range_with_len a (suc k)
one_more a zero = (λ i. here a i ∷ [])
one_more a (suc k) = (λ i. a ∷ (ap (λ p. range_with_len (a + 1) k ++ p ∷ []) (further a k) ∙ one_more (a + 1) k) i)

pub fresh_range : (k l : ℕ) → AreFresh (all_partitions k) (range_with_len k l)
fresh_range k zero = tt
fresh_range k (suc l) =
    let next : k + 1 ≡ suc k = omega arith in
    let all : all_partitions k ++ k ∷ [] ≡ all_partitions (suc k) = ap (λ p. range_with_len 0 k ++ p ∷ []) (from_zero k) ∙ one_more 0 k in (
      not_among k k (omega arith),
      subst (λ (ps : List ℕ). AreFresh ps (range_with_len (k + 1) l)) (sym all) (subst (λ m. AreFresh (all_partitions (suc k)) (range_with_len m l)) (sym next) (fresh_range (suc k) l)),
    )

-- the shards of a database are apart
module _ (catalog : Catalog) (n : ℕ) (first : ShardValue) (others : List ShardValue) (all : AreOfOne catalog n (first ∷ others)) where
  rises : Rise catalog n 0 (first ∷ others)
  rises q s e = subst (λ p. IsShardOf catalog n p s) (from_zero q) (all.0.each q s e)

  rises_with : RiseWith catalog n 0 (first ∷ others) all.1.0
  rises_with q s e = subst (λ p. HoldsParts catalog n (p ∷ []) s all.1.0) (from_zero q) (all.1.1 q s e)

  pub numbers : numbers_of others ≡ range_with_len 1 (length others)
  numbers = numbers_rise catalog n 1 others (rest catalog n 0 first others rises)

  pub others_hold : HoldTheirOwn catalog n others all.1.0
  others_hold = hold_own catalog n 1 others all.1.0 (rest catalog n 0 first others rises) (rest_with catalog n 0 first others all.1.0 rises_with)

  pub apart : AreApart catalog n (0 ∷ []) first others
  apart = record {
    own = (all.0.each 0 first refl).parts;
    own_others = have_own catalog n 1 others (rest catalog n 0 first others rises);
    fresh = subst (λ (ps : List ℕ). AreFresh (0 ∷ []) ps) (sym numbers) (fresh_range 1 (length others));
    database = (all.1.0, all.1.1 0 first refl, others_hold);
  }
