-- Partitions that come into one hand, and a hand that comes apart.
use Rattle.std.proofs.Common.{◌≡◌, ◌<◌, ◌≤◌, ℕ, List, [], ◌∷◌, map, sym, ap, subst, ◌∙◌, arith}
use Rattle.std.proofs.lemmas.List.Kept.{AllPairs-from_increasing}
use Rattle.std.specs.List.{AllByRecursion}
use Rattle.std.specs.List.Sorted.{IsStrictlyIncreasing}
use Rattle.ss_model.specs.declared.catalog.Catalog.{Catalog}
use Rattle.ss_model.specs.Accepted.{Accepted}
use Rattle.ss_model.specs.Database.{Database}
use Rattle.ss_commitlog.specs.declared.role.Role.TheVariants.{Part}
use Rattle.ss_commitlog.specs.Right.{AgreesWith, known_database}
use Rattle.ss_commitlog.specs.Tokens.{Known, roles_of}
use Rattle.ss_commitlog.proofs.CallerLemmas.{own_part}
use Rattle.ss_shard.specs.Parts.{HasParts, HoldsParts}
use Rattle.ss_shard.specs.ShardValue.{ShardValue}
use Rattle.ss_shard.specs.Unions.{numbers_of, HoldTheirOwn, AreApart, WereUnited, AreStillApart, MayPart, WereParted}
use Rattle.ss_hand.specs.declared.hand.Hand.{Hand}
use Rattle.ss_hand.specs.Apart.{ArePartitions}
use Rattle.ss_hand.specs.Hands.{IsInHand, KnowsWith}
use Rattle.ss_commitlog.specs.Tokens.{Met}
use Rattle.ss_hand.proofs.GoingOn.{agrees_on, all_go_on, same_roles}
use Rattle.ss_hand.proofs.Partitions.{all_run, fresh, have_own, hold_own, partitions_of, roles_are}
use Rattle.ss_hand.proofs.Tokens.{know_one}

-- the same of another catalogue and number that are equal
pub moved : (P : Catalog → ℕ → Type 0) (a b : Catalog) (m n : ℕ) → a ≡ b → m ≡ n → P a m → P b n
moved P a b m n e f p = subst (P b) f (subst (λ (x : Catalog). P x m) e p)

module _ (catalog : Catalog) (accepted : Accepted catalog) (n : ℕ) (some : 1 ≤ n) (db : Database) (first : ShardValue) (others : List ShardValue) (ks : List Known) (are : ArePartitions catalog n db (first ∷ others) ks)
    (limit : ℕ) (note new : Known) (ls : List Known) (met : Met catalog n limit ks note ls new) where
  -- the database of the list that all of them know
  abbrev one : Database
  one = known_database catalog db new

  agrees : AgreesWith catalog n db ks one
  agrees = own_part catalog accepted n some db new.list ks met.go_on

  agrees_now : AgreesWith catalog n db ls one
  agrees_now = agrees_on catalog accepted n some db ks ls one (all_go_on catalog n new.list ks ls met.know met.go_on) agrees

  hold : HoldTheirOwn catalog n (first ∷ others) one
  hold = hold_own catalog n db one (first ∷ others) ks are agrees

  roles_now : roles_of ls ≡ map Part (numbers_of (first ∷ others))
  roles_now = same_roles new.list ks ls met.know ∙ roles_are catalog n db (first ∷ others) ks are

  pub may_unite : IsStrictlyIncreasing (numbers_of (first ∷ others)) → AreApart catalog n (first.number ∷ []) first others
  may_unite up =
      let own = have_own catalog n db (first ∷ others) ks are in
      record {
        own = own.0;
        own_others = own.1;
        fresh = fresh (first.number ∷ []) (numbers_of others) (AllPairs-from_increasing (numbers_of (first ∷ others)) up);
        database = (one, hold.0, hold.1);
      }

  pub in_hand : {I : Type 0} (hand : Hand I) → hand.marks ≡ ls → IsStrictlyIncreasing (numbers_of (first ∷ others)) → WereUnited catalog n (first.number ∷ []) first others hand.shard hand.shells.items
      → KnowsWith catalog n db (numbers_of (first ∷ others)) new hand
  in_hand hand is up w = record {
    in_hand = record {
      rising = up;
      run = all_run catalog n db (first ∷ others) ks are;
      numbers = ap (λ (p : ℕ). p ∷ numbers_of hand.shells.items) w.number ∙ ap (λ (ps : List ℕ). first.number ∷ ps) w.numbers;
      parts = w.parts;
      left = w.left;
      roles = ap roles_of is ∙ roles_now;
      of_one = record { database = one; holds = w.holds one hold.0 hold.1; agrees = subst (λ (x : List Known). AgreesWith catalog n db x one) (sym is) agrees_now };
    };
    know_one = subst (AllByRecursion (λ (k : Known). k.list ≡ new.list)) (sym is) (know_one new.list ks ls met.know);
  }

  pub still : (one' : ShardValue) (news : List ShardValue) → AreStillApart catalog n (first.number ∷ []) first others one' news
      → ArePartitions catalog n db (one' ∷ news) ls × (numbers_of (one' ∷ news) ≡ numbers_of (first ∷ others))
  still one' news s =
      let both = s.holds one hold.0 hold.1 in
      let same : numbers_of (one' ∷ news) ≡ numbers_of (first ∷ others) = ap (λ (p : ℕ). p ∷ numbers_of news) s.number ∙ ap (λ (ps : List ℕ). first.number ∷ ps) s.numbers in (
        partitions_of catalog n db one (one' ∷ news) ls
            (subst (AllByRecursion (λ (p : ℕ). p < n)) (sym same) (all_run catalog n db (first ∷ others) ks are))
            (roles_now ∙ ap (map Part) (sym same))
            (subst (λ (p : ℕ). HasParts catalog n (p ∷ []) one') (sym s.number) s.parts, s.parts_others)
            (subst (λ (p : ℕ). HoldsParts catalog n (p ∷ []) one' one) (sym s.number) both.0, both.1)
            agrees_now,
        same,
      )

module _ {I : Type 0} (catalog : Catalog) (n : ℕ) (db : Database) (held : List ℕ) (hand : Hand I) (is : IsInHand catalog n db held hand) where
  pub may_part : MayPart catalog n (hand.shard.number ∷ []) hand.shard hand.shells.items
  may_part = record {
    parts = subst (λ (ps : List ℕ). HasParts catalog n ps hand.shard) (sym is.numbers) is.parts;
    some = omega arith;
    fresh = fresh (hand.shard.number ∷ []) (numbers_of hand.shells.items) (AllPairs-from_increasing (hand.shard.number ∷ numbers_of hand.shells.items) (subst IsStrictlyIncreasing (sym is.numbers) is.rising));
    lent = is.left;
  }

  pub parted : (first : ShardValue) (backs : List ShardValue) → WereParted catalog n (hand.shard.number ∷ []) hand.shard hand.shells.items first backs
      → ArePartitions catalog n db (first ∷ backs) hand.marks × (numbers_of (first ∷ backs) ≡ held)
  parted first backs w =
      let one = (is.of_one).database in
      let both = w.holds one (subst (λ (ps : List ℕ). HoldsParts catalog n ps hand.shard one) (sym is.numbers) (is.of_one).holds) in
      let same : numbers_of (first ∷ backs) ≡ held = ap (λ (p : ℕ). p ∷ numbers_of backs) w.number ∙ ap (λ (ps : List ℕ). hand.shard.number ∷ ps) w.numbers ∙ is.numbers in (
        partitions_of catalog n db one (first ∷ backs) hand.marks
            (subst (AllByRecursion (λ (p : ℕ). p < n)) (sym same) is.run)
            (is.roles ∙ ap (map Part) (sym same))
            (subst (λ (p : ℕ). HasParts catalog n (p ∷ []) first) (sym w.number) w.parts, w.parts_backs)
            (subst (λ (p : ℕ). HoldsParts catalog n (p ∷ []) first one) (sym w.number) both.0, both.1)
            (is.of_one).agrees,
        same,
      )
