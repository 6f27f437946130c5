-- One partition in hand.
use Rattle.std.proofs.Common.{◌≡◌, ◌↔◌, ◌⊎◌, inl, inr, ⊎_elim, ◌<◌, ℕ, List, [], ◌∷◌, Contains, map, refl, sym, ap, ◌∙◌, subst, arith}
use Rattle.std.specs.Int.{IsBitSet}
use Rattle.std.specs.List.Sorted.{IsStrictlyIncreasing}
use Rattle.std.proofs.lemmas.List.Elements.{Contains-push, Contains-push_cases}
use Rattle.atomic_table.specs.Seated.{TableId}
use Rattle.ss_model.specs.declared.catalog.Catalog.{Catalog}
use Rattle.ss_model.specs.Database.{Database}
use Rattle.ss_commitlog.specs.Tokens.{Known}
use Rattle.ss_party.specs.Turns.{TurnValue, turn_of, IsAlone}
use Rattle.ss_shard.specs.ShardValue.{ShardValue}
use Rattle.ss_shard.specs.Unions.{numbers_of}
use Rattle.ss_hand.specs.declared.hand.Hand.{Hand}
use Rattle.ss_hand.specs.Partitions.{IsPartition}
use Rattle.ss_hand.specs.Apart.{numbers_in, ArePartitions, WereTakenOut}

none_contained : (q : ℕ) → Contains [] q → ⊥
none_contained q h = let low = h.1 in absurd (omega arith)

one_member : (set p : ℕ) → IsAlone set p → (q : ℕ) → IsBitSet set q ↔ Contains (p ∷ []) q
one_member set p alone q = (
  λ member. subst (Contains (p ∷ [])) (sym ((alone q).0 member)) (Contains-push [] p),
  λ there. ⊎_elim (λ (none : Contains [] q). absurd (none_contained q none)) (λ (same : p ≡ q). (alone q).1 (sym same)) (Contains-push_cases [] p q there),
)

one_rises : (p : ℕ) → IsStrictlyIncreasing (p ∷ [])
one_rises p k within = absurd (omega arith)

-- the partition of a set of one, without a shell beside it
pub one_taken_out : {I : Type 0} (catalog : Catalog) (n : ℕ) (db : Database) (bays : TableId) (p : ℕ) (hand : Hand I) (turns : List TurnValue) (k : Known) → hand.shells.items ≡ [] → hand.marks ≡ k ∷ []
    → IsPartition catalog n db hand.shard k → hand.shard.number ≡ p → turns ≡ turn_of bays p ∷ [] → (set : ℕ) → IsAlone set p → WereTakenOut catalog n db bays set hand turns
one_taken_out catalog n db bays p hand turns k none mark one own is set alone =
    let numbers : numbers_in hand ≡ p ∷ [] = ap (λ (l : List ShardValue). hand.shard.number ∷ numbers_of l) none ∙ ap (λ (q : ℕ). q ∷ []) own in
    record {
      members = λ q. subst (λ (l : List ℕ). IsBitSet set q ↔ Contains l q) (sym numbers) (one_member set p alone q);
      rising = subst IsStrictlyIncreasing (sym numbers) (one_rises p);
      are = subst (λ (l : List ShardValue). ArePartitions catalog n db (hand.shard ∷ l) hand.marks) (sym none)
          (subst (ArePartitions catalog n db (hand.shard ∷ [])) (sym mark) (one, tt));
      turns_are = is ∙ ap (map (turn_of bays)) (sym numbers);
    }
