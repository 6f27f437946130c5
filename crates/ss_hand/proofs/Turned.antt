-- Lists that are taken apart from their end, once they are turned.
use Rattle.std.proofs.Common.{◌≡◌, ◌≤◌, ℕ, List, [], ◌∷◌, ◌++◌, reverse, length, All, refl, sym, ap, ◌∙◌, arith, append_assoc}
use Rattle.std.proofs.lemmas.List.{reverse-append, reverse-reverse, map-append}
use Rattle.std.proofs.lemmas.List.Elements.{All-head, All-same}
use Rattle.atomic_table.specs.Seated.{TableId}
use Rattle.ss_party.specs.Turns.{TurnValue, turn_of, IsTaken}
use Rattle.ss_shard.specs.ShardValue.{ShardValue}
use Rattle.ss_shard.specs.Unions.{numbers_of}
use Rattle.ss_hand.specs.declared.apart.Room.{Room}
use Rattle.ss_hand.specs.Apart.{IsRoom}
use Rattle.ss_hand.specs.Partitions.{PartitionView, number_of}

-- the first item of a list is the last one of the turned list
pub turned : {A : Type 0} (all v rest : List A) (x : A) → v ≡ reverse all → v ≡ rest ++ x ∷ [] → all ≡ x ∷ reverse rest
turned all v rest x e f = sym (reverse-reverse all) ∙ ap reverse (sym e ∙ f) ∙ reverse-append rest (x ∷ [])

pub turned_more : {A : Type 0} (old rest : List A) (x : A) → old ≡ rest ++ x ∷ [] → reverse old ≡ x ∷ reverse rest
turned_more old rest x e = ap reverse e ∙ reverse-append rest (x ∷ [])

pub empty : {A : Type 0} (xs : List A) → length xs ≡ 0 → xs ≡ []
empty [] e = refl
empty (x ∷ xs) e = absurd (omega arith)

pub first_has : {A : Type 0} (P : A → Type 0) (x : A) (xs all : List A) → all ≡ x ∷ xs → All P all → P x
first_has P x xs all e h = All-head P x xs (All-same P (x ∷ xs) all (sym e) h)

-- a shard more, and its number one less of those that are to come
pub numbers_on : (news olds : List ShardValue) (s : ShardValue) (b : ℕ) (rest : List ℕ) → news ≡ olds ++ s ∷ [] → s.number ≡ b → numbers_of news ++ rest ≡ numbers_of olds ++ b ∷ rest
numbers_on news olds s b rest e f =
    ap (λ (l : List ShardValue). numbers_of l ++ rest) e
    ∙ ap (λ (l : List ℕ). l ++ rest) (map-append (λ (x : ShardValue). x.number) olds (s ∷ []))
    ∙ append_assoc (numbers_of olds) (s.number ∷ []) rest
    ∙ ap (λ (q : ℕ). numbers_of olds ++ q ∷ rest) f

-- the turn that comes with a partition
pub turn_is : (bays : TableId) (p : PartitionView) (t : TurnValue) → IsTaken number_of bays t.bay (p, t) → t ≡ turn_of bays (number_of p)
turn_is bays p t taken = taken.turn ∙ ap (turn_of bays) (sym taken.own)

pub less_room : {I : Type 0} (count m : ℕ) (room : Room I) → m ≤ count → IsRoom count room → IsRoom m room
less_room count m room less r =
    let a = r.for_shards in
    let b = r.for_marks in
    record { no_shards = r.no_shards; no_marks = r.no_marks; for_shards = omega arith; for_marks = omega arith }
