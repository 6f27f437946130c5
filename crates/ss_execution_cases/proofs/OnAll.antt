-- An entry that ran on all shards, united for it.
use Rattle.std.proofs.Common.{◌≡◌, ◌≤◌, ℕ, suc, true, List, [], ◌∷◌, ◌++◌, length, refl, sym, ap, subst, ◌∙◌, arith}
use Rattle.std.specs.List.{range_with_len}
use Rattle.ss_model.specs.declared.catalog.Catalog.{Catalog}
use Rattle.ss_model.specs.declared.entry.Entry.{Entry}
use Rattle.ss_model.specs.Accepted.{Accepted}
use Rattle.ss_model.specs.Database.{Database, Applied}
use Rattle.ss_model.specs.parts.HeldParts.{elsewhere_blank, HoldsTouched}
use Rattle.ss_model.specs.Partitions.{TouchedRun}
use Rattle.ss_shard.specs.ShardValue.{ShardValue}
use Rattle.ss_shard.specs.Windows.{HoldsDatabase}
use Rattle.ss_shard.specs.Parts.{is_among, all_partitions, HasParts, HoldsParts, IsShardOf}
use Rattle.ss_shard.specs.Unions.{numbers_of, AreFresh, HaveTheirOwn, HoldTheirOwn, WereUnited, MayPart, WereParted}
use Rattle.ss_shard.proofs.AllPartitions.{among_all}
use Rattle.ss_proc.specs.declared.runner.Executed.{Executed}
use Rattle.ss_proc.specs.Entries.{RanOnEach, Commits}
use Rattle.ss_proc.specs.Parts.{RanBeside, RunsOnParts}
use Rattle.ss_execution_cases.specs.Held.{AreOfOne, TakesNone}
use Rattle.ss_execution_cases.proofs.OnOne.{none_at_hand}
use Rattle.ss_execution_cases.proofs.InOrder.{from_zero, numbers, others_hold, apart, rise_again, hold_again}

numbered : (xs : List ShardValue) → length (numbers_of xs) ≡ length xs
numbered [] = refl
numbered (x ∷ xs) = ap suc (numbered xs)

as_many : (xs ys : List ShardValue) → numbers_of xs ≡ numbers_of ys → length xs ≡ length ys
as_many xs ys e = sym (numbered xs) ∙ ap length e ∙ numbered ys

module _ (catalog : Catalog) (n : ℕ) (first : ShardValue) (others : List ShardValue) (all : AreOfOne catalog n (first ∷ others)) where
  -- all partitions that run
  abbrev held : List ℕ
  held = (0 ∷ []) ++ numbers_of others

  held_all : held ≡ all_partitions n
  held_all = ap (λ ps. 0 ∷ ps) (numbers catalog n first others all) ∙ ap (range_with_len 0) (all.0.count)

  module _ (united : ShardValue) (shells : List ShardValue) (w : WereUnited catalog n (0 ∷ []) first others united shells) (mid new : ShardValue) (has : HasParts catalog n held new) where
    pub may_part : MayPart catalog n (0 ∷ []) new shells
    may_part = record {
      parts = subst (λ (ps : List ℕ). HasParts catalog n ((0 ∷ []) ++ ps) new) (sym w.numbers) has;
      some = omega arith;
      fresh = subst (λ (ps : List ℕ). AreFresh (0 ∷ []) ps) (sym w.numbers) (apart catalog n first others all).fresh;
      lent = w.left;
    }

    module _ (accepted : Accepted catalog) (some : 1 ≤ n) (e : Entry) (none : TakesNone e) (runs : TouchedRun) (on_parts : RunsOnParts) (executed : Executed) (ran : RanOnEach catalog united mid e [] executed) (commits : Commits catalog e executed.outcome mid new) (number : new.number ≡ 0) where
      all_touched : HoldsTouched catalog n (is_among held) e
      all_touched p t = subst (λ (ps : List ℕ). is_among ps p ≡ true) (sym held_all) (among_all n p (runs catalog n some e p t))

      united_hold : HoldsParts catalog n held united all.1.0
      united_hold = w.holds all.1.0 (all.1.1 0 first refl) (others_hold catalog n first others all)

      beside : RanBeside catalog n held all.1.0 e executed mid
      beside = on_parts catalog accepted n some held united mid e [] executed ran all_touched all.1.0 united_hold (none_at_hand catalog all.1.0 e none)

      abbrev after : Database
      after = (beside.applied).db

      here : HoldsParts catalog n held new after
      here = subst (λ (a : Applied). HoldsDatabase catalog new a.db) beside.same (commits (elsewhere_blank catalog n (is_among held) all.1.0) executed beside.ran refl)

      module _ (last : ShardValue) (backs : List ShardValue) (parted : WereParted catalog n (0 ∷ []) new shells last backs) where
        their_numbers : numbers_of (last ∷ backs) ≡ range_with_len 0 (length (last ∷ backs))
        their_numbers =
            let same = parted.numbers ∙ w.numbers in
            (λ i. (parted.number ∙ number) i ∷ (same ∙ numbers catalog n first others all ∙ ap (range_with_len 1) (sym (as_many backs others same))) i)

        their_own : HaveTheirOwn catalog n (last ∷ backs)
        their_own = (subst (λ p. HasParts catalog n (p ∷ []) last) (sym (parted.number ∙ number)) parted.parts, parted.parts_backs)

        pub all_again : AreOfOne catalog n (last ∷ backs)
        all_again =
            let held_then = subst (λ (ps : List ℕ). HoldsParts catalog n ((0 ∷ []) ++ ps) new after) (sym w.numbers) here in
            let both = parted.holds after held_then in
            let own : HoldTheirOwn catalog n (last ∷ backs) after = (subst (λ p. HoldsParts catalog n (p ∷ []) last after) (sym (parted.number ∙ number)) both.0, both.1) in (
              record {
                count = ap suc (as_many backs others (parted.numbers ∙ w.numbers)) ∙ all.0.count;
                each = λ q s found. subst (λ p. IsShardOf catalog n p s) (sym (from_zero q)) (rise_again catalog n 0 (last ∷ backs) their_numbers their_own q s found);
              },
              (after, λ q s found. subst (λ p. HoldsParts catalog n (p ∷ []) s after) (sym (from_zero q)) (hold_again catalog n 0 (last ∷ backs) after their_numbers own q s found)),
            )
