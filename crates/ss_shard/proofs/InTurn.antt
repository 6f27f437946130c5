-- A shard that takes in others one after another, and gives them back.
use Rattle.std.proofs.Common.{◌≡◌, ◌≤◌, ℕ, List, [], ◌∷◌, ◌++◌, length, refl, sym, ap, subst, ◌∙◌, arith}
use Rattle.ss_model.specs.declared.catalog.Catalog.{Catalog}
use Rattle.ss_shard.specs.ShardValue.{ShardValue}
use Rattle.ss_shard.specs.Parts.{is_among, HoldsParts, HasParts, MayAbsorb, HasAbsorbed, MayRelease, HasReleased}
use Rattle.ss_shard.specs.Unions.{numbers_of, AreApart, WereUnited, AreStillApart, MayPart, WereParted}

-- a number from the head of one list to the end of another
pub passed_on : (held : List ℕ) (p : ℕ) (ps : List ℕ) → held ++ (p ∷ ps) ≡ (held ++ p ∷ []) ++ ps
passed_on [] p ps = refl
passed_on (q ∷ held) p ps = ap (λ l. q ∷ l) (passed_on held p ps)

pub one_more : (held : List ℕ) (p : ℕ) → 1 ≤ length (held ++ p ∷ [])
one_more [] p = omega arith
one_more (q ∷ held) p = omega arith

module _ (catalog : Catalog) (n : ℕ) (held : List ℕ) where
  module _ (shard other : ShardValue) (others : List ShardValue) (a : AreApart catalog n held shard (other ∷ others)) where
    pub may_absorb : MayAbsorb catalog n held shard other
    may_absorb = record {
      own = a.own;
      others = a.own_others.0;
      fresh = a.fresh.0;
      holds = (a.database.0, a.database.1, a.database.2.0);
    }

    module _ (mid shell : ShardValue) (b : HasAbsorbed catalog n held shard other mid shell) where
      pub apart_on : AreApart catalog n (held ++ other.number ∷ []) mid others
      apart_on = record {
        own = b.parts;
        own_others = a.own_others.1;
        fresh = a.fresh.1;
        database = (a.database.0, b.holds a.database.0 a.database.1 a.database.2.0, a.database.2.1);
      }

      pub united : (new : ShardValue) (shells : List ShardValue) → WereUnited catalog n (held ++ other.number ∷ []) mid others new shells → WereUnited catalog n held shard (other ∷ others) new (shell ∷ shells)
      united new shells w =
          let on = sym (passed_on held other.number (numbers_of others)) in
          record {
            number = w.number ∙ b.number;
            parts = subst (λ (ps : List ℕ). HasParts catalog n ps new) on w.parts;
            holds = λ db h k. subst (λ (ps : List ℕ). HoldsParts catalog n ps new db) on (w.holds db (b.holds db h k.0) k.1);
            numbers = ap (λ p. p ∷ numbers_of shells) b.shell_number ∙ ap (λ ps. other.number ∷ ps) w.numbers;
            left = (b.left, w.left);
          }

      module _ (new : ShardValue) (news : List ShardValue) (s : AreStillApart catalog n (held ++ other.number ∷ []) mid others new news) where
        pub may_release : 1 ≤ length held → MayRelease catalog n held new shell
        may_release some = record {
          parts = subst (λ p. HasParts catalog n (held ++ p ∷ []) new) (sym b.shell_number) s.parts;
          some = some;
          fresh = ap (λ p. is_among held p) b.shell_number ∙ a.fresh.0;
          lent = b.left;
        }

        pub still : (last back : ShardValue) → HasReleased catalog n held new shell last back → AreStillApart catalog n held shard (other ∷ others) last (back ∷ news)
        still last back r = record {
          number = r.number ∙ s.number ∙ b.number;
          parts = r.parts;
          numbers = ap (λ p. p ∷ numbers_of news) (r.back_number ∙ b.shell_number) ∙ ap (λ ps. other.number ∷ ps) s.numbers;
          parts_others = (subst (λ p. HasParts catalog n (p ∷ []) back) (sym r.back_number) r.back_parts, s.parts_others);
          holds = λ db h k.
              let both = s.holds db (b.holds db h k.0) k.1 in
              let all = subst (λ p. HoldsParts catalog n (held ++ p ∷ []) new db) (sym b.shell_number) both.0 in
              (r.holds db all, (subst (λ p. HoldsParts catalog n (p ∷ []) back db) (sym r.back_number) (r.back_holds db all), both.1));
        }

  module _ (shard shell : ShardValue) (shells : List ShardValue) (m : MayPart catalog n held shard (shell ∷ shells)) where
    pub may_part_on : MayPart catalog n (held ++ shell.number ∷ []) shard shells
    may_part_on = record {
      parts = subst (λ (ps : List ℕ). HasParts catalog n ps shard) (passed_on held shell.number (numbers_of shells)) m.parts;
      some = one_more held shell.number;
      fresh = m.fresh.1;
      lent = m.lent.1;
    }

    module _ (mid : ShardValue) (backs : List ShardValue) (w : WereParted catalog n (held ++ shell.number ∷ []) shard shells mid backs) where
      pub may_release_last : MayRelease catalog n held mid shell
      may_release_last = record { parts = w.parts; some = m.some; fresh = m.fresh.0; lent = m.lent.0 }

      pub parted : (new back : ShardValue) → HasReleased catalog n held mid shell new back → WereParted catalog n held shard (shell ∷ shells) new (back ∷ backs)
      parted new back r = record {
        number = r.number ∙ w.number;
        parts = r.parts;
        numbers = ap (λ p. p ∷ numbers_of backs) r.back_number ∙ ap (λ ps. shell.number ∷ ps) w.numbers;
        parts_backs = (subst (λ p. HasParts catalog n (p ∷ []) back) (sym r.back_number) r.back_parts, w.parts_backs);
        holds = λ db h.
            let both = w.holds db (subst (λ (ps : List ℕ). HoldsParts catalog n ps shard db) (passed_on held shell.number (numbers_of shells)) h) in
            (r.holds db both.0, (subst (λ p. HoldsParts catalog n (p ∷ []) back db) (sym r.back_number) (r.back_holds db both.0), both.1));
      }
