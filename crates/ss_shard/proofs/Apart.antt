-- Two tables of other parts: no key is in both, and what one took in and gave back is as it was.
use Rattle.std.proofs.Common.{◌≡◌, ℕ, ◌<◌, ◌==◌, not, Bool, true, false, cond, [], ◌∷◌, ◌++◌, length, refl, sym, ap, ◌∙◌, Some, None, unwrap_or, arith}
use Rattle.std.specs.Option.{option_or}
use Rattle.std.specs.FinMap as finite
use Rattle.std.proofs.lemmas.Bool.{eqb-true}
use Rattle.std.proofs.lemmas.List.{append_cancel_right}
use Rattle.ss_value.specs.Rows.{Row}
use Rattle.ss_value.specs.ValueOrder.{row_cmp_total, row_cmp-IsAntisymmetric}
use Rattle.ss_table.specs.TableValue.{TableValue as Table, LiveRows}
use Rattle.ss_table.specs.Unions.{united}
use Rattle.ss_table.specs.Routes.{part_of, place_among, place_of}
use Rattle.ss_table.specs.Joins.{WasReleased, with_table, shell_of}
use Rattle.ss_table.specs.Placed.{ArePlaced}
use Rattle.ss_table.proofs.CallerLemmas.{get_two, or_none, place_below, place_kept, place_last, same_itself}
use Rattle.ss_shard.specs.Joins.{MayTakeIn, MayGiveBack, WasGivenBack}
use Rattle.ss_shard.proofs.Occurring.{both_settled, first_settled, second_settled}

pub some_missing : {A : Type 0} (x : A) → None ≡ Some x → ⊥
some_missing x e = cc

-- what a part of a map has at a key
pub get_kept : (m : LiveRows) (keep : Row → Bool) (k : Row) → finite.get (finite.retain_keys m keep) k ≡ cond (keep k) (finite.get m k) None
get_kept m keep k = finite.get-retain_keys m keep k (λ x t. ap keep (sym (row_cmp-IsAntisymmetric k x t)))

module _ (h g : Table) (may : MayTakeIn h g) where
  abbrev part : ℕ
  part = (may.part).0

  -- where a key is at home in the two together
  abbrev home : Row → ℕ
  home k = place_of (h.parts ++ g.parts) (part_of h.route k)

  parts_are : h.parts ++ g.parts ≡ h.parts ++ part ∷ []
  parts_are = ap (λ ps. h.parts ++ ps) (may.part).1

  less : (a n : ℕ) → a < n → (a == n) ≡ false
  less a n l = grind (arith, l)

  -- a key that is at home in the part that was taken in is none of the first table's
  pub front_none : (k : Row) → (home k == length h.parts) ≡ true → finite.get h.live k ≡ None
  front_none k t = elim (place_among h.parts (part_of h.route k)) as (λ o. place_among h.parts (part_of h.route k) ≡ o → finite.get h.live k ≡ None) [
    | None ↦ λ e. (may.home).0 k e
    | Some n ↦ λ e.
        let at : home k ≡ n = ap (λ ps. place_of ps (part_of h.route k)) parts_are ∙ ap (λ o. unwrap_or o 0) (place_kept h.parts part (part_of h.route k) n e) in
        let no : true ≡ false = sym t ∙ ap (λ a. a == length h.parts) at ∙ less n (length h.parts) (place_below h.parts (part_of h.route k) n e) in cc
  ] refl

  -- and any other none of the second's
  pub back_none : (k : Row) → (home k == length h.parts) ≡ false → finite.get g.live k ≡ None
  back_none k f = elim (part == part_of h.route k) as (λ b. (part == part_of h.route k) ≡ b → finite.get g.live k ≡ None) [
    | true ↦ λ t.
        let at : home k ≡ length h.parts = ap (λ ps. place_of ps (part_of h.route k)) parts_are ∙ ap (place_of (h.parts ++ part ∷ [])) (sym (eqb-true part (part_of h.route k) t)) ∙ ap (λ o. unwrap_or o 0) (place_last h.parts part (may.part).2) in
        let no : true ≡ false = sym (same_itself (length h.parts)) ∙ ap (λ a. a == length h.parts) (sym at) ∙ f in cc
    | false ↦ λ t. (may.home).1 k ((λ i. place_among ((may.part).1 i) (part_of (may.route i) k)) ∙ ap (λ b. cond b (Some 0) None) t)
  ] refl

  pub no_key_twice : (k : Row) (v : ℕ × Row) → finite.get h.live k ≡ Some v → finite.get g.live k ≡ None
  no_key_twice k v e = elim (home k == length h.parts) as (λ b. (home k == length h.parts) ≡ b → finite.get g.live k ≡ None) [
    | true ↦ λ t. absurd (some_missing v (sym (front_none k t) ∙ e))
    | false ↦ λ t. back_none k t
  ] refl

  -- no row of the two is dead
  pub still_settled : (with_table h g).dead ≡ finite.empty
  still_settled = both_settled h g (may.settled).0 (may.settled).1

  -- the two may come apart again
  pub may_come_apart : ArePlaced h → MayGiveBack (with_table h g) (shell_of g)
  may_come_apart placed = (
    record {
      first = placed.first;
      rest = placed.rest;
      part = part;
      parts = (λ i. placed.parts i ++ (may.part).1 i);
      own = (may.part).1;
      routes = may.route;
      empty = refl;
    },
    still_settled,
  )

  -- and are then as they were
  module _ (new last : Table) (was : WasGivenBack (with_table h g) (shell_of g) new last) where
    released : WasReleased (with_table h g) new last
    released = was.released

    parts_back : new.parts ≡ h.parts
    parts_back = sym (append_cancel_right h.parts new.parts g.parts (released.parts ∙ ap (λ ps. new.parts ++ ps) was.own))

    long : length new.parts ≡ length h.parts
    long = ap length parts_back

    last_at : (k : Row) → finite.get last.live k ≡ cond (home k == length h.parts) (option_or (finite.get h.live k) (finite.get g.live k)) None
    last_at k = ap (λ (m : LiveRows). finite.get m k) released.live ∙ get_kept (united (h.live ∷ g.live ∷ [])) (λ q. home q == length new.parts) k
        ∙ (λ i. cond (home k == long i) (get_two row_cmp_total h.live g.live k i) None)

    new_at : (k : Row) → finite.get new.live k ≡ cond (not (home k == length h.parts)) (option_or (finite.get h.live k) (finite.get g.live k)) None
    new_at k = ap (λ (m : LiveRows). finite.get m k) released.others ∙ get_kept (united (h.live ∷ g.live ∷ [])) (λ q. not (home q == length new.parts)) k
        ∙ (λ i. cond (not (home k == long i)) (get_two row_cmp_total h.live g.live k i) None)

    last_live : last.live ≡ g.live
    last_live = finite.same_map row_cmp_total row_cmp-IsAntisymmetric _ _ (λ k. last_at k
        ∙ elim (home k == length h.parts) as (λ b. (home k == length h.parts) ≡ b → cond b (option_or (finite.get h.live k) (finite.get g.live k)) None ≡ finite.get g.live k) [
          | true ↦ λ t. ap (λ o. option_or o (finite.get g.live k)) (front_none k t)
          | false ↦ λ t. sym (back_none k t)
        ] refl)

    new_live : new.live ≡ h.live
    new_live = finite.same_map row_cmp_total row_cmp-IsAntisymmetric _ _ (λ k. new_at k
        ∙ elim (home k == length h.parts) as (λ b. (home k == length h.parts) ≡ b → cond (not b) (option_or (finite.get h.live k) (finite.get g.live k)) None ≡ finite.get h.live k) [
          | true ↦ λ t. sym (front_none k t)
          | false ↦ λ t. ap (option_or (finite.get h.live k)) (back_none k t) ∙ or_none (finite.get h.live k)
        ] refl)

    none_dead : united (new.dead ∷ last.dead ∷ []) ≡ finite.empty
    none_dead = sym (ap (λ (x : Table). x.dead) released.joined) ∙ still_settled

    pub as_before : (new ≡ h) × (last ≡ g)
    as_before = (
      (λ i. record {
        key = (released.keys).1 i;
        limit = was.limit i;
        live = new_live i;
        dead = (first_settled new.dead last.dead none_dead ∙ sym (may.settled).0) i;
        route = sym (ap (λ (x : Table). x.route) released.joined) i;
        parts = parts_back i;
      }),
      (λ i. record {
        key = ((released.keys).0 ∙ sym may.key) i;
        limit = was.last_limit i;
        live = last_live i;
        dead = (second_settled new.dead last.dead none_dead ∙ sym (may.settled).1) i;
        route = (released.routes ∙ sym may.route) i;
        parts = was.own i;
      }),
    )
