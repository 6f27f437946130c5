-- A table with the part of another.
use Rattle.std.proofs.Common.{◌≡◌, ℕ, ◌+◌, ◌%◌, ◌==◌, true, false, cond, List, [], ◌∷◌, ◌++◌, map, length, refl, sym, ap, subst, ◌∙◌, Option, Some, None, unwrap_or, ◌⊎◌, inl, inr, arith}
use Rattle.std.specs.Option.{option_or}
use Rattle.std.specs.FinMap as finite
use Rattle.std.specs.FinMap.{nat_cmp-IsAntisymmetric}
use Rattle.std.specs.Ordering.{nat_cmp}
use Rattle.std.specs.Cmp.{nat_cmp_total}
use Rattle.std.proofs.lemmas.List.{length-map, map-append}
use Rattle.ss_value.specs.Rows.{Row}
use Rattle.ss_value.specs.ValueOrder.{row_cmp_total, row_cmp-IsAntisymmetric}
use Rattle.ss_table.specs.declared.route.Route.{Route}
use Rattle.ss_table.specs.declared.part.Part.{Part}
use Rattle.ss_table.specs.TableValue.{TableValue, DeadRows, key_of}
use Rattle.ss_table.specs.Unions.{united, AtHome}
use Rattle.ss_table.specs.Routes.{place_among, place_of, part_of}
use Rattle.ss_table.specs.Joins.{StandsAtHome, IsFresh, IsSettled, with_table}
use Rattle.ss_table.specs.Parts.{wide_live, wide_dead, live_of, dead_of, parts_of, table_of, IsPart, AreApart, IsUnited}
use Rattle.ss_table.proofs.Unions.{get_first, same_numbers}
use Rattle.ss_table.proofs.Joining.{none_left, united_append, rehomed, home_append, place_kept, place_last, apart_more, apart_end, all_append, same_itself}

-- what `absorb` asks of two tables
abbrev pub MayJoin : TableValue → TableValue → Type 0
MayJoin h k = (k.key ≡ h.key) × (k.route ≡ h.route) × ((p : ℕ) × (k.parts ≡ p ∷ []) × IsFresh h p) × (StandsAtHome h × StandsAtHome k) × (IsSettled h × IsSettled k)

some_missing : {A : Type 0} (x : A) → None ≡ Some x → ⊥
some_missing x e = cc

module _ (limit : Option ℕ) (by : Route) (key : List ℕ) (fs : List Part) (limit2 : Option ℕ) (by2 : Route) (key2 : List ℕ) (g : Part) where
  parts_more : parts_of (fs ++ g ∷ []) ≡ parts_of fs ++ g.number ∷ []
  parts_more = map-append (λ (f : Part). f.number) fs (g ∷ [])

  -- the table of one part more is the two together
  pub made_one : table_of limit by key (fs ++ g ∷ []) ≡ with_table (table_of limit by key fs) (table_of limit2 by2 key2 (g ∷ []))
  made_one =
      let live : united (map wide_live (fs ++ g ∷ [])) ≡ united (united (map wide_live fs) ∷ united (wide_live g ∷ []) ∷ []) = ap united (map-append wide_live fs (g ∷ [])) ∙ united_append row_cmp_total row_cmp-IsAntisymmetric (map wide_live fs) (wide_live g ∷ []) in
      let dead : united (map wide_dead (fs ++ g ∷ [])) ≡ united (united (map wide_dead fs) ∷ united (wide_dead g ∷ []) ∷ []) = ap united (map-append wide_dead fs (g ∷ [])) ∙ united_append nat_cmp_total nat_cmp-IsAntisymmetric (map wide_dead fs) (wide_dead g ∷ []) in
      (λ i. record { key = key; limit = limit; live = live i; dead = dead i; route = by; parts = parts_more i })

  module _ (u : IsUnited by key fs) (v : IsUnited by2 key2 (g ∷ [])) (may : MayJoin (table_of limit by key fs) (table_of limit2 by2 key2 (g ∷ []))) where
    fresh : place_among (parts_of fs) g.number ≡ None
    fresh = subst (λ p. place_among (parts_of fs) p ≡ None) (sym (ap (λ (l : List ℕ). first_or l) (may.2.1))) may.2.2
      where
        first_or : List ℕ → ℕ
        first_or [] = 0
        first_or (x ∷ xs) = x

    same_home : (q : Row) → (place_of (parts_of fs ++ g.number ∷ []) (part_of by q) ≡ place_of (parts_of fs) (part_of by q)) ⊎ (finite.get (live_of fs) q ≡ None)
    same_home q = elim (place_among (parts_of fs) (part_of by q)) as (λ o. place_among (parts_of fs) (part_of by q) ≡ o → (place_of (parts_of fs ++ g.number ∷ []) (part_of by q) ≡ unwrap_or o 0) ⊎ (finite.get (live_of fs) q ≡ None)) [
      | None ↦ λ e. inr (may.3.0 q e)
      | Some n ↦ λ e. inl (ap (λ o. unwrap_or o 0) (place_kept (parts_of fs) g.number (part_of by q) n e))
    ] refl

    last_home : (q : Row) → (place_of (parts_of fs ++ g.number ∷ []) (part_of by q) == 0 + length (map wide_live fs)) ≡ false → finite.get (wide_live g) q ≡ None
    last_home q e = elim (g.number == part_of by q) as (λ b. (g.number == part_of by q) ≡ b → finite.get (wide_live g) q ≡ None) [
      | true ↦ λ t.
          let at : place_of (parts_of fs ++ g.number ∷ []) (part_of by q) ≡ length (parts_of fs) = ap (λ p. place_of (parts_of fs ++ g.number ∷ []) p) (sym (same_numbers _ _ t)) ∙ ap (λ o. unwrap_or o 0) (place_last (parts_of fs) g.number fresh) in
          let long : length (parts_of fs) ≡ 0 + length (map wide_live fs) = length-map fs (λ (f : Part). f.number) ∙ sym (length-map fs wide_live) ∙ omega arith in
          let no : true ≡ false = sym (same_itself (0 + length (map wide_live fs))) ∙ ap (λ a. a == 0 + length (map wide_live fs)) (sym (at ∙ long)) ∙ e in cc
      | false ↦ λ t.
          let other : place_among (g.number ∷ []) (part_of by2 q) ≡ None = ap (λ r. place_among (g.number ∷ []) (part_of r q)) may.1 ∙ ap (λ b. cond b (Some 0) None) t in
          none_left (finite.get (wide_live g) q) _ (sym (get_first row_cmp_total (wide_live g) [] q) ∙ may.3.1 q other)
    ] refl

    none_dead : (q : ℕ) → finite.get (dead_of fs) q ≡ None
    none_dead q = ap (λ (m : DeadRows). finite.get m q) may.4.0 ∙ finite.get-empty nat_cmp q

    none_last : (q : ℕ) → finite.get (wide_dead g) q ≡ None
    none_last q = none_left (finite.get (wide_dead g) q) _ (sym (get_first nat_cmp_total (wide_dead g) [] q) ∙ ap (λ (m : DeadRows). finite.get m q) may.4.1 ∙ finite.get-empty nat_cmp q)

    none_joined : (q : ℕ) → finite.get (dead_of (fs ++ g ∷ [])) q ≡ None
    none_joined q = ap (λ (x : TableValue). finite.get x.dead q) made_one ∙ get_first nat_cmp_total (dead_of fs) (dead_of (g ∷ []) ∷ []) q
        ∙ ap (λ o. option_or o (finite.get (united (dead_of (g ∷ []) ∷ [])) q)) (none_dead q)
        ∙ get_first nat_cmp_total (dead_of (g ∷ [])) [] q
        ∙ ap (λ o. option_or o (finite.get (united {R = nat_cmp} []) q)) (ap (λ (m : DeadRows). finite.get m q) may.4.1 ∙ finite.get-empty nat_cmp q)
        ∙ finite.get-empty nat_cmp q

    pub joined_one : IsUnited by key (fs ++ g ∷ [])
    joined_one =
        record {
          route = u.route;
          each = all_append (IsPart key) fs g u.each (subst (λ k. IsPart k g) may.0 v.each.0);
          apart = subst (λ l. AreApart 0 l l) (sym parts_more) (apart_end 0 (parts_of fs ++ g.number ∷ []) (parts_of fs) g.number (apart_more 0 (parts_of fs) (parts_of fs) g.number u.apart) (place_last (parts_of fs) g.number fresh ∙ ap Some (omega arith)));
          home = subst (λ l. AtHome (λ key. place_of l (part_of by key)) 0 (map wide_live (fs ++ g ∷ []))) (sym parts_more)
              (subst (λ ms. AtHome (λ key. place_of (parts_of fs ++ g.number ∷ []) (part_of by key)) 0 ms) (sym (map-append wide_live fs (g ∷ [])))
              (home_append row_cmp_total (λ key. place_of (parts_of fs ++ g.number ∷ []) (part_of by key)) (map wide_live fs) (wide_live g) 0
              (rehomed row_cmp_total (λ key. place_of (parts_of fs) (part_of by key)) (λ key. place_of (parts_of fs ++ g.number ∷ []) (part_of by key)) (map wide_live fs) 0 u.home same_home) last_home));
          slots = subst (λ l. AtHome (λ slot. place_of l (slot % 8)) 0 (map wide_dead (fs ++ g ∷ []))) (sym parts_more)
              (subst (λ ms. AtHome (λ slot. place_of (parts_of fs ++ g.number ∷ []) (slot % 8)) 0 ms) (sym (map-append wide_dead fs (g ∷ [])))
              (home_append nat_cmp_total (λ slot. place_of (parts_of fs ++ g.number ∷ []) (slot % 8)) (map wide_dead fs) (wide_dead g) 0
              (rehomed nat_cmp_total (λ slot. place_of (parts_of fs) (slot % 8)) (λ slot. place_of (parts_of fs ++ g.number ∷ []) (slot % 8)) (map wide_dead fs) 0 u.slots (λ q. inr (none_dead q))) (λ q e. none_last q)));
          returns = λ slot row e. absurd (some_missing row (sym (none_joined slot) ∙ e));
        }

pub alone : (g : Part) (gs : List Part) (p : ℕ) → parts_of (g ∷ gs) ≡ p ∷ [] → gs ≡ []
alone g [] p e = refl
alone g (h ∷ gs) p e = let long : length (parts_of (g ∷ h ∷ gs)) ≡ 1 = ap length e in absurd (omega (arith, long))

-- a table of one part more, as parts and as rows
pub joined : (limit : Option ℕ) (by : Route) (key : List ℕ) (fs : List Part) (limit2 : Option ℕ) (by2 : Route) (key2 : List ℕ) (g : Part) (gs : List Part) (h k : TableValue) → IsUnited by key fs → table_of limit by key fs ≡ h
    → IsUnited by2 key2 (g ∷ gs) → table_of limit2 by2 key2 (g ∷ gs) ≡ k → MayJoin h k → (gs ≡ []) × IsUnited by key (fs ++ g ∷ []) × (table_of limit by key (fs ++ g ∷ []) ≡ with_table h k)
joined limit by key fs limit2 by2 key2 g gs h k u view v view2 may =
    let none : gs ≡ [] = alone g gs may.2.0 (ap (λ (x : TableValue). x.parts) view2 ∙ may.2.1) in
    let one : table_of limit2 by2 key2 (g ∷ []) ≡ k = subst (λ l. table_of limit2 by2 key2 (g ∷ l) ≡ k) none view2 in
    let both : MayJoin (table_of limit by key fs) (table_of limit2 by2 key2 (g ∷ [])) = subst (λ (x : TableValue). MayJoin x (table_of limit2 by2 key2 (g ∷ []))) (sym view) (subst (λ (x : TableValue). MayJoin h x) (sym one) may) in
    (none, joined_one limit by key fs limit2 by2 key2 g u (subst (λ l. IsUnited by2 key2 (g ∷ l)) none v) both, made_one limit by key fs limit2 by2 key2 g ∙ (λ i. with_table (view i) (one i)))
