-- A table without its last part, and that part.
use Rattle.std.proofs.Common.{◌≡◌, ℕ, ◌+◌, ◌%◌, ◌==◌, ◌<◌, ◌≤◌, suc, not, Bool, true, false, cond, List, [], ◌∷◌, ◌++◌, map, length, refl, sym, ap, subst, ◌∙◌, Option, Some, None, unwrap_or, slice_get, ◌⊎◌, inl, inr, arith}
use Rattle.std.specs.List.{AllByRecursion}
use Rattle.std.specs.Option.{option_or}
use Rattle.std.specs.Ordering.{nat_cmp}
use Rattle.std.specs.declared.cmp.Ordering.{Ordering}
use Rattle.std.specs.Cmp.{IsTotalOrder, nat_cmp_total}
use Rattle.std.specs.FinMap as finite
use Rattle.std.specs.FinMap.{IsAntisymmetric}
use Rattle.std.proofs.lemmas.List.{length-map, map-append, length-append}
use Rattle.ss_lemmas.proofs.Bools.{some_same}
use Rattle.ss_lemmas.proofs.Ends.{ends_alike}
use Rattle.ss_lemmas.proofs.LoopItem.{get_last}
use Rattle.ss_value.specs.Rows.{Row}
use Rattle.ss_value.specs.Order.{row_cmp}
use Rattle.ss_value.specs.ValueOrder.{row_cmp_total, row_cmp-IsAntisymmetric}
use Rattle.ss_table.specs.declared.route.Route.{Route}
use Rattle.ss_table.specs.declared.part.Part.{Part}
use Rattle.ss_table.specs.TableValue.{TableValue, LiveRows, DeadRows}
use Rattle.ss_table.specs.Unions.{united, AtHome}
use Rattle.ss_table.specs.Routes.{place_among, place_of, part_of}
use Rattle.ss_table.specs.Joins.{IsSettled, IsLentBy, WasReleased}
use Rattle.ss_table.specs.Parts.{wide_live, wide_dead, live_of, dead_of, parts_of, table_of, IsPart, AreApart, IsUnited}
use Rattle.ss_table.proofs.Unions.{get_first, or_none, same_numbers, part_is}
use Rattle.ss_table.proofs.Joining.{none_left, none_right, get_append, rehomed, place_more, place_kept, same_itself}
use Rattle.ss_table.proofs.Joined.{made_one, alone}
use Rattle.ss_table.proofs.Shells.{alone_united}

module _ {K X : Type 0} {R : K → K → Ordering} (o : IsTotalOrder R) where
  -- a list of maps has nothing at the keys of those behind
  pub none_behind : (home : K → ℕ) (ms : List (finite.FinMap R X)) (i : ℕ) → AtHome home i ms → (q : K) → i + length ms ≤ home q → finite.get (united ms) q ≡ None
  none_behind home [] i h q e = finite.get-empty R q
  none_behind home (m ∷ ms) i h q e = get_first o m ms q ∙ ap (λ x. option_or x (finite.get (united ms) q)) (h.0 q (far (home q) i (length ms) e)) ∙ none_behind home ms (suc i) h.1 q (omega arith)
    where
      far : (a i n : ℕ) → i + suc n ≤ a → (a == i) ≡ false
      far a i n e = grind (arith, e)

  pub front_home : (home : K → ℕ) (ms : List (finite.FinMap R X)) (m : finite.FinMap R X) (i : ℕ) → AtHome home i (ms ++ m ∷ []) → AtHome home i ms
  front_home home [] m i h = tt
  front_home home (n ∷ ms) m i h = (h.0, front_home home ms m (suc i) h.1)

  pub last_home : (home : K → ℕ) (ms : List (finite.FinMap R X)) (m : finite.FinMap R X) (i : ℕ) → AtHome home i (ms ++ m ∷ []) → (q : K) → (home q == i + length ms) ≡ false → finite.get m q ≡ None
  last_home home [] m i h q e = h.0 q (ap (λ a. home q == a) (omega arith) ∙ e)
  last_home home (n ∷ ms) m i h q e = last_home home ms m (suc i) h.1 q (ap (λ a. home q == a) (omega arith) ∙ e)

  -- all but the last
  pub rest_is : IsAntisymmetric R → (home : K → ℕ) (ms : List (finite.FinMap R X)) (m : finite.FinMap R X) → AtHome home 0 (ms ++ m ∷ []) → united ms ≡ finite.retain_keys (united (ms ++ m ∷ [])) (λ q. not (home q == length ms))
  rest_is same home ms m h = finite.same_map o same _ _ (λ q. sym (
      finite.get-retain_keys (united (ms ++ m ∷ [])) (λ q. not (home q == length ms)) q (λ x t. ap (λ x. not (home x == length ms)) (sym (same q x t)))
      ∙ ap (λ x. cond (not (home q == length ms)) x None) (get_append o ms (m ∷ []) q ∙ ap (option_or (finite.get (united ms) q)) (get_first o m [] q ∙ ap (option_or (finite.get m q)) (finite.get-empty R q) ∙ or_none (finite.get m q)))
      ∙ elim (home q == length ms) as (λ b. (home q == length ms) ≡ b → cond (not b) (option_or (finite.get (united ms) q) (finite.get m q)) None ≡ finite.get (united ms) q) [
        | true ↦ λ t. sym (none_behind home ms 0 (front_home home ms m 0 h) q (at_least (home q) (length ms) (same_numbers _ _ t)))
        | false ↦ λ t. ap (option_or (finite.get (united ms) q)) (last_home home ms m 0 h q (ap (λ a. home q == a) (omega arith) ∙ t)) ∙ or_none (finite.get (united ms) q)
      ] refl))
    where
      at_least : (a n : ℕ) → a ≡ n → 0 + n ≤ a
      at_least a n e = omega (arith, e)

all_front : {A : Type 0} (P : A → Type 0) (xs : List A) (x : A) → AllByRecursion P (xs ++ x ∷ []) → AllByRecursion P xs × P x
all_front P [] x h = (tt, h.0)
all_front P (y ∷ xs) x h = let r = all_front P xs x h.1 in ((h.0, r.0), r.1)

-- a place before the end is one without the end
place_less : (ps : List ℕ) (p q i : ℕ) → place_among (ps ++ p ∷ []) q ≡ Some i → i < length ps → place_among ps q ≡ Some i
place_less ps p q i e l = by (place_among ps q) (p == q) (sym (place_more ps p q) ∙ e)
  where
    by : (o : Option ℕ) (b : Bool) → option_or o (cond b (Some (length ps)) None) ≡ Some i → o ≡ Some i
    by None true e = let same : length ps ≡ i = some_same _ i e in absurd (omega (arith, same, l))
    by None false e = cc
    by (Some n) b e = e

apart_front : (i : ℕ) (all ps : List ℕ) (p : ℕ) → AreApart i (all ++ p ∷ []) (ps ++ p ∷ []) → i + length ps ≤ length all → AreApart i all ps
apart_front i all [] p a l = tt
apart_front i all (q ∷ ps) p a l = (place_less all p q i a.0 (omega arith), apart_front (suc i) all ps p a.1 (omega arith))

module _ {K X : Type 0} {R : K → K → Ordering} (o : IsTotalOrder R) (part : K → ℕ) where
  -- without the last part, the keys of the others stand where they stood
  pub home_front : (ps : List ℕ) (p : ℕ) (ms : List (finite.FinMap R X)) (m : finite.FinMap R X) → length ms ≡ length ps
      → AtHome (λ q. place_of (ps ++ p ∷ []) (part q)) 0 (ms ++ m ∷ []) → AtHome (λ q. place_of ps (part q)) 0 ms
  home_front ps p ms m long h =
      let front = front_home o (λ q. place_of (ps ++ p ∷ []) (part q)) ms m 0 h in
      rehomed o (λ q. place_of (ps ++ p ∷ []) (part q)) (λ q. place_of ps (part q)) ms 0 front (λ q.
      elim (place_among ps (part q)) as (λ o. place_among ps (part q) ≡ o → (unwrap_or o 0 ≡ place_of (ps ++ p ∷ []) (part q)) ⊎ (finite.get (united ms) q ≡ None)) [
        | Some n ↦ λ e. inl (sym (ap (λ o. unwrap_or o 0) (place_kept ps p (part q) n e)))
        | None ↦ λ e.
            let now : place_of (ps ++ p ∷ []) (part q) ≡ unwrap_or (cond (p == part q) (Some (length ps)) None) 0 = ap (λ o. unwrap_or o 0) (place_more ps p (part q) ∙ ap (λ o. option_or o (cond (p == part q) (Some (length ps)) None)) e) in
            elim (p == part q) as (λ b. place_of (ps ++ p ∷ []) (part q) ≡ unwrap_or (cond b (Some (length ps)) None) 0 → (0 ≡ place_of (ps ++ p ∷ []) (part q)) ⊎ (finite.get (united ms) q ≡ None)) [
              | true ↦ λ at. inr (none_behind o (λ q. place_of (ps ++ p ∷ []) (part q)) ms 0 front q (omega (arith, at, long)))
              | false ↦ λ at. inl (sym at)
            ] now
      ] refl)

some_missing : {A : Type 0} (x : A) → None ≡ Some x → ⊥
some_missing x e = cc

module _ (limit limit2 : Option ℕ) (by : Route) (key : List ℕ) (fs : List Part) (g : Part) (u : IsUnited by key (fs ++ g ∷ [])) (settled : (q : ℕ) → finite.get (dead_of (fs ++ g ∷ [])) q ≡ None) where
  parts_more : parts_of (fs ++ g ∷ []) ≡ parts_of fs ++ g.number ∷ []
  parts_more = map-append (λ (f : Part). f.number) fs (g ∷ [])

  long : length (map wide_live fs) ≡ length (parts_of fs)
  long = length-map fs wide_live ∙ sym (length-map fs (λ (f : Part). f.number))

  long_dead : length (map wide_dead fs) ≡ length (parts_of fs)
  long_dead = length-map fs wide_dead ∙ sym (length-map fs (λ (f : Part). f.number))

  home : AtHome (λ key. place_of (parts_of fs ++ g.number ∷ []) (part_of by key)) 0 (map wide_live fs ++ wide_live g ∷ [])
  home = subst (λ l. AtHome (λ key. place_of l (part_of by key)) 0 (map wide_live fs ++ wide_live g ∷ [])) parts_more
      (subst (λ ms. AtHome (λ key. place_of (parts_of (fs ++ g ∷ [])) (part_of by key)) 0 ms) (map-append wide_live fs (g ∷ [])) u.home)

  slots : AtHome (λ slot. place_of (parts_of fs ++ g.number ∷ []) (slot % 8)) 0 (map wide_dead fs ++ wide_dead g ∷ [])
  slots = subst (λ l. AtHome (λ slot. place_of l (slot % 8)) 0 (map wide_dead fs ++ wide_dead g ∷ [])) parts_more
      (subst (λ ms. AtHome (λ slot. place_of (parts_of (fs ++ g ∷ [])) (slot % 8)) 0 ms) (map-append wide_dead fs (g ∷ [])) u.slots)

  apart_dead : (q : ℕ) → option_or (finite.get (dead_of fs) q) (finite.get (dead_of (g ∷ [])) q) ≡ None
  apart_dead q = sym (get_append nat_cmp_total (map wide_dead fs) (wide_dead g ∷ []) q) ∙ ap (λ ms. finite.get (united ms) q) (sym (map-append wide_dead fs (g ∷ []))) ∙ settled q

  pub front_settled : (q : ℕ) → finite.get (dead_of fs) q ≡ None
  front_settled q = none_left (finite.get (dead_of fs) q) (finite.get (dead_of (g ∷ [])) q) (apart_dead q)

  pub last_settled : (q : ℕ) → finite.get (dead_of (g ∷ [])) q ≡ None
  last_settled q = none_right (finite.get (dead_of fs) q) (finite.get (dead_of (g ∷ [])) q) (apart_dead q)

  pub front_united : IsUnited by key fs
  front_united = record {
    route = u.route;
    each = (all_front (IsPart key) fs g u.each).0;
    apart = apart_front 0 (parts_of fs) (parts_of fs) g.number (subst (λ l. AreApart 0 l l) parts_more u.apart) (omega arith);
    home = home_front row_cmp_total (λ key. part_of by key) (parts_of fs) g.number (map wide_live fs) (wide_live g) long home;
    slots = home_front nat_cmp_total (λ slot. slot % 8) (parts_of fs) g.number (map wide_dead fs) (wide_dead g) long_dead slots;
    returns = λ slot row e. absurd (some_missing row (sym (front_settled slot) ∙ e));
  }

  last : IsPart key g
  last = (all_front (IsPart key) fs g u.each).1

  pub last_key : g.rows.key ≡ key
  last_key = last.same_key

  pub last_united : IsUnited by g.rows.key (g ∷ [])
  last_united = alone_united by g u.route last.below last_settled

  at_end : slice_get (map wide_live (fs ++ g ∷ [])) (length (parts_of fs)) ≡ Some (wide_live g)
  at_end = (λ i. slice_get (map-append wide_live fs (g ∷ []) i) (sym long i)) ∙ get_last (map wide_live fs) (wide_live g)

  last_live : live_of (g ∷ []) ≡ finite.retain_keys (live_of (fs ++ g ∷ [])) (λ q. place_of (parts_of (fs ++ g ∷ [])) (part_of by q) == length (parts_of fs))
  last_live = finite.same_map row_cmp_total row_cmp-IsAntisymmetric _ _ (λ q. get_first row_cmp_total (wide_live g) [] q ∙ ap (option_or (finite.get (wide_live g) q)) (finite.get-empty row_cmp q) ∙ or_none (finite.get (wide_live g) q))
      ∙ sym (part_is row_cmp_total (λ q. place_of (parts_of (fs ++ g ∷ [])) (part_of by q)) row_cmp-IsAntisymmetric (map wide_live (fs ++ g ∷ [])) (length (parts_of fs)) (wide_live g) u.home at_end)

  rest_live : live_of fs ≡ finite.retain_keys (live_of (fs ++ g ∷ [])) (λ q. not (place_of (parts_of (fs ++ g ∷ [])) (part_of by q) == length (parts_of fs)))
  rest_live = rest_is row_cmp_total row_cmp-IsAntisymmetric (λ q. place_of (parts_of (fs ++ g ∷ [])) (part_of by q)) (map wide_live fs) (wide_live g)
      (subst (λ ms. AtHome (λ key. place_of (parts_of (fs ++ g ∷ [])) (part_of by key)) 0 ms) (map-append wide_live fs (g ∷ [])) u.home)
      ∙ (λ i. finite.retain_keys (united (sym (map-append wide_live fs (g ∷ [])) i)) (λ q. not (place_of (parts_of (fs ++ g ∷ [])) (part_of by q) == long i)))

  pub released : WasReleased (table_of limit by key (fs ++ g ∷ [])) (table_of limit by key fs) (table_of limit2 by g.rows.key (g ∷ []))
  released = record {
    parts = parts_more;
    one = (g.number, refl);
    joined = made_one limit by key fs limit2 by g.rows.key g;
    live = last_live;
    others = rest_live;
    keys = (last_key, refl);
    routes = refl;
  }

-- a table with a part that is lent has another one
pub lent_more : (f : Part) (fs : List Part) (h shell : TableValue) → parts_of (f ∷ fs) ≡ h.parts → IsLentBy h shell → fs ≡ [] → ⊥
lent_more f fs h shell parts l none =
    let long : length (parts_of (f ∷ [])) ≡ length (l.first ∷ (l.rest ++ l.part ∷ [])) = ap (λ gs. length (parts_of (f ∷ gs))) (sym none) ∙ ap length (parts ∙ l.parts) in
    omega (arith, long, length-append l.rest (l.part ∷ []))

-- the last part of a table goes back to the shell that it came from
module _ (limit limit2 : Option ℕ) (by by2 : Route) (f : Part) (os new : List Part) (g b : Part) (bos : List Part) (h k : TableValue) (u : IsUnited by f.rows.key (f ∷ os)) (view : table_of limit by f.rows.key (f ∷ os) ≡ h)
    (view2 : table_of limit2 by2 b.rows.key (b ∷ bos) ≡ k) (popped : os ≡ new ++ g ∷ []) (lent : IsLentBy h k) (nothing : IsSettled h) where
  whole : IsUnited by f.rows.key (f ∷ (new ++ g ∷ []))
  whole = subst (λ l. IsUnited by f.rows.key (f ∷ l)) popped u

  none_dead : (q : ℕ) → finite.get (dead_of (f ∷ (new ++ g ∷ []))) q ≡ None
  none_dead q = ap (λ l. finite.get (dead_of (f ∷ l)) q) (sym popped) ∙ ap (λ (x : TableValue). finite.get x.dead q) view ∙ ap (λ (m : DeadRows). finite.get m q) nothing ∙ finite.get-empty nat_cmp q

  no_others : bos ≡ []
  no_others = alone b bos lent.part (ap (λ (x : TableValue). x.parts) view2 ∙ lent.own)

  same_route : by ≡ by2
  same_route = ap (λ (x : TableValue). x.route) view ∙ sym lent.routes ∙ sym (ap (λ (x : TableValue). x.route) view2)

  pub self_kept : IsUnited by f.rows.key (f ∷ new)
  self_kept = front_united limit limit2 by f.rows.key (f ∷ new) g whole none_dead

  pub back_kept : IsUnited by2 g.rows.key (g ∷ bos)
  back_kept = subst (λ l. IsUnited by2 g.rows.key (g ∷ l)) (sym no_others) (subst (λ r. IsUnited r g.rows.key (g ∷ [])) same_route (last_united limit limit2 by f.rows.key (f ∷ new) g whole none_dead))

  -- the part that went back is that of the shell
  pub own_again : parts_of (g ∷ bos) ≡ k.parts
  own_again =
      let all : parts_of (f ∷ new) ++ g.number ∷ [] ≡ (lent.first ∷ lent.rest) ++ lent.part ∷ [] =
      sym (map-append (λ (f : Part). f.number) (f ∷ new) (g ∷ [])) ∙ ap (λ l. parts_of (f ∷ l)) (sym popped) ∙ ap (λ (x : TableValue). x.parts) view ∙ lent.parts in
      ap (λ l. parts_of (g ∷ l)) no_others ∙ ap (λ p. p ∷ []) (ends_alike (parts_of (f ∷ new)) (lent.first ∷ lent.rest) g.number lent.part all).1 ∙ sym lent.own

  pub parted : WasReleased h (table_of limit by f.rows.key (f ∷ new)) (table_of limit2 by2 g.rows.key (g ∷ bos))
  parted =
      let was : table_of limit by f.rows.key (f ∷ (new ++ g ∷ [])) ≡ h = ap (λ l. table_of limit by f.rows.key (f ∷ l)) (sym popped) ∙ view in
      subst (λ (x : TableValue). WasReleased x (table_of limit by f.rows.key (f ∷ new)) (table_of limit2 by2 g.rows.key (g ∷ bos))) was
      (subst (λ l. WasReleased (table_of limit by f.rows.key (f ∷ (new ++ g ∷ []))) (table_of limit by f.rows.key (f ∷ new)) (table_of limit2 by2 g.rows.key (g ∷ l))) (sym no_others)
      (subst (λ r. WasReleased (table_of limit by f.rows.key (f ∷ (new ++ g ∷ []))) (table_of limit by f.rows.key (f ∷ new)) (table_of limit2 r g.rows.key (g ∷ []))) same_route
      (released limit limit2 by f.rows.key (f ∷ new) g whole none_dead)))
