-- Bays that are taken one after another, in rising order.
use Rattle.std.proofs.Common.{◌≡◌, ◌<◌, ◌≤◌, ◌+◌, ◌-◌, zero, suc, ◌⊎◌, inl, inr, ⊎_elim, ◌↔◌, ℕ, List, [], ◌∷◌, ◌++◌, All, Contains, length, length-append, get_or, refl, sym, ap, ◌∙◌, subst, arith}
use mathlib.Core.Logic.{dite}
use native.Mathlib.Decide.{ℕ_discrete}
use Rattle.std.specs.Int.{IsBitSet}
use Rattle.std.specs.List.Sorted.{IsStrictlyIncreasing}
use Rattle.std.proofs.lemmas.List.{length-map}
use Rattle.std.proofs.Math.ListN.{get_or-append}
use Rattle.std.proofs.Math.Seq.{get_or-append_seam}
use Rattle.std.proofs.lemmas.List.Elements.{All-nil, All-push, Contains-append_left, Contains-push, Contains-push_cases, Contains-get_or}
use Rattle.atomic_table.specs.Seated.{TableId}
use Rattle.ss_party.specs.Turns.{TurnValue, IsTaken, bays_of, IsGathered}

-- those of the set below p
pub record IsGatheredBelow {T : Type 0} (tag : T → ℕ) (bays : TableId) (set p : ℕ) (taken : List (T × TurnValue)) : Type 0 where
  pub own : All (λ one. IsTaken tag bays one.1.bay one) taken
  pub rising : IsStrictlyIncreasing (bays_of taken)
  pub below : (m : ℕ) → Contains (bays_of taken) m → m < p
  pub members : (m : ℕ) → m < p → IsBitSet set m ↔ Contains (bays_of taken) m

increases_push : (xs : List ℕ) (p : ℕ) → IsStrictlyIncreasing xs → ((m : ℕ) → Contains xs m → m < p) → IsStrictlyIncreasing (xs ++ p ∷ [])
increases_push xs p up low k within =
    let n = length-append xs (p ∷ []) in
    let here : k < length xs = omega arith in
    let at : get_or (xs ++ p ∷ []) k 0 ≡ get_or xs k 0 = get_or-append xs (p ∷ []) 0 k here in
    dite (ℕ_discrete (k + 1) (length xs))
    (λ (e : k + 1 ≡ length xs).
    let last : get_or (xs ++ p ∷ []) (k + 1) 0 ≡ p = ap (λ (i : ℕ). get_or (xs ++ p ∷ []) i 0) e ∙ get_or-append_seam xs p [] 0 in
    let less : get_or xs k 0 < p = low (get_or xs k 0) (Contains-get_or xs k 0 here) in
    omega arith)
    (λ ne.
    let more : k + 1 < length xs = omega arith in
    let next : get_or (xs ++ p ∷ []) (k + 1) 0 ≡ get_or xs (k + 1) 0 = get_or-append xs (p ∷ []) 0 (k + 1) more in
    let less : get_or xs k 0 < get_or xs (k + 1) 0 = up k more in
    omega arith)

-- a number of an increasing list is at least its position
at_least : (xs : List ℕ) → IsStrictlyIncreasing xs → (k : ℕ) → k < length xs → k ≤ get_or xs k 0
at_least xs up zero low = omega arith
at_least xs up (suc k) low =
    let more : k + 1 < length xs = omega arith in
    let less : get_or xs k 0 < get_or xs (k + 1) 0 = up k more in
    let before : k ≤ get_or xs k 0 = at_least xs up k (omega arith) in
    let here : k + 1 ≤ get_or xs (k + 1) 0 = omega arith in
    let same : k + 1 ≡ suc k = omega arith in
    subst (λ (j : ℕ). j ≤ get_or xs j 0) same here

few : (xs : List ℕ) (n : ℕ) → IsStrictlyIncreasing xs → ((m : ℕ) → Contains xs m → m < n) → length xs ≤ n
few xs n up below = dite (ℕ_discrete (length xs) 0)
    (λ (e : length xs ≡ 0). omega arith)
    (λ some.
    let within : length xs - 1 < length xs = omega arith in
    let last = at_least xs up (length xs - 1) within in
    let low = below (get_or xs (length xs - 1) 0) (Contains-get_or xs (length xs - 1) 0 within) in
    omega arith)

none_contained : (m : ℕ) → Contains [] m → ⊥
none_contained m h = let low = h.1 in absurd (omega arith)

module _ {T : Type 0} (tag : T → ℕ) (bays : TableId) where
  abbrev owned : T × TurnValue → Type 0
  owned one = IsTaken tag bays one.1.bay one

  bays_push : (xs : List (T × TurnValue)) (one : T × TurnValue) → bays_of (xs ++ one ∷ []) ≡ bays_of xs ++ one.1.bay ∷ []
  bays_push [] one = refl
  bays_push (x ∷ xs) one = ap (λ l. x.1.bay ∷ l) (bays_push xs one)

  pub none_gathered : (set : ℕ) → IsGatheredBelow tag bays set 0 []
  none_gathered set = record { own = All-nil owned; rising = λ k within. absurd (omega arith); below = λ m h. absurd (none_contained m h); members = λ m h. absurd (omega arith) }

  pub one_more : (set p : ℕ) (xs : List (T × TurnValue)) (one : T × TurnValue) → IsGatheredBelow tag bays set p xs → IsBitSet set p → IsTaken tag bays p one → IsGatheredBelow tag bays set (p + 1) (xs ++ one ∷ [])
  one_more set p xs one g member t =
      subst (λ (q : ℕ). IsGatheredBelow tag bays set (q + 1) (xs ++ one ∷ [])) is record {
        own = All-push owned xs one g.own (subst (λ (q : ℕ). IsTaken tag bays q one) (sym is) t);
        rising = subst IsStrictlyIncreasing (sym (bays_push xs one)) (increases_push (bays_of xs) one.1.bay g.rising low);
        below = λ m h. ⊎_elim (λ (a : Contains (bays_of xs) m). let l = low m a in omega arith) (λ (s : one.1.bay ≡ m). omega arith) (cases m h);
        members = λ m h. (
          (λ i. subst (λ (l : List ℕ). Contains l m) (sym (bays_push xs one)) (by m (below_or m h) i)),
          (λ i. ⊎_elim (λ (a : Contains (bays_of xs) m). (g.members m (g.below m a)).1 a) (λ (s : one.1.bay ≡ m). subst (IsBitSet set) (sym is ∙ s) member) (cases m i)),
        );
      }
    where
      is : one.1.bay ≡ p
      is = ap (λ (v : TurnValue). v.bay) t.turn

      low : (m : ℕ) → Contains (bays_of xs) m → m < one.1.bay
      low m h = let l = g.below m h in let e = is in omega arith

      cases : (m : ℕ) → Contains (bays_of (xs ++ one ∷ [])) m → Contains (bays_of xs) m ⊎ (one.1.bay ≡ m)
      cases m h = Contains-push_cases (bays_of xs) one.1.bay m (subst (λ (l : List ℕ). Contains l m) (bays_push xs one) h)

      below_or : (m : ℕ) → m < one.1.bay + 1 → (m < one.1.bay) ⊎ (one.1.bay ≡ m)
      below_or m h = dite (ℕ_discrete m one.1.bay) (λ (e : m ≡ one.1.bay). inr (sym e)) (λ ne. inl (omega arith))

      by : (m : ℕ) → (m < one.1.bay) ⊎ (one.1.bay ≡ m) → IsBitSet set m → Contains (bays_of xs ++ one.1.bay ∷ []) m
      by m (inl h) i = Contains-append_left (bays_of xs) (one.1.bay ∷ []) m ((g.members m (let e = is in omega arith)).0 i)
      by m (inr s) i = subst (λ (n : ℕ). Contains (bays_of xs ++ one.1.bay ∷ []) n) s (Contains-push (bays_of xs) one.1.bay)

  pub passed_over : (set p : ℕ) (xs : List (T × TurnValue)) → IsGatheredBelow tag bays set p xs → (IsBitSet set p → ⊥) → IsGatheredBelow tag bays set (p + 1) xs
  passed_over set p xs g out = record {
    own = g.own;
    rising = g.rising;
    below = λ m h. let l = g.below m h in omega arith;
    members = λ m h. dite (ℕ_discrete m p)
        (λ (e : m ≡ p). ((λ i. absurd (out (subst (IsBitSet set) e i))), (λ i. let l = g.below m i in absurd (omega arith))))
        (λ ne. g.members m (omega arith));
  }

  pub all_gathered : (set n : ℕ) (xs : List (T × TurnValue)) → IsGatheredBelow tag bays set n xs → ((p : ℕ) → IsBitSet set p → p < n) → IsGathered tag bays set xs
  all_gathered set n xs g within = record { own = g.own; rising = g.rising; members = λ p. ((λ i. (g.members p (within p i)).0 i), (λ i. (g.members p (g.below p i)).1 i)) }

  -- no more than there are bays
  pub few_gathered : (set n : ℕ) (xs : List (T × TurnValue)) → IsGathered tag bays set xs → ((p : ℕ) → IsBitSet set p → p < n) → length xs ≤ n
  few_gathered set n xs g within =
      let h = few (bays_of xs) n g.rising (λ m i. within m ((g.members m).1 i)) in
      let e : length (bays_of xs) ≡ length xs = length-map xs (λ one. one.1.bay) in
      omega arith
