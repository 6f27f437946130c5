-- Hints of which none waits twice.
use Rattle.std.proofs.Common.{◌≡◌, ◌≢◌, ◌<◌, ◌≤◌, ◌==◌, ◌||◌, ◌⊎◌, ◌∙◌, inl, inr, ℕ, zero, suc, Bool, true, false, List, [], ◌∷◌, ◌++◌, length, get_or, set, replicate, arith, ap, sym, subst, refl}
use Rattle.std.proofs.lemmas.Bool.{eqb-true, or_right}
use Rattle.std.proofs.Math.ListN.{length-set}
use Rattle.std.proofs.lemmas.Bool.Decides.{Decides-eqb, eqb_tells}
use Rattle.std.proofs.lemmas.List.{length_push, get_or-set_same, get_or-set_other}
use Rattle.std.proofs.lemmas.Map.Steps.{length-le_from_distinct_below}
use Rattle.std.specs.List.{AllByRecursion, IsDistinct, list_any}
use Rattle.ss_sched.specs.Lanes.{AreHints, IsMarked, has_hint}

below_member : (hs : List ℕ) → AllByRecursion (λ h. h < 64) hs → (q : ℕ) → list_any (λ h. q == h) hs ≡ true → q < 64
below_member [] all q any = cc
below_member (h ∷ hs) all q any = by (q == h) refl any (below_member hs all.1 q)
  where
    by : (b : Bool) → (q == h) ≡ b → (b || list_any (λ h. q == h) hs) ≡ true → (list_any (λ h. q == h) hs ≡ true → q < 64) → q < 64
    by true is any later = subst (λ n. n < 64) (sym (eqb-true q h is)) all.0
    by false is any later = later any

-- there are no more than procedures
pub few : (hs : List ℕ) → AreHints hs → length hs ≤ 64
few hs ok = length-le_from_distinct_below hs 64 ok.apart (below_member hs ok.below)

below_push : (hs : List ℕ) (p : ℕ) → AllByRecursion (λ h. h < 64) hs → p < 64 → AllByRecursion (λ h. h < 64) (hs ++ p ∷ [])
below_push [] p all lt = (lt, tt)
below_push (h ∷ hs) p all lt = (all.0, below_push hs p all.1 lt)

apart_push : (h : ℕ) (hs : List ℕ) (p : ℕ) → AllByRecursion (λ g. h == g ≡ false) hs → (h == p) ≡ false → AllByRecursion (λ g. h == g ≡ false) (hs ++ p ∷ [])
apart_push h [] p all other = (other, tt)
apart_push h (g ∷ gs) p all other = (all.0, apart_push h gs p all.1 other)

either_false : (a b : Bool) → (a || b) ≡ false → (a ≡ false) × (b ≡ false)
either_false true b e = cc
either_false false b e = (refl, e)

distinct_push : (hs : List ℕ) (p : ℕ) → IsDistinct (λ g h. g == h) hs → has_hint hs p ≡ false → IsDistinct (λ g h. g == h) (hs ++ p ∷ [])
unfolding IsDistinct
distinct_push [] p ok none = (tt, tt)
distinct_push (h ∷ hs) p ok none =
    let both = either_false (h == p) (has_hint hs p) none in
    (apart_push h hs p ok.0 both.0, distinct_push hs p ok.1 both.1)

-- one that didn't wait joins them
pub hint_more : (hs : List ℕ) (p : ℕ) → AreHints hs → p < 64 → has_hint hs p ≡ false → AreHints (hs ++ p ∷ [])
hint_more hs p ok lt none = record { below = below_push hs p ok.below lt; apart = distinct_push hs p ok.apart none }

pub room_left : (hs : List ℕ) (p : ℕ) → AreHints hs → p < 64 → has_hint hs p ≡ false → length hs < 64
room_left hs p ok lt none = let most = few (hs ++ p ∷ []) (hint_more hs p ok lt none) in let long = length_push hs p in omega arith

pub no_hints : AreHints []
unfolding IsDistinct
no_hints = record { below = tt; apart = tt }

pub hints_behind : (h : ℕ) (hs : List ℕ) → AreHints (h ∷ hs) → AreHints hs
unfolding IsDistinct
hints_behind h hs ok = record { below = ok.below.1; apart = ok.apart.1 }

-- ---- flags of the hints that wait
marked_push : (hs : List ℕ) (p q : ℕ) → has_hint (hs ++ p ∷ []) q ≡ (has_hint hs q || p == q)
marked_push [] p q = by (p == q)
  where
    by : (b : Bool) → (b || false) ≡ b
    by true = refl
    by false = refl
marked_push (h ∷ hs) p q = rw (marked_push hs p q) (by (h == q))
  where
    by : (b : Bool) → (b || (has_hint hs q || p == q)) ≡ ((b || has_hint hs q) || p == q)
    by true = refl
    by false = refl

or_nothing : (a b : Bool) → b ≡ false → (a || b) ≡ a
or_nothing true b e = refl
or_nothing false b e = e

-- a hint joins, and its flag is set
pub mark_more : (hs : List ℕ) (flags : List Bool) (p : ℕ) → p < 64 → IsMarked hs flags → IsMarked (hs ++ p ∷ []) (set flags p true)
mark_more hs flags p lt marked = (simp length-set marked.0, λ q. by q (eqb_tells p q))
  where
    by : (q : ℕ) → ((p == q ≡ true) × (p ≡ q)) ⊎ ((p == q ≡ false) × (p ≢ q)) → get_or (set flags p true) q false ≡ has_hint (hs ++ p ∷ []) q
    by q (inl same) = rw (← same.1) (get_or-set_same flags p true false (let long = marked.0 in omega arith)) ∙ sym (marked_push hs p q ∙ or_right _ _ same.0)
    by q (inr other) = get_or-set_other flags p q true false (λ e. other.1 (sym e)) ∙ marked.1 q ∙ sym (marked_push hs p q ∙ or_nothing (has_hint hs q) (p == q) other.0)

gone : (h : ℕ) (hs : List ℕ) → AllByRecursion (λ g. h == g ≡ false) hs → has_hint hs h ≡ false
gone h [] all = refl
gone h (g ∷ gs) all = by (eqb_tells g h) (gone h gs all.1)
  where
    by : ((g == h ≡ true) × (g ≡ h)) ⊎ ((g == h ≡ false) × (g ≢ h)) → has_hint gs h ≡ false → (g == h || has_hint gs h) ≡ false
    by (inl same) later = let other : (h == h) ≡ false = subst (λ n. h == n ≡ false) same.1 all.0 in let own : (h == h) ≡ true = (Decides-eqb h h).1 refl in cc
    by (inr other) later = rw other.0 later

-- the first hint goes, and its flag is reset
pub mark_less : (h : ℕ) (hs : List ℕ) (flags : List Bool) → AreHints (h ∷ hs) → IsMarked (h ∷ hs) flags → IsMarked hs (set flags h false)
unfolding IsDistinct
mark_less h hs flags ok marked = (simp length-set marked.0, λ q. by q (eqb_tells h q))
  where
    by : (q : ℕ) → ((h == q ≡ true) × (h ≡ q)) ⊎ ((h == q ≡ false) × (h ≢ q)) → get_or (set flags h false) q false ≡ has_hint hs q
    by q (inl same) = rw (← same.1) (get_or-set_same flags h false false (let long = marked.0 in let lt = ok.below.0 in omega arith) ∙ sym (gone h hs ok.apart.0))
    by q (inr other) = get_or-set_other flags h q false false (λ e. other.1 (sym e)) ∙ marked.1 q ∙ ap (λ b. b || has_hint hs q) other.0

no_flags : (n p : ℕ) → get_or (replicate n false) p false ≡ false
no_flags zero p = refl
no_flags (suc n) zero = refl
no_flags (suc n) (suc p) = no_flags n p

pub no_marks : IsMarked [] (replicate 64 false)
no_marks = (refl, no_flags 64)
