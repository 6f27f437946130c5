-- The indexes of a table, half by half: what holds of a list of them holds of the two that it is cut into, and the other way round.
use Rattle.std.proofs.Common.{◌≡◌, ℕ, suc, List, [], ◌∷◌, ◌++◌, length, refl, sym, ap, ◌∙◌, subst}
use Rattle.std.specs.List.{AllByRecursion}
use Rattle.ss_value.specs.Rows.{Row}
use Rattle.ss_index.specs.Pairs.{IndexValue, AreCounted, pair_of}
use Rattle.ss_index.specs.Parts.{joined}
use Rattle.ss_index.specs.Indexes.{with_rows, without_rows, HavePair, MayJoinAll, joined_all, AreLastShells, WereParted}
use Rattle.ss_index.proofs.Counting.{some_added}
use Rattle.ss_index.proofs.Taking.{row_taken_back}
use Rattle.ss_index.proofs.Uniting.{came_apart}

-- no pair of any index is listed with 0 occurrences
abbrev pub AllCounted : List IndexValue → Type 0
AllCounted hs = AllByRecursion (λ h. AreCounted h.pairs) hs

-- ---- a pair that is added to all and dropped

pub pairs_added : (row : Row) (slot : ℕ) (hs : List IndexValue) → HavePair row slot (with_rows row slot hs)
pairs_added row slot [] = tt
pairs_added row slot (h ∷ hs) = (some_added h.pairs (pair_of h.columns row slot), pairs_added row slot hs)

pub rows_taken_back : (row : Row) (slot : ℕ) (hs : List IndexValue) → AllCounted hs → without_rows row slot (with_rows row slot hs) ≡ hs
rows_taken_back row slot [] all = refl
rows_taken_back row slot (h ∷ hs) all = λ i. row_taken_back row slot h all.0 i ∷ rows_taken_back row slot hs all.1 i

-- ---- as many of both

pub as_many_join : (is ks : List IndexValue) → MayJoinAll is ks → length is ≡ length ks
as_many_join [] ks may = sym (ap length may)
as_many_join (i ∷ is) [] may = absurd may
as_many_join (i ∷ is) (k ∷ ks) may = ap suc (as_many_join is ks may.1)

pub as_many_shells : (is ks : List IndexValue) → AreLastShells is ks → length is ≡ length ks
as_many_shells [] ks are = sym (ap length are)
as_many_shells (i ∷ is) [] are = absurd are
as_many_shells (i ∷ is) (k ∷ ks) are = ap suc (as_many_shells is ks are.1)

-- ---- halves of both

pub halves_join : (a b c d : List IndexValue) → length a ≡ length c → MayJoinAll (a ++ b) (c ++ d) → MayJoinAll a c × MayJoinAll b d
halves_join [] b [] d e may = (refl, may)
halves_join [] b (k ∷ c) d e may = absurd (cc)
halves_join (i ∷ a) b [] d e may = absurd (cc)
halves_join (i ∷ a) b (k ∷ c) d e may = let rest = halves_join a b c d (cc) may.1 in ((may.0, rest.0), rest.1)

pub halves_joined : (a b c d : List IndexValue) → length a ≡ length c → joined_all (a ++ b) (c ++ d) ≡ joined_all a c ++ joined_all b d
halves_joined [] b [] d e = refl
halves_joined [] b (k ∷ c) d e = absurd (cc)
halves_joined (i ∷ a) b [] d e = absurd (cc)
halves_joined (i ∷ a) b (k ∷ c) d e = ap (λ t. joined i k ∷ t) (halves_joined a b c d (cc))

pub halves_shells : (a b c d : List IndexValue) → length a ≡ length c → AreLastShells (a ++ b) (c ++ d) → AreLastShells a c × AreLastShells b d
halves_shells [] b [] d e are = (refl, are)
halves_shells [] b (k ∷ c) d e are = absurd (cc)
halves_shells (i ∷ a) b [] d e are = absurd (cc)
halves_shells (i ∷ a) b (k ∷ c) d e are = let rest = halves_shells a b c d (cc) are.1 in ((are.0, rest.0), rest.1)

pub shells_of_both : (a b c d : List IndexValue) → AreLastShells a c → AreLastShells b d → AreLastShells (a ++ b) (c ++ d)
shells_of_both [] b c d left right = subst (λ c. AreLastShells b (c ++ d)) (sym left) right
shells_of_both (i ∷ a) b [] d left right = absurd left
shells_of_both (i ∷ a) b (k ∷ c) d left right = (left.0, shells_of_both a b c d left.1 right)

pub both_parted : (a b c d e f : List IndexValue) → WereParted a c e → WereParted b d f → WereParted (a ++ b) (c ++ d) (e ++ f)
both_parted [] b c d e f left right = subst (λ c. WereParted b (c ++ d) (e ++ f)) (sym left.0) (subst (λ e. WereParted b d (e ++ f)) (sym left.1) right)
both_parted (i ∷ a) b [] d e f left right = absurd left
both_parted (i ∷ a) b (k ∷ c) d [] f left right = absurd left
both_parted (i ∷ a) b (k ∷ c) d (h ∷ e) f left right = (left.0, both_parted a b c d e f left.1 right)

-- the same of lists that were cut
module _ (is ks a b c d : List IndexValue) (cut : is ≡ a ++ b) (also : ks ≡ c ++ d) (same : length a ≡ length c) where
  pub cut_join : MayJoinAll is ks → MayJoinAll a c × MayJoinAll b d
  cut_join may = halves_join a b c d same (subst (λ ks. MayJoinAll (a ++ b) ks) also (subst (λ is. MayJoinAll is ks) cut may))

  pub cut_shells : AreLastShells is ks → AreLastShells a c × AreLastShells b d
  cut_shells are = halves_shells a b c d same (subst (λ ks. AreLastShells (a ++ b) ks) also (subst (λ is. AreLastShells is ks) cut are))

  pub cut_joined : joined_all a c ++ joined_all b d ≡ joined_all is ks
  cut_joined = sym (halves_joined a b c d same) ∙ (λ j. joined_all (sym cut j) (sym also j))

-- ---- what was taken in and released

pub all_came_apart : (is ks news backs : List IndexValue) → MayJoinAll is ks → AllCounted is → AllCounted ks → WereParted (joined_all is ks) news backs
    → (news ≡ is) × (backs ≡ ks)
all_came_apart [] ks news backs may a b was = (was.0, was.1 ∙ sym may)
all_came_apart (i ∷ is) [] news backs may a b was = absurd may
all_came_apart (i ∷ is) (k ∷ ks) [] backs may a b was = absurd was
all_came_apart (i ∷ is) (k ∷ ks) (new ∷ news) [] may a b was = absurd was
all_came_apart (i ∷ is) (k ∷ ks) (new ∷ news) (back ∷ backs) may a b was =
    let one = came_apart i k may.0 a.0 b.0 new back was.0 in
    let rest = all_came_apart is ks news backs may.1 a.1 b.1 was.1 in
    (λ j. one.0 j ∷ rest.0 j, λ j. one.1 j ∷ rest.1 j)
