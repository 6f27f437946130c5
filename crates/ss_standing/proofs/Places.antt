-- Lists by place, and the last place that passes a test.
use Rattle.std.proofs.Common.{◌≡◌, ◌∙◌, ⊎_elim, ℕ, zero, suc, ◌+◌, ◌-◌, ◌<◌, ◌≤◌, min, cond, List, [], ◌∷◌, ◌++◌, length, map, get_or, Bool, true, false, not, ◌&&◌, ◌||◌, refl, sym, ap, subst, arith}
use Rattle.std.specs.List.{fold, range_with_len, list_any}
use Rattle.std.proofs.lemmas.Bool.{cases_lt, and_parts}
use Rattle.ss_model.specs.Results.{map_indexed}
use Rattle.ss_standing.specs.ImageForm.{is_last}

-- items that are made into others, and by their places made again
pub made_again : {A B : Type 0} (g : ℕ → A → B) (h : B → A) (ys : List B) (y : B) → ((i : ℕ) → i < length ys → g i (h (get_or ys i y)) ≡ get_or ys i y) → map_indexed g (map h ys) ≡ ys
made_again g h [] y each = refl
made_again g h (z ∷ ys) y each = λ k. each 0 (omega arith) k ∷ made_again (λ i. g (suc i)) h ys y (λ i lt. each (suc i) (omega (arith, lt))) k

-- ---- ranges

pub range_parts : (m n from : ℕ) → range_with_len from (m + n) ≡ range_with_len from m ++ range_with_len (from + m) n
range_parts zero n from =
    let size : 0 + n ≡ n = omega arith in
    let place : from ≡ from + 0 = omega arith in
    ap (range_with_len from) size ∙ ap (λ i. range_with_len i n) place
range_parts (suc m) n from =
    let size : suc m + n ≡ suc (m + n) = omega arith in
    let place : (from + 1) + m ≡ from + suc m = omega arith in
    ap (range_with_len from) size ∙ ap (λ (l : List ℕ). from ∷ l) (range_parts m n (from + 1) ∙ ap (λ i. range_with_len (from + 1) m ++ range_with_len i n) place)

-- a fold over numbers that change nothing
pub fold_idle : {A : Type 0} (f : A → ℕ → A) (a : A) (n from : ℕ) → ((q : ℕ) → from ≤ q → q < from + n → (b : A) → f b q ≡ b) → fold f a (range_with_len from n) ≡ a
fold_idle f a zero from idle = refl
fold_idle f a (suc n) from idle =
    ap (λ b. fold f b (range_with_len (from + 1) n)) (idle from (omega arith) (omega arith) a)
    ∙ fold_idle f a n (from + 1) (λ q above below. idle q (omega (arith, above)) (omega (arith, below)))

pub fold_alike : {A : Type 0} (f g : A → ℕ → A) (a : A) (n from : ℕ) → ((q : ℕ) → from ≤ q → q < from + n → (b : A) → f b q ≡ g b q) → fold f a (range_with_len from n) ≡ fold g a (range_with_len from n)
fold_alike f g a zero from alike = refl
fold_alike f g a (suc n) from alike =
    ap (λ b. fold f b (range_with_len (from + 1) n)) (alike from (omega arith) (omega arith) a)
    ∙ fold_alike f g (g a from) n (from + 1) (λ q above below. alike q (omega (arith, above)) (omega (arith, below)))

-- ---- the last that passes

none_in : (p : ℕ → Bool) (n from : ℕ) → list_any p (range_with_len from n) ≡ false → (q : ℕ) → from ≤ q → q < from + n → p q ≡ false
none_in p zero from none q above below = absurd (omega (arith, above, below))
none_in p (suc n) from none q above below =
    let parts = no_either (p from) (list_any p (range_with_len (from + 1) n)) none in
    ⊎_elim
    (λ (later : from < q). none_in p n (from + 1) parts.1 q (omega arith) (omega (arith, below)))
    (λ (le : q ≤ from). (let is : from ≡ q = omega (arith, above, le) in subst (λ i. p i ≡ false) is parts.0))
    (cases_lt from q)
  where
    no_either : (a b : Bool) → (a || b) ≡ false → (a ≡ false) × (b ≡ false)
    no_either true b e = cc
    no_either false b e = (refl, e)

in_none : (p : ℕ → Bool) (n from : ℕ) → ((q : ℕ) → from ≤ q → q < from + n → p q ≡ false) → list_any p (range_with_len from n) ≡ false
in_none p zero from none = refl
in_none p (suc n) from none = (λ k. none from (omega arith) (omega arith) k || list_any p (range_with_len (from + 1) n)) ∙ in_none p n (from + 1) (λ q above below. none q (omega (arith, above)) (omega (arith, below)))

not_false : (b : Bool) → not b ≡ true → b ≡ false
not_false true e = cc
not_false false e = refl

-- behind the last that passes none passes
pub behind_last : (p : ℕ → Bool) (n q : ℕ) → q < n → is_last p n q ≡ true → (r : ℕ) → q < r → r < n → p r ≡ false
behind_last p n q there is r after before =
    none_in p (n - (q + 1)) (q + 1) (not_false (list_any p (range_with_len (q + 1) (n - (q + 1)))) (and_parts (p q) (not (list_any p (range_with_len (q + 1) (n - (q + 1))))) is).1) r (omega arith) (omega (arith, after, before, there))

-- of these many, the last that passes
abbrev IsLatest : (ℕ → Bool) → ℕ → ℕ → Type 0
IsLatest p n last = (last < n) × (p last ≡ true) × ((r : ℕ) → last < r → r < n → p r ≡ false)

latest : (p : ℕ → Bool) (n q : ℕ) → q < n → p q ≡ true → (last : ℕ) × IsLatest p n last
latest p zero q there passes = absurd (omega (arith, there))
latest p (suc n) q there passes = by (p n) refl (latest p n q)
  where
    by : (b : Bool) → p n ≡ b → (q < n → p q ≡ true → (last : ℕ) × IsLatest p n last) → (last : ℕ) × IsLatest p (suc n) last
    by true is less = (n, (omega arith, is, λ r after before. absurd (omega (arith, after, before))))
    by false is less =
        let other : q ≡ n → ⊥ = λ same. (let both : true ≡ false = sym passes ∙ ap p same ∙ is in cc) in
        let rest = less (omega (arith, there, other)) passes in (
          rest.0,
          (
            omega (arith, rest.1.0),
            rest.1.1,
            λ r after before. ⊎_elim
                (λ (lt : r < n). rest.1.2 r after lt)
                (λ (ge : n ≤ r). (let same : n ≡ r = omega (arith, ge, before) in subst (λ i. p i ≡ false) same is))
                (cases_lt r n),
          ),
        )

-- where one passes there is a last one
pub some_last : (p : ℕ → Bool) (n q : ℕ) → q < n → p q ≡ true → (last : ℕ) × (last < n) × (is_last p n last ≡ true)
some_last p n q there passes =
    let is = latest p n q there passes in
    let none : list_any p (range_with_len (is.0 + 1) (n - (is.0 + 1))) ≡ false = in_none p (n - (is.0 + 1)) (is.0 + 1) (λ q above below. is.1.2 q (omega arith) (omega (arith, below))) in
    (is.0, is.1.0, (λ k. is.1.1 k && not (none k)))

-- ---- the least count

-- is no more than that with which it begins
pub least_within : (test : ℕ → Bool) (count : ℕ → ℕ) (a : ℕ) (qs : List ℕ) → fold (λ least q. cond (test q) (min least (count q)) least) a qs ≤ a
least_within test count a [] = omega arith
least_within test count a (q ∷ qs) =
    let rest = least_within test count (cond (test q) (min a (count q)) a) qs in
    let here = by (test q) in
    omega (arith, rest, here)
  where
    by : (b : Bool) → cond b (min a (count q)) a ≤ a
    by true = omega arith
    by false = omega arith
