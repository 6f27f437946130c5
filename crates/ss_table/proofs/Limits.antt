-- Whether the rows of several parts reach a limit, and where a part stands among others.
use Rattle.std.proofs.Common.{◌≡◌, ℕ, ◌+◌, ◌-◌, ◌<◌, ◌==◌, nat_le, suc, Bool, true, false, cond, List, [], ◌∷◌, map, length, refl, sym, ap, subst, ◌∙◌, Option, Some, None, option_map, unwrap_or, arith}
use Rattle.std.specs.List.{position}
use Rattle.std.specs.Option.{IfSome, IfNone}
use Rattle.std.specs.FinMap as finite
use Rattle.std.proofs.lemmas.List.{length-map}
use Rattle.ss_value.specs.Rows.{Row}
use Rattle.ss_table.specs.declared.part.Part.{Part}
use Rattle.ss_table.specs.Unions.{sizes}
use Rattle.ss_table.specs.Routes.{place_among, place_of}
use Rattle.ss_table.specs.Parts.{to_wide, wide_live, parts_of}
use Rattle.ss_table.proofs.Wide.{entries_with_values, place_is, found_within}
use Rattle.ss_table.proofs.Joining.{same_itself}

-- a part has as many rows as its fragment
pub len_wide : (f : Part) → finite.len (wide_live f) ≡ finite.len f.rows.live
len_wide f = finite.len-entries (wide_live f) ∙ ap length (entries_with_values (to_wide f.number) f.rows.live) ∙ length-map (finite.entries f.rows.live) (λ (e : Row × (ℕ × Row)). (e.0, to_wide f.number e.1)) ∙ sym (finite.len-entries f.rows.live)

pub rest_step : (number left result : ℕ) (f : Part) (fs parts : List Part) → parts ≡ f ∷ fs → left ≡ number - finite.len f.rows.live → result ≡ left - sizes (map wide_live fs) → result ≡ number - sizes (map wide_live parts)
rest_step number left result f fs parts is l r =
    let here : finite.len (wide_live f) ≡ finite.len f.rows.live = len_wide f in
    let all : sizes (map wide_live parts) ≡ finite.len (wide_live f) + sizes (map wide_live fs) = ap (λ ps. sizes (map wide_live ps)) is in
    omega (arith, here, all, l, r)

pub rest_none : (number : ℕ) (parts : List Part) → parts ≡ [] → number ≡ number - sizes (map wide_live parts)
rest_none number parts is = let all : sizes (map wide_live parts) ≡ 0 = ap (λ ps. sizes (map wide_live ps)) is in omega (arith, all)

pub no_part : (parts : List Part) → length parts ≡ 0 → parts ≡ []
no_part [] e = refl
no_part (p ∷ ps) e = absurd (omega (arith, e))

reaches : (limit total rest : ℕ) → rest ≡ limit - total → (rest == 0) ≡ nat_le limit total
reaches limit total rest e = grind (arith, e)

pub limit_step : (limit left rest : ℕ) (f : Part) (fs : List Part) → left ≡ limit - finite.len f.rows.live → rest ≡ left - sizes (map wide_live fs) → (rest == 0) ≡ nat_le limit (sizes (map wide_live (f ∷ fs)))
limit_step limit left rest f fs l r = reaches limit (sizes (map wide_live (f ∷ fs))) rest (rest_step limit left rest f fs (f ∷ fs) refl l r)

-- ---- places

pub place_first : (f : Part) (fs : List Part) (p : ℕ) → f.number ≡ p → place_of (parts_of (f ∷ fs)) p ≡ 0
place_first f fs p e = ap (λ b. unwrap_or (cond b (Some 0) (option_map suc (place_among (parts_of fs) p))) 0) (ap (λ n. n == p) e ∙ same_itself p)

pub place_other : (f : Part) (fs : List Part) (p : ℕ) (r : Option ℕ) → (f.number == p) ≡ false → r ≡ position (λ f. f.number == p) fs → IfSome r (λ at. (place_of (parts_of (f ∷ fs)) p ≡ suc at) × (at < length fs))
place_other f fs p None other is = tt
place_other f fs p (Some at) other is =
    (ap (λ b. unwrap_or (cond b (Some 0) (option_map suc (place_among (parts_of fs) p))) 0) other ∙ ap (λ o. unwrap_or (option_map suc o) 0) (sym (place_is fs p) ∙ sym is), found_within (λ f. f.number == p) fs at (sym is))

pub place_none : (f : Part) (fs : List Part) (p : ℕ) (r : Option ℕ) → (f.number == p) ≡ false → r ≡ position (λ f. f.number == p) fs → IfNone r (place_of (parts_of (f ∷ fs)) p ≡ 0)
place_none f fs p None other is = ap (λ b. unwrap_or (cond b (Some 0) (option_map suc (place_among (parts_of fs) p))) 0) other ∙ ap (λ o. unwrap_or (option_map suc o) 0) (sym (place_is fs p) ∙ sym is)
place_none f fs p (Some at) other is = tt
