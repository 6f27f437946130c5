-- Lists of values, and of slots that are full.
use Rattle.std.proofs.Common.{◌≡◌, ℕ, zero, suc, ◌+◌, ◌<◌, List, [], ◌∷◌, ◌++◌, map, reverse, length, get_or, Option, Some, None, refl, sym, ap, ◌∙◌, arith, append_assoc}
use mathlib.Core.Option.{some}
use lib.ListN.{get_elem?}
use Rattle.atomic_table.specs.Table.{opening}
use Rattle.std.proofs.lemmas.List.{reverse-append}
use Rattle.ss_party.specs.Rule.{HasOwnValues}
use Rattle.ss_party.specs.Tags.{TagsFrom}

module _ {T : Type 0} where
  pub tags_more : (tag : T → ℕ) (n : ℕ) (xs : List T) (x : T) → TagsFrom tag n xs → tag x ≡ n + length xs → TagsFrom tag n (xs ++ x ∷ [])
  tags_more tag n [] x t is = (is ∙ (omega arith), tt)
  tags_more tag n (y ∷ ys) x t is = (t.0, tags_more tag (suc n) ys x t.1 (is ∙ (omega arith)))

  pub tags_at : (tag : T → ℕ) (n : ℕ) (xs : List T) (p : ℕ) → TagsFrom tag n xs → p < length xs → (v : T) × (get_elem? (map (λ (o : Option T). some o) (map (λ (x : T). Some x) xs)) p ≡ some (some (Some v))) × (tag v ≡ n + p)
  tags_at tag n [] p t low = absurd (omega arith)
  tags_at tag n (x ∷ xs) zero t low = (x, refl, t.0 ∙ (omega arith))
  tags_at tag n (x ∷ xs) (suc p) t low = let r = tags_at tag (suc n) xs p t.1 (omega arith) in (r.0, r.1, r.2 ∙ (omega arith))

  pub turn_one : (all front rest old : List T) (x : T) → all ≡ front ++ reverse old → old ≡ rest ++ x ∷ [] → all ≡ (front ++ x ∷ []) ++ reverse rest
  turn_one all front rest old x a b = a ∙ (ap (λ l. front ++ reverse l) b ∙ (ap (λ l. front ++ l) (reverse-append rest (x ∷ [])) ∙ sym (append_assoc front (x ∷ []) (reverse rest))))

  pub map_more : (xs : List T) (x : T) → map (λ (y : T). Some y) (xs ++ x ∷ []) ≡ map (λ (y : T). Some y) xs ++ Some x ∷ []
  map_more [] x = refl
  map_more (y ∷ ys) x = ap (λ l. Some y ∷ l) (map_more ys x)

  pub none_there : (a xs : List T) (rest : List (Option T)) → map (λ (y : T). Some y) xs ≡ map (λ (y : T). Some y) a ++ None ∷ rest → ⊥
  none_there [] [] rest e = absurd (cc)
  none_there [] (x ∷ xs) rest e = absurd (cc)
  none_there (b ∷ a) [] rest e = absurd (cc)
  none_there (b ∷ a) (x ∷ xs) rest e = none_there a xs rest (cc)

below : (ws : List ℕ) (p : ℕ) → get_or ws p 0 ≡ 1 → p < length ws
below [] p e = absurd (omega arith)
below (w ∷ ws) zero e = omega arith
below (w ∷ ws) (suc p) e = let h = below ws p e in omega arith

module _ {T : Type 0} where
  pub begins : (tag : T → ℕ) (ws : List ℕ) (xs : List T) → length ws ≡ length xs → TagsFrom tag 0 xs → HasOwnValues tag (opening ws (map (λ (x : T). Some x) xs) tt)
  begins tag ws xs same t = record { full = λ p e. let low = below ws p e in let r = tags_at tag 0 xs p t (omega arith) in (r.0, r.1, r.2 ∙ (omega arith)) }

  pub same_values : (xs ys : List T) → map (λ (x : T). Some x) xs ≡ map (λ (x : T). Some x) ys → xs ≡ ys
  same_values [] [] e = refl
  same_values [] (y ∷ ys) e = absurd (cc)
  same_values (x ∷ xs) [] e = absurd (cc)
  same_values (x ∷ xs) (y ∷ ys) e =
      let tail : map (λ (z : T). Some z) xs ≡ map (λ (z : T). Some z) ys = cc in
      let head : x ≡ y = cc in
      ap (λ (z : T). z ∷ xs) head ∙ ap (λ l. y ∷ l) (same_values xs ys tail)
