-- One turn of a loop that looks for a name that stands twice.
use Rattle.std.proofs.Common.{◌≡◌, ℕ, ◌+◌, ◌<◌, sym, ap, ◌∙◌, refl, Bool, true, false, cond, List, [], ◌∷◌, ◌++◌, length, get_or, map, drop, Option, None, Some, IfNone}
use Rattle.std.specs.Prelude.{not, option_map}
use Rattle.std.specs.List.{find}
use Rattle.std.specs.Option.{option_or}
use Rattle.ss_names.specs.Names.{is_among}
use Rattle.ss_catalog_outline.specs.Twice.{Standing, standing_behind, is_twice, first_twice}
use Rattle.ss_lemmas.proofs.LoopItem.{next}
use Rattle.ss_names.proofs.CallerLemmas.{with_name}

-- the first of two lists
pub first_twice_append : (ss ts : List Standing) → first_twice (ss ++ ts) ≡ option_or (first_twice ss) (first_twice ts)
first_twice_append [] ts = refl
first_twice_append (s ∷ ss) ts = by (is_twice s) (first_twice_append ss ts)
  where
    by : (b : Bool) → first_twice (ss ++ ts) ≡ option_or (first_twice ss) (first_twice ts) → option_map (λ (s : Standing). s.name) (cond b (Some s) (find is_twice (ss ++ ts))) ≡ option_or (option_map (λ (s : Standing). s.name) (cond b (Some s) (find is_twice ss))) (first_twice ts)
    by true h = refl
    by false h = h

module _ {X : Type 0} (name : X → List ℕ) (inside : X → List Standing) where
  -- the first of a list: its own name, one inside it, or one behind it
  pub first_twice_cons : (before : List (List ℕ)) (x : X) (xs : List X) → first_twice (standing_behind name inside before (x ∷ xs)) ≡ cond (is_among before (name x)) (Some (name x)) (option_or (first_twice (inside x)) (first_twice (standing_behind name inside (before ++ name x ∷ []) xs)))
  first_twice_cons before x xs = by (is_among before (name x))
    where
      by : (b : Bool) → option_map (λ (s : Standing). s.name) (cond b (Some (record { before = before; name = name x })) (find is_twice (inside x ++ standing_behind name inside (before ++ name x ∷ []) xs))) ≡ cond b (Some (name x)) (option_or (first_twice (inside x)) (first_twice (standing_behind name inside (before ++ name x ∷ []) xs)))
      by true = refl
      by false = first_twice_append (inside x) (standing_behind name inside (before ++ name x ∷ []) xs)

  module _ (start : List (List ℕ)) (xs : List X) (i : ℕ) (x : X) (seen : List (List ℕ)) (h : i < length xs) (e : x ≡ get_or xs i x) (so_far : first_twice (standing_behind name inside start xs) ≡ first_twice (standing_behind name inside seen (drop i xs))) where
    at_hand : first_twice (standing_behind name inside start xs) ≡ cond (is_among seen (name x)) (Some (name x)) (option_or (first_twice (inside x)) (first_twice (standing_behind name inside (seen ++ name x ∷ []) (drop (i + 1) xs))))
    at_hand = so_far ∙ ap (λ ys. first_twice (standing_behind name inside seen ys)) (next xs i x h e) ∙ first_twice_cons seen x (drop (i + 1) xs)

    -- the name at hand, and whether it is new
    module _ (n : List ℕ) (n_is : n ≡ name x) (fresh : Bool) (fresh_is : fresh ≡ not (is_among seen n)) where
      stood : (b : Bool) → fresh ≡ b → is_among seen (name x) ≡ not b
      stood b t = sym (not_not (is_among seen (name x))) ∙ ap not (sym (fresh_is ∙ ap (λ (m : List ℕ). not (is_among seen m)) n_is)) ∙ ap not t
        where
          not_not : (b : Bool) → not (not b) ≡ b
          not_not true = refl
          not_not false = refl

      abbrev choice : Bool → Option (List ℕ)
      choice b = cond b (Some (name x)) (option_or (first_twice (inside x)) (first_twice (standing_behind name inside (seen ++ name x ∷ []) (drop (i + 1) xs))))

      -- it occurred before
      pub twice_here : fresh ≡ false → (reported : List ℕ) → reported ≡ n → Some reported ≡ first_twice (standing_behind name inside start xs)
      twice_here t reported is = ap Some (is ∙ n_is) ∙ sym (at_hand ∙ ap choice (stood false t))

      module _ (t : fresh ≡ true) (after : List (List ℕ)) (grown : after ≡ with_name seen n) where
        -- it is behind those before
        pub after_here : after ≡ seen ++ name x ∷ []
        after_here = grown ∙ ap (with_name seen) n_is ∙ ap (λ b. cond b seen (seen ++ name x ∷ [])) (stood true t)

        -- the first is inside, or behind it
        pub new_here : first_twice (standing_behind name inside start xs) ≡ option_or (first_twice (inside x)) (first_twice (standing_behind name inside after (drop (i + 1) xs)))
        new_here =
            at_hand
            ∙ ap choice (stood true t)
            ∙ ap (λ ns. option_or (first_twice (inside x)) (first_twice (standing_behind name inside ns (drop (i + 1) xs)))) (sym after_here)

-- ---- the same of the same lists

pub in_is : {X : Type 0} (name : X → List ℕ) (l k : List X) (o : Option (List ℕ)) → o ≡ first_twice (standing_behind name (λ x. []) [] l) → l ≡ k → o ≡ first_twice (standing_behind name (λ x. []) [] k)
in_is name l k o e same = e ∙ ap (λ ys. first_twice (standing_behind name (λ x. []) [] ys)) same

pub among_is : {X : Type 0} (name : X → List ℕ) (inside : X → List Standing) (s t : List (List ℕ)) (l k : List X) (o : Option (List ℕ)) → o ≡ first_twice (standing_behind name inside s l) → s ≡ t → l ≡ k → o ≡ first_twice (standing_behind name inside t k)
among_is name inside s t l k o e before same = e ∙ ap (λ ns. first_twice (standing_behind name inside ns l)) before ∙ ap (λ ys. first_twice (standing_behind name inside t ys)) same

pub seen_is : {X : Type 0} (name : X → List ℕ) (s t after : List (List ℕ)) (l k : List X) (o : Option (List ℕ)) → IfNone o (after ≡ s ++ map name l) → o ≡ None → s ≡ t → l ≡ k → after ≡ t ++ map name k
seen_is name s t after l k None grown none before same = grown ∙ ap (λ ns. ns ++ map name l) before ∙ ap (λ ys. t ++ map name ys) same
seen_is name s t after l k (Some n) grown none before same = cc

-- ---- the same of a result
