-- Which bodies procedures have, by number and by text.
use Rattle.std.proofs.Common.{◌≡◌, ◌≢◌, ◌<◌, ◌≤◌, ◌+◌, ◌-◌, ◌==◌, nat_lt, ◌||◌, ◌⊎◌, inl, inr, ℕ, zero, suc, Bool, true, false, cond, List, [], ◌∷◌, ◌++◌, set, get_or, length, replicate, refl, sym, ap, subst, ◌∙◌, Option, Some, None, slice_get, arith, unwrap_or, length-set}
use Rattle.std.proofs.lemmas.Bool.{cases_eq, ltb-false, ltb-true, or_left, or_right}
use Rattle.std.proofs.lemmas.Bool.Decides.{eqb_tells}
use Rattle.std.proofs.lemmas.List.{get_or-set_same, get_or-set_other, get_or_past}
use Rattle.std.proofs.lemmas.Option.{slice_get_within}
use Rattle.std.proofs.lemmas.Slice.Eq.{bytes_eq-Decides}
use Rattle.std.specs.List.{list_any, range_with_len}
use Rattle.std.specs.Option.{option_map}
use Rattle.std.specs.Str.{bytes_eq}
use Rattle.ss_lemmas.proofs.Bools.{some_same}
use Rattle.ss_lemmas.proofs.Numbers.{eqb_self}
use Rattle.ss_model.specs.declared.catalog.Body.{Body}
use Rattle.ss_model.specs.declared.catalog.Catalog.{Catalog}
use Rattle.ss_model.specs.declared.catalog.Procedure.{Procedure}
use Rattle.ss_model.specs.declared.catalog.Step.{Step}
use Rattle.ss_model.specs.Database.{Database, body_named, body_text, has_body, own_bodies, own_text, present, spare_bodies, steps_named, with_body}
use Rattle.ss_model.specs.Partitions.{seen_bodies}
use Rattle.ss_model.specs.Results.{map_indexed}
use Rattle.ss_model.specs.parts.HeldParts.{holds_some}
use Rattle.ss_model_kept.proofs.CallerLemmas.{get_or-map_index}
use Rattle.ss_shard.specs.Bodies.{HasBodies, IsBodyNumber, IsComing, present_on, steps_numbered, text_numbered, texts_of, with_coming}
use Rattle.ss_shard.specs.Parts.{AreRunning, is_among}
use Rattle.ss_shard.specs.Shards.{IsOf}
use Rattle.ss_shard.specs.ShardValue.{ShardValue}

-- ---- each procedure has its own

pub same_text : (text : List ℕ) → bytes_eq text text ≡ true
same_text text = (bytes_eq-Decides text text).1 refl

pub own_number : (catalog : Catalog) (q : ℕ) → IsBodyNumber catalog q 0
own_number catalog q = λ p. sym (ap (λ b. cond b p.body (unwrap_or (option_map (λ (b : Body). b.steps) (body_named (own_text catalog q) (spare_bodies catalog q))) p.body)) (same_text (own_text catalog q)))

no_number : (k q : ℕ) → get_or (replicate k zero) q zero ≡ zero
no_number zero q = refl
no_number (suc k) zero = refl
no_number (suc k) (suc q) = no_number k q

length_zeros : (k : ℕ) → length (replicate {A = ℕ} k 0) ≡ k
length_zeros zero = refl
length_zeros (suc k) = ap suc (length_zeros k)

pub own_numbers : (catalog : Catalog) → HasBodies catalog (replicate (length catalog.procedures) 0)
own_numbers catalog = record {
  count = length_zeros (length catalog.procedures);
  each = λ q. subst (IsBodyNumber catalog q) (sym (no_number (length catalog.procedures) q)) (own_number catalog q);
}

texts_at_first : (own : ℕ → List ℕ) (text : ℕ → ℕ → List ℕ) → ((q : ℕ) → text q 0 ≡ own q) → (ps : List Procedure) → map_indexed text (replicate (length ps) 0) ≡ map_indexed (λ q p. own q) ps
texts_at_first own text is [] = refl
texts_at_first own text is (p ∷ ps) = λ i. is 0 i ∷ texts_at_first (λ q. own (suc q)) (λ q. text (suc q)) (λ q. is (suc q)) ps i

pub own_texts : (catalog : Catalog) → texts_of catalog (replicate (length catalog.procedures) 0) ≡ own_bodies catalog
own_texts catalog = texts_at_first (own_text catalog) (text_numbered catalog) (λ q. refl) catalog.procedures

-- ---- the number of a text

module _ (text : List ℕ) where
  -- none of the first so many has this text
  abbrev pub NoneBefore : List Body → ℕ → Type 0
  NoneBefore bs k = (i : ℕ) (b : Body) → slice_get bs i ≡ Some b → i < k → bytes_eq b.text text ≡ false

  pub none_more : (bs : List Body) (k : ℕ) (b : Body) → NoneBefore bs k → slice_get bs k ≡ Some b → bytes_eq b.text text ≡ false → NoneBefore bs (k + 1)
  none_more bs k b none at fails = λ i c there below. by i c there below (cases_eq i k)
    where
      by : (i : ℕ) (c : Body) → slice_get bs i ≡ Some c → i < k + 1 → (i ≡ k) ⊎ (i ≡ k → ⊥) → bytes_eq c.text text ≡ false
      by i c there below (inl same) = ap (λ (x : Body). bytes_eq x.text text) (some_same c b (sym there ∙ ap (slice_get bs) same ∙ at)) ∙ fails
      by i c there below (inr other) = none i c there (let apart : i ≢ k = other in omega (arith, below))

  first_with : (bs : List Body) (k : ℕ) (b : Body) → NoneBefore bs k → slice_get bs k ≡ Some b → bytes_eq b.text text ≡ true
      → (body_named text bs ≡ Some b) × (list_any (λ (x : Body). bytes_eq x.text text) bs ≡ true)
  first_with [] k b none at is = cc
  first_with (x ∷ xs) zero b none at is =
      let one : x ≡ b = some_same x b at in
      let here : bytes_eq x.text text ≡ true = ap (λ (y : Body). bytes_eq y.text text) one ∙ is in
      (ap (λ t. cond t (Some x) (body_named text xs)) here ∙ ap Some one, or_left (bytes_eq x.text text) _ here)
  first_with (x ∷ xs) (suc k) b none at is =
      let rest = first_with xs k b (λ i c there below. none (suc i) c there (omega (arith, below))) at is in
      let fails : bytes_eq x.text text ≡ false = none 0 x refl (omega arith) in
      (ap (λ t. cond t (Some x) (body_named text xs)) fails ∙ rest.0, or_right (bytes_eq x.text text) _ rest.1)

  none_with : (bs : List Body) → NoneBefore bs (length bs) → list_any (λ (x : Body). bytes_eq x.text text) bs ≡ false
  none_with [] none = refl
  none_with (x ∷ xs) none =
      ap (λ t. t || list_any (λ (x : Body). bytes_eq x.text text) xs) (none 0 x refl (omega arith))
      ∙ none_with xs (λ i c there below. none (suc i) c there (omega (arith, below)))

  module _ (catalog : Catalog) (q : ℕ) where
    pub own_named : bytes_eq (own_text catalog q) text ≡ true → (text_numbered catalog q 0 ≡ text) × IsBodyNumber catalog q 0
    own_named own = ((bytes_eq-Decides (own_text catalog q) text).0 own, own_number catalog q)

    pub own_has : bytes_eq (own_text catalog q) text ≡ true → true ≡ has_body catalog q text
    own_has own = sym (or_left (bytes_eq (own_text catalog q) text) _ own)

    module _ (other : bytes_eq (own_text catalog q) text ≡ false) where
      module _ (i : ℕ) (b : Body) (none : NoneBefore (spare_bodies catalog q) i) (at : slice_get (spare_bodies catalog q) i ≡ Some b) (is : bytes_eq b.text text ≡ true) where
        text_is : text_numbered catalog q (suc i) ≡ text
        text_is = ap (λ (o : Option Body). unwrap_or (option_map (λ (b : Body). b.text) o) []) at ∙ (bytes_eq-Decides b.text text).0 is

        named_so : (p : Procedure) → steps_numbered catalog q (suc i) p ≡ steps_named catalog q text p
        named_so p =
            ap (λ (o : Option Body). unwrap_or (option_map (λ (b : Body). b.steps) o) p.body) (at ∙ sym (first_with (spare_bodies catalog q) i b none at is).0)
            ∙ sym (ap (λ t. cond t p.body (unwrap_or (option_map (λ (b : Body). b.steps) (body_named text (spare_bodies catalog q))) p.body)) other)

        after_it : suc i ≡ i + 1
        after_it = omega arith

        pub spare_named : (text_numbered catalog q (i + 1) ≡ text) × IsBodyNumber catalog q (i + 1)
        spare_named = subst (λ k. (text_numbered catalog q k ≡ text) × IsBodyNumber catalog q k) after_it
            (text_is, λ p. named_so p ∙ sym (ap (λ t. steps_named catalog q t p) text_is))

        pub spare_has : true ≡ has_body catalog q text
        spare_has = sym (or_right (bytes_eq (own_text catalog q) text) _ (first_with (spare_bodies catalog q) i b none at is).1)

      pub none_has : NoneBefore (spare_bodies catalog q) (length (spare_bodies catalog q)) → false ≡ has_body catalog q text
      none_has none = sym (ap (λ t. t || list_any (λ (x : Body). bytes_eq x.text text) (spare_bodies catalog q)) other ∙ none_with (spare_bodies catalog q) none)

-- the body of a number, where there is one
module _ (catalog : Catalog) (q k : ℕ) (apart : k ≢ 0) where
  before_it : k ≡ suc (k - 1)
  before_it = omega (arith, apart)

  pub spare_steps : (p : Procedure) (o : Option Body) → slice_get (spare_bodies catalog q) (k - 1) ≡ o → steps_numbered catalog q k p ≡ unwrap_or (option_map (λ (b : Body). b.steps) o) p.body
  spare_steps p o at = ap (λ n. steps_numbered catalog q n p) before_it ∙ ap (λ (o : Option Body). unwrap_or (option_map (λ (b : Body). b.steps) o) p.body) at

  pub spare_text : (o : Option Body) → slice_get (spare_bodies catalog q) (k - 1) ≡ o → text_numbered catalog q k ≡ unwrap_or (option_map (λ (b : Body). b.text) o) []
  spare_text o at = ap (text_numbered catalog q) before_it ∙ ap (λ (o : Option Body). unwrap_or (option_map (λ (b : Body). b.text) o) []) at

-- ---- numbers that are written over others

pub written_more : (numbers over : List ℕ) (k n : ℕ) → length over ≡ length numbers → ((i : ℕ) → i < k → get_or over i 0 ≡ get_or numbers i 0) → k < length numbers → get_or numbers k 0 ≡ n
    → (i : ℕ) → i < k + 1 → get_or (set over k n) i 0 ≡ get_or numbers i 0
written_more numbers over k n long same within is = λ i below. by i below (cases_eq i k)
  where
    by : (i : ℕ) → i < k + 1 → (i ≡ k) ⊎ (i ≡ k → ⊥) → get_or (set over k n) i 0 ≡ get_or numbers i 0
    by i below (inl one) = ap (λ j. get_or (set over k n) j 0) one ∙ get_or-set_same over k n 0 (omega (arith, long, within)) ∙ sym is ∙ ap (λ j. get_or numbers j 0) (sym one)
    by i below (inr other) = get_or-set_other over k i n 0 other ∙ same i (let apart : i ≢ k = other in omega (arith, below))

-- ---- which are seen

either_text : (b : Bool) (text : List ℕ) → cond b text text ≡ text
either_text true text = refl
either_text false text = refl

still_own : (own : ℕ → List ℕ) (b : Bool) (ps : List Procedure) → map_indexed (λ q text. cond b text (own q)) (map_indexed (λ q p. own q) ps) ≡ map_indexed (λ q p. own q) ps
still_own own b [] = refl
still_own own b (p ∷ ps) = λ i. either_text b (own 0) i ∷ still_own (λ q. own (suc q)) b ps i

pub own_seen : (catalog : Catalog) (b : Bool) → seen_bodies catalog b (own_bodies catalog) ≡ own_bodies catalog
own_seen catalog b = still_own (own_text catalog) b catalog.procedures

all_seen : (own : ℕ → List ℕ) (xs : List (List ℕ)) → map_indexed (λ q text. cond true text (own q)) xs ≡ xs
all_seen own [] = refl
all_seen own (x ∷ xs) = λ i. x ∷ all_seen (λ q. own (suc q)) xs i

any_in : (test : ℕ → Bool) (a k p : ℕ) → a ≤ p → p < a + k → test p ≡ true → list_any test (range_with_len a k) ≡ true
any_in test a zero p l h t = absurd (omega arith)
any_in test a (suc k) p l h t = by (eqb_tells a p) (λ apart. any_in test (a + 1) k p (omega (arith, apart)) (omega arith) t)
  where
    by : ((a == p ≡ true) × (a ≡ p)) ⊎ ((a == p ≡ false) × (a ≢ p)) → ((a ≢ p) → list_any test (range_with_len (a + 1) k) ≡ true) → (test a || list_any test (range_with_len (a + 1) k)) ≡ true
    by (inl same) later = or_left (test a) _ (ap test same.1 ∙ t)
    by (inr other) later = or_right (test a) _ (later other.1)

-- all of them where some partition that runs passes
pub seen_by : (catalog : Catalog) (n : ℕ) (test : ℕ → Bool) (p : ℕ) → p < n → test p ≡ true → (xs : List (List ℕ)) → seen_bodies catalog (holds_some n test) xs ≡ xs
seen_by catalog n test p h t xs = ap (λ b. seen_bodies catalog b xs) (any_in test 0 n p (omega arith) (omega arith) t) ∙ all_seen (own_text catalog) xs

pub seen_among : (catalog : Catalog) (n : ℕ) (held : List ℕ) → AreRunning n held → 1 ≤ length held → (xs : List (List ℕ)) → seen_bodies catalog (holds_some n (is_among held)) xs ≡ xs
seen_among catalog n [] runs some xs = absurd (omega (arith, some))
seen_among catalog n (p ∷ held) runs some xs = seen_by catalog n (is_among (p ∷ held)) p runs.0 (or_left (p == p) _ (eqb_self p)) xs

-- ---- which partitions run

pub running_more : (n : ℕ) (held : List ℕ) (p : ℕ) → AreRunning n held → p < n → AreRunning n (held ++ p ∷ [])
running_more n [] p runs h = (h, tt)
running_more n (q ∷ held) p runs h = (runs.0, running_more n held p runs.1 h)

pub running_less : (n : ℕ) (held : List ℕ) (p : ℕ) → AreRunning n (held ++ p ∷ []) → AreRunning n held × (p < n)
running_less n [] p runs = (tt, runs.0)
running_less n (q ∷ held) p runs = let rest = running_less n held p runs.1 in ((runs.0, rest.0), rest.1)

-- ---- the body that is to come

module _ (catalog : Catalog) where
  pub none_comes : (coming : Option (ℕ × ℕ)) → coming ≡ None → IsComing catalog coming
  none_comes coming is = subst (IsComing catalog) (sym is) tt

  pub still_numbers : (bodies : List ℕ) (coming : Option (ℕ × ℕ)) → HasBodies catalog bodies → IsComing catalog coming → HasBodies catalog (with_coming coming bodies)
  still_numbers bodies None has is = has
  still_numbers bodies (Some c) has is = record { count = length-set bodies c.0 c.1 ∙ has.count; each = λ q. by q (cases_eq q c.0) }
    where
      here : (q : ℕ) → q < length bodies → q ≡ c.0 → IsBodyNumber catalog q (get_or (set bodies c.0 c.1) q 0)
      here q h same =
          subst (λ k. IsBodyNumber catalog k (get_or (set bodies c.0 c.1) k 0)) (sym same)
          (subst (IsBodyNumber catalog c.0) (sym (get_or-set_same bodies c.0 c.1 0 (subst (λ k. k < length bodies) same h))) is)

      past : (q : ℕ) → length bodies ≤ q → IsBodyNumber catalog q (get_or (set bodies c.0 c.1) q 0)
      past q h =
          let long = length-set bodies c.0 c.1 in
          subst (IsBodyNumber catalog q) (sym (get_or_past (set bodies c.0 c.1) q 0 (omega (arith, long, h)))) (own_number catalog q)

      there : (q : ℕ) → q ≡ c.0 → (b : Bool) → nat_lt q (length bodies) ≡ b → IsBodyNumber catalog q (get_or (set bodies c.0 c.1) q 0)
      there q same true t = here q (ltb-true q (length bodies) t) same
      there q same false t = past q (ltb-false q (length bodies) t)

      by : (q : ℕ) → (q ≡ c.0) ⊎ (q ≡ c.0 → ⊥) → IsBodyNumber catalog q (get_or (set bodies c.0 c.1) q 0)
      by q (inl same) = there q same (nat_lt q (length bodies)) refl
      by q (inr other) = subst (IsBodyNumber catalog q) (sym (get_or-set_other bodies c.0 q c.1 0 other)) (has.each q)

texts_set : (text : ℕ → ℕ → List ℕ) (xs : List ℕ) (q k : ℕ) → map_indexed text (set xs q k) ≡ set (map_indexed text xs) q (text q k)
texts_set text [] q k = refl
texts_set text (x ∷ xs) zero k = refl
texts_set text (x ∷ xs) (suc q) k = ap (λ ts. text 0 x ∷ ts) (texts_set (λ i. text (suc i)) xs q k)

-- the texts once a procedure has another body
pub texts_with : (catalog : Catalog) (bodies : List ℕ) (q k : ℕ) → texts_of catalog (set bodies q k) ≡ set (texts_of catalog bodies) q (text_numbered catalog q k)
texts_with catalog bodies q k = texts_set (text_numbered catalog) bodies q k

-- ---- a procedure as it is in each database that a shard stands for

module _ (catalog : Catalog) (shard : ShardValue) (db : Database) (same : texts_of catalog shard.bodies ≡ db.bodies) where
  pub text_held : (q : ℕ) → q < length shard.bodies → body_text db q ≡ text_numbered catalog q (get_or shard.bodies q 0)
  text_held q h = ap (λ (ts : List (List ℕ)). get_or ts q []) (sym same) ∙ get_or-map_index (text_numbered catalog) shard.bodies q 0 [] h

  pub present_held : IsOf catalog shard → (q : ℕ) (p : Procedure) → slice_get catalog.procedures q ≡ Some p → present catalog db q p ≡ present_on catalog shard q p
  present_held is q p here =
      let within : q < length catalog.procedures = slice_get_within catalog.procedures q p here in
      let at : body_text db q ≡ text_numbered catalog q (get_or shard.bodies q 0) = text_held q (subst (λ k. q < k) (sym is.bodies.count) within) in
      ap (λ (steps : List Step). with_body steps p) (ap (λ text. steps_named catalog q text p) at ∙ sym (is.bodies.each q p))
