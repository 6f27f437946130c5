-- The theorem on rules: where one token decides, reading is exact for what is spelled.
use Rattle.std.proofs.Common.{◌≡◌, ℕ, Bool, true, false, cond, List, [], ◌∷◌, ◌++◌, length, Ok, Err, refl, sym, subst, ◌∙◌, arith, ◌⊎◌, inl, inr, eqb}
use Rattle.std.specs.Prelude.{◌&&◌}
use Rattle.std.proofs.lemmas.Bool.{and_parts, or_right}
use Rattle.ss_lemmas.proofs.Bools.{chosen}
use Rattle.ss_sql_grammar.specs.Grammar.{Rule, one, nested, act, both, or, maybe, some, Kinds, IsOne, Made, Spells, ◌>>=◌, Reader, Each, Perhaps, perhaps, many, token, read, begins, has, apart, starts, goes_on, decides}
use Rattle.ss_sql_grammar.specs.Exact.{Front, Stuck, Passed, Part, Exact}
use Rattle.ss_sql_grammar.proofs.Parts.{bind_ok, bind_err, ok_is, has-append, apart_is, begins-append, begins_apart, map_passes, same_head, nonempty, uncons, starts_there, Closes, pair_exact}
use Rattle.ss_sql_grammar.proofs.Turns.{perhaps_part, many_part, nil_or, begins_solid, begins_front}

-- ---- a token

cons_inj : {T : Type 0} (t u : T) (ts : List T) → t ∷ ts ≡ u ∷ [] → (t ≡ u) × (ts ≡ [])
cons_inj t u ts e = (cc, cc)

one_starts : {T : Type 0} (kind : T → ℕ) (c : ℕ) (t : T) (ts : List T) (a : T) → IsOne kind c (t ∷ ts) a → begins kind (c ∷ []) (t ∷ ts) ≡ true
one_starts kind c t ts a h = let e = cons_inj t a ts h.alone in rw (e.0, h.fits) refl

one_sound : {T : Type 0} (kind : T → ℕ) (c : ℕ) (ts : List T) (x : T × List T) → token kind c ts ≡ Ok x → Front (IsOne kind c) ts x.0 x.1
one_sound kind c [] x e = absurd cc
one_sound {T = T} kind c (t ∷ ts) x e =
    elim (chosen (eqb (kind t) c) (Ok (t, ts)) (Err (length (t ∷ ts))) (Ok x) e) [
      | inl h ↦
          let made : Front (IsOne kind c) (t ∷ ts) t ts = record { front = t ∷ []; parts = refl; is = record { alone = refl; fits = h.0 } } in
          subst (λ (y : T × List T). Front (IsOne kind c) (t ∷ ts) y.0 y.1) (ok_is (t, ts) x h.1) made
      | inr h ↦ absurd (let g = h.1 in cc)
    ]

one_complete : {T : Type 0} (kind : T → ℕ) (c : ℕ) (front rest : List T) (a : T) → IsOne kind c front a → token kind c (front ++ rest) ≡ Ok (a, rest)
one_complete kind c front rest a h = rw (h.alone, h.fits) refl

one_stuck : {T : Type 0} (kind : T → ℕ) (c : ℕ) (spare : T) → (eqb (kind spare) c) ≡ true → (ts : List T) (n : ℕ) → token kind c ts ≡ Err n → Stuck (IsOne kind c) ts n
one_stuck kind c spare fits [] n e = record { front = []; rest = []; parts = refl; left = cc; more = spare ∷ []; tree = spare; is = record { alone = refl; fits = fits } }
one_stuck kind c spare fits (t ∷ ts) n e =
    elim (chosen (eqb (kind t) c) (Ok (t, ts)) (Err (length (t ∷ ts))) (Err n) e) [
      | inl h ↦ absurd (let g = h.1 in cc)
      | inr h ↦ record { front = []; rest = t ∷ ts; parts = refl; left = let g = h.1 in cc; more = spare ∷ []; tree = spare; is = record { alone = refl; fits = fits } }
    ]

one_front : {T : Type 0} (front more : List T) (t a : T) → front ++ t ∷ more ≡ a ∷ [] → (front ≡ []) × (t ≡ a)
one_front [] more t a e = (refl, cc)
one_front (x ∷ front) more t a e = let g = uncons x a (front ++ t ∷ more) [] e in absurd (nonempty front more t g.1)

one_passes : {T : Type 0} (kind : T → ℕ) (c : ℕ) (front more rest : List T) (t a : T) → IsOne kind c (front ++ t ∷ more) a → Passed (length rest) (token kind c (front ++ t ∷ rest))
one_passes kind c front more rest t a h =
    let g = one_front front more t a h.alone in
    let fits = h.fits in
    rw (g.0, g.1, fits) (omega arith)

pub one_exact : {T : Type 0} (kind : T → ℕ) (c : ℕ) (spare : T) → (eqb (kind spare) c) ≡ true → Exact kind (IsOne kind c) (token kind c) (c ∷ []) []
one_exact kind c spare fits = record {
  part = record {
    starts = one_starts kind c;
    sound = one_sound kind c;
    complete = λ front rest a h clear. one_complete kind c front rest a h;
    stuck = one_stuck kind c spare fits;
    passes = one_passes kind c;
    sample = record { text = spare ∷ []; tree = spare; is = record { alone = refl; fits = fits } };
  };
  solid = λ a h. let e = h.alone in absurd cc;
}

-- ---- a tree that is made of another

pub act_exact : {T A B : Type 0} (kind : T → ℕ) (P : List T → A → Type 0) (p : Reader T A) (first last : List ℕ) (f : A → B) → Exact kind P p first last
    → Exact kind (λ ts b. Made (P ts) f b) (λ ts. p ts >>= λ x. Ok (f x.0, x.1)) first last
act_exact {T = T} {B = B} kind P p first last f exact = record {
  part = record {
    starts = λ t ts b h. exact.part.starts t ts h.from h.is;
    sound = λ ts x e.
        let a = bind_ok (p ts) (λ x. Ok (f x.0, x.1)) x e in
        let g = exact.part.sound ts a.0 a.1 in
        let made : Front (λ ts b. Made (P ts) f b) ts (f a.0.0) a.0.1 = record { front = g.front; parts = g.parts; is = record { from = a.0.0; is = g.is; made = refl } } in
        subst (λ (y : B × List T). Front (λ ts b. Made (P ts) f b) ts y.0 y.1) (ok_is (f a.0.0, a.0.1) x a.2) made;
    complete = λ front rest b h clear. rw (exact.part.complete front rest h.from h.is clear, ← h.made) refl;
    stuck = λ ts n e. elim (bind_err (p ts) (λ x. Ok (f x.0, x.1)) n e) [
      | inl h ↦ let s = exact.part.stuck ts n h in record { front = s.front; rest = s.rest; parts = s.parts; left = s.left; more = s.more; tree = f s.tree; is = record { from = s.tree; is = s.is; made = refl } }
      | inr a ↦ absurd (let g = a.2 in cc)
    ];
    passes = λ front more rest t b h. map_passes (length rest) (p (front ++ t ∷ rest)) f (exact.part.passes front more rest t h.from h.is);
    sample = let s = exact.part.sample in record { text = s.text; tree = f s.tree; is = record { from = s.tree; is = s.is; made = refl } };
  };
  solid = λ b h. exact.solid h.from h.is;
}

-- ---- a choice

abbrev either : {T A : Type 0} → (T → ℕ) → List ℕ → Reader T A → Reader T A → Reader T A
either kind first p q ts = cond (begins kind first ts) (p ts) (q ts)

neither : (a b : Bool) → (a ≡ true → b ≡ false) → b ≡ true → a ≡ false
neither true b h e = absurd (let g = h refl in cc)
neither false b h e = refl

-- what begins with the second kinds does not begin with the first
not_first : {T : Type 0} (kind : T → ℕ) (first1 first2 : List ℕ) (ts : List T) → apart first1 first2 ≡ true → begins kind first2 ts ≡ true → begins kind first1 ts ≡ false
not_first kind first1 first2 [] far e = refl
not_first kind first1 first2 (t ∷ ts) far e = neither (has first1 (kind t)) (has first2 (kind t)) (apart_is first1 first2 (kind t) far) e

begins_or : {T : Type 0} (kind : T → ℕ) (xs ys : List ℕ) (ts : List T) → (begins kind xs ts ≡ true) ⊎ (begins kind ys ts ≡ true) → begins kind (xs ++ ys) ts ≡ true
begins_or kind xs ys [] (inl e) = e
begins_or kind xs ys [] (inr e) = e
begins_or kind xs ys (t ∷ ts) (inl e) = rw (has-append xs ys (kind t), e) refl
begins_or kind xs ys (t ∷ ts) (inr e) = has-append xs ys (kind t) ∙ or_right (has xs (kind t)) (has ys (kind t)) e

or_exact : {T A : Type 0} (kind : T → ℕ) (P Q : List T → A → Type 0) (p q : Reader T A) (first1 last1 first2 last2 : List ℕ) → Exact kind P p first1 last1 → Exact kind Q q first2 last2 → apart first1 first2 ≡ true
    → Exact kind (λ ts a. P ts a ⊎ Q ts a) (either kind first1 p q) (first1 ++ first2) (last1 ++ last2)
or_exact {T = T} kind P Q p q first1 last1 first2 last2 exact1 exact2 far = record {
  part = record {
    starts = λ t ts a h. elim h [ inl g ↦ begins_or kind first1 first2 (t ∷ ts) (inl (exact1.part.starts t ts a g)) | inr g ↦ begins_or kind first1 first2 (t ∷ ts) (inr (exact2.part.starts t ts a g)) ];
    sound = λ ts x e. elim (chosen (begins kind first1 ts) (p ts) (q ts) (Ok x) e) [
      | inl h ↦ let f = exact1.part.sound ts x h.1 in record { front = f.front; parts = f.parts; is = inl f.is }
      | inr h ↦ let f = exact2.part.sound ts x h.1 in record { front = f.front; parts = f.parts; is = inr f.is }
    ];
    complete = λ front rest a h clear.
        let c = begins-append kind last1 last2 rest clear in
        elim h [
          | inl g ↦ rw (begins_front kind first1 front rest (begins_solid kind P p first1 last1 exact1 front a g)) (exact1.part.complete front rest a g c.0)
          | inr g ↦ rw (not_first kind first1 first2 (front ++ rest) far (begins_front kind first2 front rest (begins_solid kind Q q first2 last2 exact2 front a g))) (exact2.part.complete front rest a g c.1)
        ];
    stuck = λ ts n e. elim (chosen (begins kind first1 ts) (p ts) (q ts) (Err n) e) [
      | inl h ↦ let s = exact1.part.stuck ts n h.1 in record { front = s.front; rest = s.rest; parts = s.parts; left = s.left; more = s.more; tree = s.tree; is = inl s.is }
      | inr h ↦ let s = exact2.part.stuck ts n h.1 in record { front = s.front; rest = s.rest; parts = s.parts; left = s.left; more = s.more; tree = s.tree; is = inr s.is }
    ];
    passes = λ front more rest t a h. elim h [
      | inl g ↦ rw (sym (same_head kind first1 front more rest t) ∙ starts_there kind P p first1 last1 exact1.part front more t a g) (exact1.part.passes front more rest t a g)
      | inr g ↦ rw (not_first kind first1 first2 (front ++ t ∷ rest) far (sym (same_head kind first2 front more rest t) ∙ starts_there kind Q q first2 last2 exact2.part front more t a g)) (exact2.part.passes front more rest t a g)
    ];
    sample = let s = exact1.part.sample in record { text = s.text; tree = s.tree; is = inl s.is };
  };
  solid = λ a h. elim h [ inl g ↦ exact1.solid a g | inr g ↦ exact2.solid a g ];
}

begins_neither : {T : Type 0} (kind : T → ℕ) (xs ys : List ℕ) (ts : List T) → begins kind xs ts ≡ false → begins kind ys ts ≡ false → begins kind (xs ++ ys) ts ≡ false
begins_neither kind xs ys [] e f = refl
begins_neither kind xs ys (t ∷ ts) e f = rw (has-append xs ys (kind t), e, f) refl

closes : {T B : Type 0} (kind : T → ℕ) (Q : List T → B → Type 0) (q : Reader T B) (first last2 last1 : List ℕ) → Part kind Q q first (first ++ last2) → apart first last1 ≡ true → Closes kind Q (first ++ (last2 ++ last1)) last1 (first ++ last2)
closes kind Q q first last2 last1 part far = record {
  first = λ back rest b h clear.
      let c = begins-append kind first (last2 ++ last1) rest clear in
      let d = begins-append kind last2 last1 rest c.1 in
      nil_or kind Q q first (first ++ last2) part last1 far back rest b h d.1;
  second = λ rest clear.
      let c = begins-append kind first (last2 ++ last1) rest clear in
      let d = begins-append kind last2 last1 rest c.1 in
      begins_neither kind first last2 rest c.0 d.0;
}

-- ---- all rules

pub rules_exact : {N T X A : Type 0} (k : Kinds N T) (S : N → List T → X → Type 0) (p : N → Reader T X)
    → ((n : N) → Exact k.kind (S n) (p n) (k.first n) (k.last n))
    → (g : Rule N T X A) → decides k g ≡ true → Exact k.kind (Spells k.kind S g) (read k p g) (starts k g) (goes_on k g)
rules_exact k S p inside (one c) d = one_exact k.kind c (k.spare c) d
rules_exact k S p inside (nested n) d = inside n
rules_exact k S p inside (act f g) d = act_exact k.kind (Spells k.kind S g) (read k p g) (starts k g) (goes_on k g) f (rules_exact k S p inside g d)
rules_exact k S p inside (both g h) d =
    let d1 = and_parts (decides k g) (decides k h && apart (starts k h) (goes_on k g)) d in
    let d2 = and_parts (decides k h) (apart (starts k h) (goes_on k g)) d1.1 in
    let second = rules_exact k S p inside h d2.0 in
    pair_exact k.kind (Spells k.kind S g) (Spells k.kind S h) (read k p g) (read k p h) (starts k g) (starts k h) (goes_on k h) (goes_on k g) (goes_on k h)
    (rules_exact k S p inside g d1.0) second.part d2.1
    (record { first = λ back rest b h2 clear. begins_apart k.kind (starts k h) (goes_on k g) (back ++ rest) d2.1 (begins_front k.kind (starts k h) back rest (begins_solid k.kind (Spells k.kind S h) (read k p h) (starts k h) (goes_on k h) second back b h2)); second = λ rest clear. clear })
rules_exact k S p inside (or g h) d =
    let d1 = and_parts (decides k g) (decides k h && apart (starts k g) (starts k h)) d in
    let d2 = and_parts (decides k h) (apart (starts k g) (starts k h)) d1.1 in
    or_exact k.kind (Spells k.kind S g) (Spells k.kind S h) (read k p g) (read k p h) (starts k g) (goes_on k g) (starts k h) (goes_on k h) (rules_exact k S p inside g d1.0) (rules_exact k S p inside h d2.0) d2.1
rules_exact k S p inside (maybe g h) d =
    let d1 = and_parts (decides k g) (decides k h && apart (starts k h) (goes_on k g)) d in
    let d2 = and_parts (decides k h) (apart (starts k h) (goes_on k g)) d1.1 in
    let second = perhaps_part k.kind (Spells k.kind S h) (read k p h) (starts k h) (goes_on k h) (rules_exact k S p inside h d2.0) in
    pair_exact k.kind (Spells k.kind S g) (Perhaps (Spells k.kind S h)) (read k p g) (perhaps (begins k.kind (starts k h)) (read k p h)) (starts k g) (starts k h) (starts k h ++ (goes_on k h ++ goes_on k g)) (goes_on k g) (starts k h ++ goes_on k h)
    (rules_exact k S p inside g d1.0) second d2.1 (closes k.kind (Perhaps (Spells k.kind S h)) (perhaps (begins k.kind (starts k h)) (read k p h)) (starts k h) (goes_on k h) (goes_on k g) second d2.1)
rules_exact k S p inside (some g h) d =
    let d1 = and_parts (decides k g) (decides k h && (apart (starts k h) (goes_on k g) && apart (starts k h) (goes_on k h))) d in
    let d2 = and_parts (decides k h) (apart (starts k h) (goes_on k g) && apart (starts k h) (goes_on k h)) d1.1 in
    let d3 = and_parts (apart (starts k h) (goes_on k g)) (apart (starts k h) (goes_on k h)) d2.1 in
    let second = many_part k.kind (Spells k.kind S h) (read k p h) (starts k h) (goes_on k h) (rules_exact k S p inside h d2.0) d3.1 in
    pair_exact k.kind (Spells k.kind S g) (Each (Spells k.kind S h)) (read k p g) (λ us. many (length us) (begins k.kind (starts k h)) (read k p h) us) (starts k g) (starts k h) (starts k h ++ (goes_on k h ++ goes_on k g)) (goes_on k g) (starts k h ++ goes_on k h)
    (rules_exact k S p inside g d1.0) second d3.0 (closes k.kind (Each (Spells k.kind S h)) (λ us. many (length us) (begins k.kind (starts k h)) (read k p h) us) (starts k h) (goes_on k h) (goes_on k g) second d3.0)
