-- Two parts read one after the other.
use Rattle.std.proofs.Common.{◌≡◌, ℕ, ◌≤◌, Bool, true, false, not, List, [], ◌∷◌, ◌++◌, length, Result, Ok, Err, refl, sym, ap, subst, ◌∙◌, append_assoc, arith, ◌⊎◌, inl, inr, length-append, eqb}
use Rattle.std.specs.Prelude.{◌||◌}
use Rattle.std.proofs.lemmas.Bool.{eqb-true, and_parts, or_parts, or_cases, not-true}
use Rattle.ss_sql_grammar.specs.Grammar.{◌>>=◌, Reader, Splits, pair, begins, has, apart}
use Rattle.ss_sql_grammar.specs.Exact.{Front, Stuck, Passed, Part, Exact}

pub bind_ok : {A B : Type 0} (r : Result A ℕ) (f : A → Result B ℕ) (y : B) → (r >>= f) ≡ Ok y → (x : A) × (r ≡ Ok x) × (f x ≡ Ok y)
bind_ok (Ok x) f y e = (x, refl, e)
bind_ok (Err d) f y e = absurd cc

pub bind_err : {A B : Type 0} (r : Result A ℕ) (f : A → Result B ℕ) (n : ℕ) → (r >>= f) ≡ Err n → (r ≡ Err n) ⊎ ((x : A) × (r ≡ Ok x) × (f x ≡ Err n))
bind_err (Ok x) f n e = inr (x, refl, e)
bind_err (Err d) f n e = inl cc

abbrev done : {A : Type 0} → A → Result A ℕ
done x = Ok x

pub ok_is : {A : Type 0} (x y : A) → done x ≡ done y → x ≡ y
ok_is x y e = cc

-- ---- sets of kinds

or_assoc : (a b c : Bool) → (a || (b || c)) ≡ ((a || b) || c)
or_assoc true b c = refl
or_assoc false b c = refl

pub has-append : (xs ys : List ℕ) (k : ℕ) → has (xs ++ ys) k ≡ (has xs k || has ys k)
has-append [] ys k = refl
has-append (x ∷ xs) ys k = ap (λ (z : Bool). eqb k x || z) (has-append xs ys k) ∙ or_assoc (eqb k x) (has xs k) (has ys k)

pub apart_is : (xs ys : List ℕ) (k : ℕ) → apart xs ys ≡ true → has xs k ≡ true → has ys k ≡ false
apart_is [] ys k a h = absurd cc
apart_is (x ∷ xs) ys k a h =
    let p = and_parts (not (has ys x)) (apart xs ys) a in
    elim (or_cases (eqb k x) (has xs k) h) [
      | inl e ↦ subst (λ (z : ℕ). has ys z ≡ false) (sym (eqb-true k x e)) (not-true (has ys x) p.0)
      | inr e ↦ apart_is xs ys k p.1 e
    ]

pub begins-append : {T : Type 0} (kind : T → ℕ) (xs ys : List ℕ) (ts : List T) → begins kind (xs ++ ys) ts ≡ false → (begins kind xs ts ≡ false) × (begins kind ys ts ≡ false)
begins-append kind xs ys [] e = (refl, refl)
begins-append kind xs ys (t ∷ ts) e = or_parts (has xs (kind t)) (has ys (kind t)) (sym (has-append xs ys (kind t)) ∙ e)

pub begins_apart : {T : Type 0} (kind : T → ℕ) (xs ys : List ℕ) (ts : List T) → apart xs ys ≡ true → begins kind xs ts ≡ true → begins kind ys ts ≡ false
begins_apart kind xs ys [] a e = refl
begins_apart kind xs ys (t ∷ ts) a e = apart_is xs ys (kind t) a e

-- ---- how far reading gets

pub Passed-more : {T A : Type 0} (n m : ℕ) (r : Result (A × List T) ℕ) → n ≤ m → Passed n r → Passed m r
Passed-more n m (Ok x) le h = omega arith
Passed-more n m (Err e) le h = omega arith

pub map_passes : {T A B : Type 0} (n : ℕ) (r : Result (A × List T) ℕ) (f : A → B) → Passed n r → Passed n (r >>= λ x. Ok (f x.0, x.1))
map_passes n (Ok x) f h = h
map_passes n (Err e) f h = h

shrinks_at : {T A : Type 0} (kind : T → ℕ) (S : List T → A → Type 0) (p : Reader T A) (first last : List ℕ) → Part kind S p first last → (ts : List T) (r : Result (A × List T) ℕ) → p ts ≡ r → Passed (length ts) r
shrinks_at kind S p first last part ts (Ok x) e = let f = part.sound ts x e in omega (arith, simp length-append at (ap length f.parts))
shrinks_at kind S p first last part ts (Err n) e = let f = part.stuck ts n e in omega (arith, simp length-append at (ap length f.parts), f.left)

pub shrinks : {T A : Type 0} (kind : T → ℕ) (S : List T → A → Type 0) (p : Reader T A) (first last : List ℕ) → Part kind S p first last → (ts : List T) → Passed (length ts) (p ts)
shrinks kind S p first last part ts = shrinks_at kind S p first last part ts (p ts) refl

pub then_passes : {T A B C : Type 0} (n : ℕ) (r : Result (A × List T) ℕ) (q : Reader T B) (f : A → B → C) → Passed n r → ((ts : List T) → Passed (length ts) (q ts)) → Passed n (r >>= λ x. q x.1 >>= λ y. Ok (f x.0 y.0, y.1))
then_passes n (Ok x) q f h short = map_passes n (q x.1) (λ y. f x.0 y) (Passed-more (length x.1) n (q x.1) h (short x.1))
then_passes n (Err e) q f h short = h

-- ---- a token within the first part or behind it

pub record Within {T : Type 0} (u front : List T) (t : T) : Type 0 where
  pub more : List T
  pub parts : u ≡ front ++ t ∷ more

pub record Behind {T : Type 0} (u v front more : List T) (t : T) : Type 0 where
  pub middle : List T
  pub before : front ≡ u ++ middle
  pub behind : v ≡ middle ++ t ∷ more

pub uncons : {T : Type 0} (x y : T) (xs ys : List T) → x ∷ xs ≡ y ∷ ys → (x ≡ y) × (xs ≡ ys)
uncons x y xs ys e = (cc, cc)

further : {T : Type 0} (y z : T) (u v front more : List T) (t : T) → z ≡ y → Within u front t ⊎ Behind u v front more t → Within (y ∷ u) (z ∷ front) t ⊎ Behind (y ∷ u) v (z ∷ front) more t
further y z u v front more t e (inl w) = inl (record { more = w.more; parts = let h = w.parts in cc })
further y z u v front more t e (inr b) = inr (record { middle = b.middle; before = let h = b.before in cc; behind = b.behind })

pub where_is : {T : Type 0} (u v front more : List T) (t : T) → front ++ t ∷ more ≡ u ++ v → Within u front t ⊎ Behind u v front more t
where_is [] v front more t e = inr (record { middle = front; before = refl; behind = sym e })
where_is (y ∷ u) v [] more t e = let h = uncons t y more (u ++ v) e in inl (record { more = u; parts = let g = h.0 in cc })
where_is (y ∷ u) v (z ∷ front) more t e = let h = uncons z y (front ++ t ∷ more) (u ++ v) e in further y z u v front more t h.0 (where_is u v front more t h.1)

-- the same head
pub same_head : {T : Type 0} (kind : T → ℕ) (ks : List ℕ) (front more rest : List T) (t : T) → begins kind ks (front ++ t ∷ more) ≡ begins kind ks (front ++ t ∷ rest)
same_head kind ks [] more rest t = refl
same_head kind ks (x ∷ front) more rest t = refl

pub nonempty : {T : Type 0} (front more : List T) (t : T) → front ++ t ∷ more ≡ [] → ⊥
nonempty [] more t e = absurd cc
nonempty (x ∷ front) more t e = absurd cc

-- ---- one part and then another

abbrev pub Pair : {T A B : Type 0} → (List T → A → Type 0) → (List T → B → Type 0) → List T → A × B → Type 0
Pair P Q ts x = Splits (λ front. P front x.0) (λ back. Q back x.1) ts

-- behind the second part, or where it is empty, nothing goes on with the first
pub record Closes {T B : Type 0} (kind : T → ℕ) (Q : List T → B → Type 0) (last last1 last2 : List ℕ) : Type 0 where
  pub first : (back rest : List T) (b : B) → Q back b → begins kind last rest ≡ false → begins kind last1 (back ++ rest) ≡ false
  pub second : (rest : List T) → begins kind last rest ≡ false → begins kind last2 rest ≡ false

pair_sound : {T A B : Type 0} (P : List T → A → Type 0) (Q : List T → B → Type 0) (p : Reader T A) (q : Reader T B)
    → ((ts : List T) (x : A × List T) → p ts ≡ Ok x → Front P ts x.0 x.1) → ((ts : List T) (x : B × List T) → q ts ≡ Ok x → Front Q ts x.0 x.1)
    → (ts : List T) (x : (A × B) × List T) → pair p q ts ≡ Ok x → Front (Pair P Q) ts x.0 x.1
pair_sound {A = A} {B = B} P Q p q sp sq ts x e =
    let a = bind_ok (p ts) (λ x. q x.1 >>= λ y. Ok ((x.0, y.0), y.1)) x e in
    let b = bind_ok (q a.0.1) (λ y. Ok ((a.0.0, y.0), y.1)) x a.2 in
    let f = sp ts a.0 a.1 in
    let g = sq a.0.1 b.0 b.1 in
    let made : Front (Pair P Q) ts (a.0.0, b.0.0) b.0.1 = record {
      front = f.front ++ g.front;
      parts = f.parts ∙ ap (λ (u : List _). f.front ++ u) g.parts ∙ sym (append_assoc f.front g.front b.0.1);
      is = record { front = f.front; back = g.front; parts = refl; first = f.is; second = g.is };
    } in
    subst (λ (y : (A × B) × List _). Front (Pair P Q) ts y.0 y.1) (ok_is ((a.0.0, b.0.0), b.0.1) x b.2) made

pair_complete : {T A B : Type 0} (kind : T → ℕ) (P : List T → A → Type 0) (Q : List T → B → Type 0) (p : Reader T A) (q : Reader T B) (first1 first2 last last1 last2 : List ℕ)
    → Part kind P p first1 last1 → Part kind Q q first2 last2 → Closes kind Q last last1 last2
    → (front rest : List T) (x : A × B) → Pair P Q front x → begins kind last rest ≡ false → pair p q (front ++ rest) ≡ Ok (x, rest)
pair_complete kind P Q p q first1 first2 last last1 last2 exact1 exact2 closes front rest x s clear =
    let e : front ++ rest ≡ s.front ++ (s.back ++ rest) = ap (λ (u : List _). u ++ rest) s.parts ∙ append_assoc s.front s.back rest in
    let h1 = exact1.complete s.front (s.back ++ rest) x.0 s.first (closes.first s.back rest x.1 s.second clear) in
    let h2 = exact2.complete s.back rest x.1 s.second (closes.second rest clear) in
    ap (pair p q) e ∙ rw (h1, h2) refl

pair_stuck : {T A B : Type 0} (kind : T → ℕ) (P : List T → A → Type 0) (Q : List T → B → Type 0) (p : Reader T A) (q : Reader T B) (first1 first2 last1 last2 : List ℕ)
    → Part kind P p first1 last1 → Part kind Q q first2 last2
    → (ts : List T) (n : ℕ) → pair p q ts ≡ Err n → Stuck (Pair P Q) ts n
pair_stuck kind P Q p q first1 first2 last1 last2 exact1 exact2 ts n e =
    elim (bind_err (p ts) (λ x. q x.1 >>= λ y. Ok ((x.0, y.0), y.1)) n e) [
      | inl h ↦
          let k = exact1.stuck ts n h in
          let s = exact2.sample in
          record {
            front = k.front;
            rest = k.rest;
            parts = k.parts;
            left = k.left;
            more = k.more ++ s.text;
            tree = (k.tree, s.tree);
            is = record { front = k.front ++ k.more; back = s.text; parts = sym (append_assoc k.front k.more s.text); first = k.is; second = s.is };
          }
      | inr a ↦ elim (bind_err (q a.0.1) (λ y. Ok ((a.0.0, y.0), y.1)) n a.2) [
        | inl h ↦
            let f = exact1.sound ts a.0 a.1 in
            let k = exact2.stuck a.0.1 n h in
            record {
              front = f.front ++ k.front;
              rest = k.rest;
              parts = f.parts ∙ ap (λ (u : List _). f.front ++ u) k.parts ∙ sym (append_assoc f.front k.front k.rest);
              left = k.left;
              more = k.more;
              tree = (a.0.0, k.tree);
              is = record { front = f.front; back = k.front ++ k.more; parts = append_assoc f.front k.front k.more; first = f.is; second = k.is };
            }
        | inr b ↦ absurd (let h = b.2 in cc)
      ]
    ]

pub starts_there : {T A : Type 0} (kind : T → ℕ) (Q : List T → A → Type 0) (q : Reader T A) (first last : List ℕ) → Part kind Q q first last → (front more : List T) (t : T) (a : A) → Q (front ++ t ∷ more) a → begins kind first (front ++ t ∷ more) ≡ true
starts_there kind Q q first last part [] more t a h = part.starts t more a h
starts_there kind Q q first last part (x ∷ front) more t a h = part.starts x (front ++ t ∷ more) a h

pub nil_parts : {T : Type 0} (u v : List T) → [] ≡ u ++ v → u ≡ []
nil_parts [] v e = refl
nil_parts (x ∷ u) v e = absurd cc

pair_solid : {T A B : Type 0} (P : List T → A → Type 0) (Q : List T → B → Type 0) → ((a : A) → P [] a → ⊥) → (x : A × B) → Pair P Q [] x → ⊥
pair_solid P Q solid x s = solid x.0 (subst (λ u. P u x.0) (nil_parts s.front s.back s.parts) s.first)

pub starts_front : {T A : Type 0} (kind : T → ℕ) (P : List T → A → Type 0) (p : Reader T A) (first last : List ℕ) → Exact kind P p first last → (u v : List T) (t : T) (ts : List T) (a : A) → t ∷ ts ≡ u ++ v → P u a → begins kind first (t ∷ ts) ≡ true
starts_front kind P p first last exact [] v t ts a e h = absurd (exact.solid a h)
starts_front kind P p first last exact (x ∷ u) v t ts a e h = let g = uncons t x ts (u ++ v) e in subst (λ z. has first (kind z) ≡ true) (sym g.0) (exact.part.starts x u a h)

pair_starts : {T A B : Type 0} (kind : T → ℕ) (P : List T → A → Type 0) (Q : List T → B → Type 0) (p : Reader T A) (first1 last1 : List ℕ) → Exact kind P p first1 last1
    → (t : T) (ts : List T) (x : A × B) → Pair P Q (t ∷ ts) x → begins kind first1 (t ∷ ts) ≡ true
pair_starts kind P Q p first1 last1 exact t ts x s = starts_front kind P p first1 last1 exact s.front s.back t ts x.0 s.parts s.first

pair_passes : {T A B : Type 0} (kind : T → ℕ) (P : List T → A → Type 0) (Q : List T → B → Type 0) (p : Reader T A) (q : Reader T B) (first1 first2 last1 last2 : List ℕ)
    → Part kind P p first1 last1 → Part kind Q q first2 last2 → apart first2 last1 ≡ true
    → (front more rest : List T) (t : T) (x : A × B) → Pair P Q (front ++ t ∷ more) x → Passed (length rest) (pair p q (front ++ t ∷ rest))
pair_passes kind P Q p q first1 first2 last1 last2 exact1 exact2 far front more rest t x s =
    elim (where_is s.front s.back front more t s.parts) [
      | inl w ↦
          then_passes (length rest) (p (front ++ t ∷ rest)) q (λ a b. (a, b)) (exact1.passes front w.more rest t x.0 (subst (λ u. P u x.0) w.parts s.first)) (shrinks kind Q q first2 last2 exact2)
      | inr b ↦
          let second : Q (b.middle ++ t ∷ more) x.1 = subst (λ u. Q u x.1) b.behind s.second in
          let starts = starts_there kind Q q first2 last2 exact2 b.middle more t x.1 second in
          let clear : begins kind last1 (b.middle ++ t ∷ rest) ≡ false = begins_apart kind first2 last1 (b.middle ++ t ∷ rest) far (sym (same_head kind first2 b.middle more rest t) ∙ starts) in
          let h = exact1.complete s.front (b.middle ++ t ∷ rest) x.0 s.first clear in
          let e : front ++ t ∷ rest ≡ s.front ++ (b.middle ++ t ∷ rest) = ap (λ (u : List _). u ++ t ∷ rest) b.before ∙ append_assoc s.front b.middle (t ∷ rest) in
          subst (λ u. Passed (length rest) (pair p q u)) (sym e) (rw h (map_passes (length rest) (q (b.middle ++ t ∷ rest)) (λ y. (x.0, y)) (exact2.passes b.middle more rest t x.1 second)))
    ]

pub pair_exact : {T A B : Type 0} (kind : T → ℕ) (P : List T → A → Type 0) (Q : List T → B → Type 0) (p : Reader T A) (q : Reader T B) (first1 first2 last last1 last2 : List ℕ)
    → Exact kind P p first1 last1 → Part kind Q q first2 last2 → apart first2 last1 ≡ true → Closes kind Q last last1 last2 → Exact kind (Pair P Q) (pair p q) first1 last
pair_exact kind P Q p q first1 first2 last last1 last2 exact1 exact2 far closes = record {
  part = record {
    starts = pair_starts kind P Q p first1 last1 exact1;
    sound = pair_sound P Q p q exact1.part.sound exact2.sound;
    complete = pair_complete kind P Q p q first1 first2 last last1 last2 exact1.part exact2 closes;
    stuck = pair_stuck kind P Q p q first1 first2 last1 last2 exact1.part exact2;
    passes = pair_passes kind P Q p q first1 first2 last1 last2 exact1.part exact2 far;
    sample = let a = exact1.part.sample in let b = exact2.sample in record { text = a.text ++ b.text; tree = (a.tree, b.tree); is = record { front = a.text; back = b.text; parts = refl; first = a.is; second = b.is } };
  };
  solid = pair_solid P Q exact1.solid;
}
