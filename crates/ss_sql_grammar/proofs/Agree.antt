-- Readers that agree on shorter lists, and sets of kinds that grow.
use Rattle.std.proofs.Common.{◌≡◌, ℕ, zero, suc, ◌<◌, Bool, true, false, cond, List, [], ◌∷◌, length, Result, Ok, Err, refl, sym, ap, subst, ◌∙◌, arith, inl, inr, eqb}
use Rattle.std.specs.Prelude.{◌&&◌}
use Rattle.std.proofs.lemmas.Bool.{eqb-true, and_parts, or_cases}
use Rattle.ss_sql_grammar.specs.Grammar.{Rule, one, nested, act, both, or, maybe, some, Kinds, Spells, ◌>>=◌, Reader, pair, perhaps, many, read, begins, has, apart, starts, goes_on, decides, guarded, within}
use Rattle.ss_sql_grammar.specs.Exact.{Exact}
use Rattle.ss_sql_grammar.proofs.Turns.{longer}
use Rattle.ss_sql_grammar.proofs.Rules.{rules_exact}

-- ---- sets

within_is : (xs ys : List ℕ) (k : ℕ) → within xs ys ≡ true → has xs k ≡ true → has ys k ≡ true
within_is [] ys k w h = absurd cc
within_is (x ∷ xs) ys k w h =
    let p = and_parts (has ys x) (within xs ys) w in
    elim (or_cases (eqb k x) (has xs k) h) [
      | inl e ↦ subst (λ (z : ℕ). has ys z ≡ true) (sym (eqb-true k x e)) p.0
      | inr e ↦ within_is xs ys k p.1 e
    ]

within_not : (a b : Bool) → (a ≡ true → b ≡ true) → b ≡ false → a ≡ false
within_not true b h e = absurd (let g = h refl in cc)
within_not false b h e = refl

within_begins : {T : Type 0} (kind : T → ℕ) (xs ys : List ℕ) (ts : List T) → within xs ys ≡ true → begins kind ys ts ≡ false → begins kind xs ts ≡ false
within_begins kind xs ys [] w e = refl
within_begins kind xs ys (t ∷ ts) w e = within_not (has xs (kind t)) (has ys (kind t)) (within_is xs ys (kind t) w) e

pub widened : {T A : Type 0} (kind : T → ℕ) (S : List T → A → Type 0) (p : Reader T A) (first first2 last last2 : List ℕ) → within first first2 ≡ true → within last last2 ≡ true → Exact kind S p first last → Exact kind S p first2 last2
widened kind S p first first2 last last2 w v exact = record {
  part = record {
    starts = λ t ts a h. within_is first first2 (kind t) w (exact.part.starts t ts a h);
    sound = exact.part.sound;
    complete = λ front rest a h clear. exact.part.complete front rest a h (within_begins kind last last2 rest v clear);
    stuck = exact.part.stuck;
    passes = exact.part.passes;
    sample = exact.part.sample;
  };
  solid = exact.solid;
}

-- ---- agreement

bind_agree : {A B : Type 0} (r : Result A ℕ) (f g : A → Result B ℕ) → ((x : A) → r ≡ Ok x → f x ≡ g x) → (r >>= f) ≡ (r >>= g)
bind_agree (Ok x) f g h = h x refl
bind_agree (Err e) f g h = refl

pub shorter : {T A : Type 0} (kind : T → ℕ) (S : List T → A → Type 0) (p : Reader T A) (first last : List ℕ) → Exact kind S p first last → (ts : List T) (x : A × List T) → p ts ≡ Ok x → length x.1 < length ts
shorter kind S p first last exact ts x e = let f = exact.part.sound ts x e in let l = longer S f.front x.1 ts x.0 exact.solid f.is f.parts in omega arith

pair_agree : {T A B : Type 0} (p1 p2 : Reader T A) (q1 q2 : Reader T B) (ts : List T) → p1 ts ≡ p2 ts → ((x : A × List T) → p1 ts ≡ Ok x → q1 x.1 ≡ q2 x.1) → pair p1 q1 ts ≡ pair p2 q2 ts
pair_agree p1 p2 q1 q2 ts e h =
    bind_agree (p1 ts) (λ x. q1 x.1 >>= λ y. Ok ((x.0, y.0), y.1)) (λ x. q2 x.1 >>= λ y. Ok ((x.0, y.0), y.1)) (λ x g. rw (h x g) refl)
    ∙ rw e refl

many_agree : {T A : Type 0} (kind : T → ℕ) (S : List T → A → Type 0) (q1 q2 : Reader T A) (first last : List ℕ) → Exact kind S q1 first last → (m : ℕ) → ((ts : List T) → length ts < m → q1 ts ≡ q2 ts)
    → (n : ℕ) (begun : List T → Bool) (ts : List T) → length ts < m → many n begun q1 ts ≡ many n begun q2 ts
many_agree kind S q1 q2 first last exact m agrees zero begun ts lt = refl
many_agree {T = T} {A = A} kind S q1 q2 first last exact m agrees (suc n) begun ts lt =
    let turn : (q1 ts >>= λ y. many n begun q1 y.1 >>= λ z. Ok (y.0 ∷ z.0, z.1)) ≡ (q2 ts >>= λ y. many n begun q2 y.1 >>= λ z. Ok (y.0 ∷ z.0, z.1)) =
    bind_agree (q1 ts) (λ y. many n begun q1 y.1 >>= λ z. Ok (y.0 ∷ z.0, z.1)) (λ y. many n begun q2 y.1 >>= λ z. Ok (y.0 ∷ z.0, z.1))
    (λ y g. let l = shorter kind S q1 first last exact ts y g in rw (many_agree kind S q1 q2 first last exact m agrees n begun y.1 (omega arith)) refl)
    ∙ rw (agrees ts lt) refl in
    ap (λ (r : Result (List A × List T) ℕ). cond (begun ts) r (Ok ([], ts))) turn

abbrev AgreeBelow : {T A : Type 0} → ℕ → Reader T A → Reader T A → Type 0
AgreeBelow {T = T} m p q = (ts : List T) → length ts < m → p ts ≡ q ts

pub agree : {N T X A : Type 0} (k : Kinds N T) (S : N → List T → X → Type 0) (p q : N → Reader T X) (m : ℕ)
    → ((n : N) → Exact k.kind (S n) (p n) (k.first n) (k.last n)) → ((n : N) (ts : List T) → length ts < m → p n ts ≡ q n ts)
    → (g : Rule N T X A) → decides k g ≡ true → (ts : List T) → length ts < m → read k p g ts ≡ read k q g ts
agree k S p q m inside agrees (one c) d ts lt = refl
agree k S p q m inside agrees (nested n) d ts lt = agrees n ts lt
agree k S p q m inside agrees (act f g) d ts lt = rw (agree k S p q m inside agrees g d ts lt) refl
agree k S p q m inside agrees (both g h) d ts lt =
    let d1 = and_parts (decides k g) (decides k h && apart (starts k h) (goes_on k g)) d in
    let d2 = and_parts (decides k h) (apart (starts k h) (goes_on k g)) d1.1 in
    pair_agree (read k p g) (read k q g) (read k p h) (read k q h) ts (agree k S p q m inside agrees g d1.0 ts lt)
    (λ x e. let l = shorter k.kind (Spells k.kind S g) (read k p g) (starts k g) (goes_on k g) (rules_exact k S p inside g d1.0) ts x e in agree k S p q m inside agrees h d2.0 x.1 (omega arith))
agree k S p q m inside agrees (or g h) d ts lt =
    let d1 = and_parts (decides k g) (decides k h && apart (starts k g) (starts k h)) d in
    let d2 = and_parts (decides k h) (apart (starts k g) (starts k h)) d1.1 in
    rw (agree k S p q m inside agrees g d1.0 ts lt, agree k S p q m inside agrees h d2.0 ts lt) refl
agree k S p q m inside agrees (maybe g h) d ts lt =
    let d1 = and_parts (decides k g) (decides k h && apart (starts k h) (goes_on k g)) d in
    let d2 = and_parts (decides k h) (apart (starts k h) (goes_on k g)) d1.1 in
    pair_agree (read k p g) (read k q g) (perhaps (begins k.kind (starts k h)) (read k p h)) (perhaps (begins k.kind (starts k h)) (read k q h)) ts (agree k S p q m inside agrees g d1.0 ts lt)
    (λ x e. let l = shorter k.kind (Spells k.kind S g) (read k p g) (starts k g) (goes_on k g) (rules_exact k S p inside g d1.0) ts x e in rw (agree k S p q m inside agrees h d2.0 x.1 (omega arith)) refl)
agree k S p q m inside agrees (some g h) d ts lt =
    let d1 = and_parts (decides k g) (decides k h && (apart (starts k h) (goes_on k g) && apart (starts k h) (goes_on k h))) d in
    let d2 = and_parts (decides k h) (apart (starts k h) (goes_on k g) && apart (starts k h) (goes_on k h)) d1.1 in
    pair_agree (read k p g) (read k q g) (λ us. many (length us) (begins k.kind (starts k h)) (read k p h) us) (λ us. many (length us) (begins k.kind (starts k h)) (read k q h) us) ts (agree k S p q m inside agrees g d1.0 ts lt)
    (λ x e.
    let l = shorter k.kind (Spells k.kind S g) (read k p g) (starts k g) (goes_on k g) (rules_exact k S p inside g d1.0) ts x e in
    many_agree k.kind (Spells k.kind S h) (read k p h) (read k q h) (starts k h) (goes_on k h) (rules_exact k S p inside h d2.0) m (agree k S p q m inside agrees h d2.0) (length x.1) (begins k.kind (starts k h)) x.1 (omega arith))

-- behind a token the lists are shorter
pub agree_guarded : {N T X A : Type 0} (k : Kinds N T) (S : N → List T → X → Type 0) (p q : N → Reader T X) (m : ℕ)
    → ((n : N) → Exact k.kind (S n) (p n) (k.first n) (k.last n)) → ((n : N) (ts : List T) → length ts < m → p n ts ≡ q n ts)
    → (g : Rule N T X A) → decides k g ≡ true → guarded g ≡ true → (ts : List T) → length ts < suc m → read k p g ts ≡ read k q g ts
agree_guarded k S p q m inside agrees (one c) d w ts lt = refl
agree_guarded k S p q m inside agrees (nested n) d w ts lt = absurd cc
agree_guarded k S p q m inside agrees (act f g) d w ts lt = rw (agree_guarded k S p q m inside agrees g d w ts lt) refl
agree_guarded k S p q m inside agrees (both g h) d w ts lt =
    let d1 = and_parts (decides k g) (decides k h && apart (starts k h) (goes_on k g)) d in
    let d2 = and_parts (decides k h) (apart (starts k h) (goes_on k g)) d1.1 in
    pair_agree (read k p g) (read k q g) (read k p h) (read k q h) ts (agree_guarded k S p q m inside agrees g d1.0 w ts lt)
    (λ x e. let l = shorter k.kind (Spells k.kind S g) (read k p g) (starts k g) (goes_on k g) (rules_exact k S p inside g d1.0) ts x e in agree k S p q m inside agrees h d2.0 x.1 (omega arith))
agree_guarded k S p q m inside agrees (or g h) d w ts lt =
    let d1 = and_parts (decides k g) (decides k h && apart (starts k g) (starts k h)) d in
    let d2 = and_parts (decides k h) (apart (starts k g) (starts k h)) d1.1 in
    let v = and_parts (guarded g) (guarded h) w in
    rw (agree_guarded k S p q m inside agrees g d1.0 v.0 ts lt, agree_guarded k S p q m inside agrees h d2.0 v.1 ts lt) refl
agree_guarded k S p q m inside agrees (maybe g h) d w ts lt =
    let d1 = and_parts (decides k g) (decides k h && apart (starts k h) (goes_on k g)) d in
    let d2 = and_parts (decides k h) (apart (starts k h) (goes_on k g)) d1.1 in
    pair_agree (read k p g) (read k q g) (perhaps (begins k.kind (starts k h)) (read k p h)) (perhaps (begins k.kind (starts k h)) (read k q h)) ts (agree_guarded k S p q m inside agrees g d1.0 w ts lt)
    (λ x e. let l = shorter k.kind (Spells k.kind S g) (read k p g) (starts k g) (goes_on k g) (rules_exact k S p inside g d1.0) ts x e in rw (agree k S p q m inside agrees h d2.0 x.1 (omega arith)) refl)
agree_guarded k S p q m inside agrees (some g h) d w ts lt =
    let d1 = and_parts (decides k g) (decides k h && (apart (starts k h) (goes_on k g) && apart (starts k h) (goes_on k h))) d in
    let d2 = and_parts (decides k h) (apart (starts k h) (goes_on k g) && apart (starts k h) (goes_on k h)) d1.1 in
    pair_agree (read k p g) (read k q g) (λ us. many (length us) (begins k.kind (starts k h)) (read k p h) us) (λ us. many (length us) (begins k.kind (starts k h)) (read k q h) us) ts (agree_guarded k S p q m inside agrees g d1.0 w ts lt)
    (λ x e.
    let l = shorter k.kind (Spells k.kind S g) (read k p g) (starts k g) (goes_on k g) (rules_exact k S p inside g d1.0) ts x e in
    many_agree k.kind (Spells k.kind S h) (read k p h) (read k q h) (starts k h) (goes_on k h) (rules_exact k S p inside h d2.0) m (agree k S p q m inside agrees h d2.0) (length x.1) (begins k.kind (starts k h)) x.1 (omega arith))
