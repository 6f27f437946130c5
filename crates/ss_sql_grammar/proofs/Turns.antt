-- What may come once, and what may come any number of times.
use Rattle.std.proofs.Common.{◌≡◌, ℕ, zero, suc, ◌≤◌, Bool, true, false, List, [], ◌∷◌, ◌++◌, length, Option, Some, None, Result, Ok, Err, refl, sym, ap, subst, ◌∙◌, append_assoc, arith, inl, inr, length-append}
use Rattle.std.proofs.lemmas.List.{append-nil}
use Rattle.ss_lemmas.proofs.Bools.{chosen}
use Rattle.ss_sql_grammar.specs.Grammar.{◌>>=◌, Reader, Each, Perhaps, perhaps, many, begins, has, apart}
use Rattle.ss_sql_grammar.specs.Exact.{Front, Stuck, Passed, Part, Exact}
use Rattle.ss_sql_grammar.proofs.Parts.{bind_ok, bind_err, ok_is, apart_is, begins-append, begins_apart, map_passes, then_passes, where_is, same_head, nonempty, starts_there, starts_front}

pub nil_or : {T A : Type 0} (kind : T → ℕ) (Q : List T → A → Type 0) (q : Reader T A) (first last : List ℕ) → Part kind Q q first last → (other : List ℕ) → apart first other ≡ true
    → (front rest : List T) (a : A) → Q front a → begins kind other rest ≡ false → begins kind other (front ++ rest) ≡ false
nil_or kind Q q first last part other far [] rest a h clear = clear
nil_or kind Q q first last part other far (t ∷ front) rest a h clear = apart_is first other (kind t) far (part.starts t front a h)

-- ---- once or not at all

perhaps_sound : {T A : Type 0} (kind : T → ℕ) (Q : List T → A → Type 0) (q : Reader T A) (first last : List ℕ) → Exact kind Q q first last
    → (ts : List T) (x : Option A × List T) → perhaps (begins kind first) q ts ≡ Ok x → Front (Perhaps Q) ts x.0 x.1
perhaps_sound {T = T} {A = A} kind Q q first last exact ts x e =
    elim (chosen (begins kind first ts) (q ts >>= λ y. Ok (Some y.0, y.1)) (Ok (None, ts)) (Ok x) e) [
      | inl h ↦
          let a = bind_ok (q ts) (λ y. Ok (Some y.0, y.1)) x h.1 in
          let f = exact.part.sound ts a.0 a.1 in
          let made : Front (Perhaps Q) ts (Some a.0.0) a.0.1 = record { front = f.front; parts = f.parts; is = f.is } in
          subst (λ (y : Option A × List T). Front (Perhaps Q) ts y.0 y.1) (ok_is (Some a.0.0, a.0.1) x a.2) made
      | inr h ↦
          let made : Front (Perhaps Q) ts None ts = record { front = []; parts = refl; is = refl } in
          subst (λ (y : Option A × List T). Front (Perhaps Q) ts y.0 y.1) (ok_is (None, ts) x h.1) made
    ]

perhaps_complete : {T A : Type 0} (kind : T → ℕ) (Q : List T → A → Type 0) (q : Reader T A) (first last : List ℕ) → Exact kind Q q first last
    → (front rest : List T) (a : Option A) → Perhaps Q front a → begins kind (first ++ last) rest ≡ false → perhaps (begins kind first) q (front ++ rest) ≡ Ok (a, rest)
perhaps_complete kind Q q first last exact front rest None h clear =
    let c = begins-append kind first last rest clear in
    rw (h, c.0) refl
perhaps_complete kind Q q first last exact [] rest (Some b) h clear = absurd (exact.solid b h)
perhaps_complete kind Q q first last exact (t ∷ front) rest (Some b) h clear =
    let c = begins-append kind first last rest clear in
    let s : has first (kind t) ≡ true = exact.part.starts t front b h in
    rw (s, exact.part.complete (t ∷ front) rest b h c.1) refl

perhaps_stuck : {T A : Type 0} (kind : T → ℕ) (Q : List T → A → Type 0) (q : Reader T A) (first last : List ℕ) → Exact kind Q q first last
    → (ts : List T) (n : ℕ) → perhaps (begins kind first) q ts ≡ Err n → Stuck (Perhaps Q) ts n
perhaps_stuck kind Q q first last exact ts n e =
    elim (chosen (begins kind first ts) (q ts >>= λ y. Ok (Some y.0, y.1)) (Ok (None, ts)) (Err n) e) [
      | inl h ↦ elim (bind_err (q ts) (λ y. Ok (Some y.0, y.1)) n h.1) [
        | inl k ↦ let s = exact.part.stuck ts n k in record { front = s.front; rest = s.rest; parts = s.parts; left = s.left; more = s.more; tree = Some s.tree; is = s.is }
        | inr k ↦ absurd (let g = k.2 in cc)
      ]
      | inr h ↦ absurd (let g = h.1 in cc)
    ]

perhaps_starts : {T A : Type 0} (kind : T → ℕ) (Q : List T → A → Type 0) (q : Reader T A) (first last : List ℕ) → Exact kind Q q first last
    → (t : T) (ts : List T) (a : Option A) → Perhaps Q (t ∷ ts) a → begins kind first (t ∷ ts) ≡ true
perhaps_starts kind Q q first last exact t ts None h = absurd (cc)
perhaps_starts kind Q q first last exact t ts (Some b) h = exact.part.starts t ts b h

perhaps_passes : {T A : Type 0} (kind : T → ℕ) (Q : List T → A → Type 0) (q : Reader T A) (first last : List ℕ) → Exact kind Q q first last
    → (front more rest : List T) (t : T) (a : Option A) → Perhaps Q (front ++ t ∷ more) a → Passed (length rest) (perhaps (begins kind first) q (front ++ t ∷ rest))
perhaps_passes kind Q q first last exact front more rest t None h = absurd (nonempty front more t h)
perhaps_passes kind Q q first last exact front more rest t (Some b) h =
    let s : begins kind first (front ++ t ∷ rest) ≡ true = sym (same_head kind first front more rest t) ∙ starts_there kind Q q first last exact.part front more t b h in
    rw s (map_passes (length rest) (q (front ++ t ∷ rest)) Some (exact.part.passes front more rest t b h))

pub perhaps_part : {T A : Type 0} (kind : T → ℕ) (Q : List T → A → Type 0) (q : Reader T A) (first last : List ℕ) → Exact kind Q q first last
    → Part kind (Perhaps Q) (perhaps (begins kind first) q) first (first ++ last)
perhaps_part kind Q q first last exact = record {
  starts = perhaps_starts kind Q q first last exact;
  sound = perhaps_sound kind Q q first last exact;
  complete = perhaps_complete kind Q q first last exact;
  stuck = perhaps_stuck kind Q q first last exact;
  passes = perhaps_passes kind Q q first last exact;
  sample = record { text = []; tree = None; is = refl };
}

-- ---- any number of times

many_sound : {T A : Type 0} (kind : T → ℕ) (Q : List T → A → Type 0) (q : Reader T A) (first last : List ℕ) → Exact kind Q q first last
    → (n : ℕ) (ts : List T) (x : List A × List T) → many n (begins kind first) q ts ≡ Ok x → Front (Each Q) ts x.0 x.1
many_sound {T = T} {A = A} kind Q q first last exact zero ts x e =
    let made : Front (Each Q) ts [] ts = record { front = []; parts = refl; is = refl } in
    subst (λ (y : List A × List T). Front (Each Q) ts y.0 y.1) (ok_is ([], ts) x e) made
many_sound {T = T} {A = A} kind Q q first last exact (suc n) ts x e =
    elim (chosen (begins kind first ts) (q ts >>= λ y. many n (begins kind first) q y.1 >>= λ z. Ok (y.0 ∷ z.0, z.1)) (Ok ([], ts)) (Ok x) e) [
      | inl h ↦
          let a = bind_ok (q ts) (λ y. many n (begins kind first) q y.1 >>= λ z. Ok (y.0 ∷ z.0, z.1)) x h.1 in
          let b = bind_ok (many n (begins kind first) q a.0.1) (λ z. Ok (a.0.0 ∷ z.0, z.1)) x a.2 in
          let f = exact.part.sound ts a.0 a.1 in
          let g = many_sound kind Q q first last exact n a.0.1 b.0 b.1 in
          let made : Front (Each Q) ts (a.0.0 ∷ b.0.0) b.0.1 = record {
            front = f.front ++ g.front;
            parts = f.parts ∙ ap (λ (u : List T). f.front ++ u) g.parts ∙ sym (append_assoc f.front g.front b.0.1);
            is = record { front = f.front; back = g.front; parts = refl; first = f.is; second = g.is };
          } in
          subst (λ (y : List A × List T). Front (Each Q) ts y.0 y.1) (ok_is (a.0.0 ∷ b.0.0, b.0.1) x b.2) made
      | inr h ↦
          let made : Front (Each Q) ts [] ts = record { front = []; parts = refl; is = refl } in
          subst (λ (y : List A × List T). Front (Each Q) ts y.0 y.1) (ok_is ([], ts) x h.1) made
    ]

stays : {T A : Type 0} (n : ℕ) (begun : List T → Bool) (q : Reader T A) (ts : List T) → begun ts ≡ false → many n begun q ts ≡ Ok ([], ts)
stays zero begun q ts h = refl
stays (suc n) begun q ts h = rw h refl

pub longer : {T A : Type 0} (Q : List T → A → Type 0) (u v ts : List T) (a : A) → ((a : A) → Q [] a → ⊥) → Q u a → ts ≡ u ++ v → suc (length v) ≤ length ts
longer Q [] v ts a solid h e = absurd (solid a h)
longer Q (t ∷ u) v ts a solid h e = omega (arith, simp length-append at (ap length e))

each_starts : {T A : Type 0} (kind : T → ℕ) (Q : List T → A → Type 0) (q : Reader T A) (first last : List ℕ) → Exact kind Q q first last
    → (t : T) (ts : List T) (bs : List A) → Each Q (t ∷ ts) bs → begins kind first (t ∷ ts) ≡ true
each_starts kind Q q first last exact t ts [] h = absurd (cc)
each_starts kind Q q first last exact t ts (b ∷ bs) s = starts_front kind Q q first last exact s.front s.back t ts b s.parts s.first

each_clear : {T A : Type 0} (kind : T → ℕ) (Q : List T → A → Type 0) (q : Reader T A) (first last : List ℕ) → Exact kind Q q first last → (other : List ℕ) → apart first other ≡ true
    → (front rest : List T) (bs : List A) → Each Q front bs → begins kind other rest ≡ false → begins kind other (front ++ rest) ≡ false
each_clear kind Q q first last exact other far [] rest bs h clear = clear
each_clear kind Q q first last exact other far (t ∷ front) rest bs h clear = apart_is first other (kind t) far (each_starts kind Q q first last exact t front bs h)

pub begins_front : {T : Type 0} (kind : T → ℕ) (ks : List ℕ) (ts rest : List T) → begins kind ks ts ≡ true → begins kind ks (ts ++ rest) ≡ true
begins_front kind ks [] rest h = absurd cc
begins_front kind ks (t ∷ ts) rest h = h

pub begins_solid : {T A : Type 0} (kind : T → ℕ) (Q : List T → A → Type 0) (q : Reader T A) (first last : List ℕ) → Exact kind Q q first last → (u : List T) (a : A) → Q u a → begins kind first u ≡ true
begins_solid kind Q q first last exact [] a h = absurd (exact.solid a h)
begins_solid kind Q q first last exact (t ∷ u) a h = exact.part.starts t u a h

many_complete : {T A : Type 0} (kind : T → ℕ) (Q : List T → A → Type 0) (q : Reader T A) (first last : List ℕ) → Exact kind Q q first last → apart first last ≡ true
    → (bs : List A) (n : ℕ) (front rest : List T) → length (front ++ rest) ≤ n → Each Q front bs → begins kind (first ++ last) rest ≡ false → many n (begins kind first) q (front ++ rest) ≡ Ok (bs, rest)
many_complete kind Q q first last exact far [] n front rest le h clear =
    let c = begins-append kind first last rest clear in
    rw h (stays n (begins kind first) q rest c.0)
many_complete kind Q q first last exact far (b ∷ bs) zero front rest le s clear =
    let l = longer Q s.front s.back front b exact.solid s.first s.parts in
    absurd (omega (arith, length-append front rest))
many_complete {T = T} kind Q q first last exact far (b ∷ bs) (suc n) front rest le s clear =
    let c = begins-append kind first last rest clear in
    let l = longer Q s.front s.back front b exact.solid s.first s.parts in
    let e : front ++ rest ≡ s.front ++ (s.back ++ rest) = ap (λ (u : List T). u ++ rest) s.parts ∙ append_assoc s.front s.back rest in
    let starts : begins kind first (s.front ++ (s.back ++ rest)) ≡ true = begins_front kind first s.front (s.back ++ rest) (begins_solid kind Q q first last exact s.front b s.first) in
    let h1 = exact.part.complete s.front (s.back ++ rest) b s.first (each_clear kind Q q first last exact last far s.back rest bs s.second c.1) in
    let h2 = many_complete kind Q q first last exact far bs n s.back rest (omega (arith, length-append front rest, length-append s.back rest)) s.second clear in
    ap (many (suc n) (begins kind first) q) e ∙ rw (starts, h1, h2) refl

many_stuck : {T A : Type 0} (kind : T → ℕ) (Q : List T → A → Type 0) (q : Reader T A) (first last : List ℕ) → Exact kind Q q first last
    → (n : ℕ) (ts : List T) (k : ℕ) → many n (begins kind first) q ts ≡ Err k → Stuck (Each Q) ts k
many_stuck kind Q q first last exact zero ts k e = absurd cc
many_stuck {T = T} kind Q q first last exact (suc n) ts k e =
    elim (chosen (begins kind first ts) (q ts >>= λ y. many n (begins kind first) q y.1 >>= λ z. Ok (y.0 ∷ z.0, z.1)) (Ok ([], ts)) (Err k) e) [
      | inl h ↦ elim (bind_err (q ts) (λ y. many n (begins kind first) q y.1 >>= λ z. Ok (y.0 ∷ z.0, z.1)) k h.1) [
        | inl g ↦
            let s = exact.part.stuck ts k g in
            record {
              front = s.front;
              rest = s.rest;
              parts = s.parts;
              left = s.left;
              more = s.more;
              tree = s.tree ∷ [];
              is = record { front = s.front ++ s.more; back = []; parts = sym (append-nil (s.front ++ s.more)); first = s.is; second = refl };
            }
        | inr a ↦ elim (bind_err (many n (begins kind first) q a.0.1) (λ z. Ok (a.0.0 ∷ z.0, z.1)) k a.2) [
          | inl g ↦
              let f = exact.part.sound ts a.0 a.1 in
              let s = many_stuck kind Q q first last exact n a.0.1 k g in
              record {
                front = f.front ++ s.front;
                rest = s.rest;
                parts = f.parts ∙ ap (λ (u : List T). f.front ++ u) s.parts ∙ sym (append_assoc f.front s.front s.rest);
                left = s.left;
                more = s.more;
                tree = a.0.0 ∷ s.tree;
                is = record { front = f.front; back = s.front ++ s.more; parts = append_assoc f.front s.front s.more; first = f.is; second = s.is };
              }
          | inr b ↦ absurd (let g = b.2 in cc)
        ]
      ]
      | inr h ↦ absurd (let g = h.1 in cc)
    ]

many_shrinks_at : {T A : Type 0} (kind : T → ℕ) (Q : List T → A → Type 0) (q : Reader T A) (first last : List ℕ) → Exact kind Q q first last
    → (n : ℕ) (ts : List T) (r : Result (List A × List T) ℕ) → many n (begins kind first) q ts ≡ r → Passed (length ts) r
many_shrinks_at kind Q q first last exact n ts (Ok x) e = let f = many_sound kind Q q first last exact n ts x e in omega (arith, simp length-append at (ap length f.parts))
many_shrinks_at kind Q q first last exact n ts (Err k) e = let f = many_stuck kind Q q first last exact n ts k e in omega (arith, simp length-append at (ap length f.parts), f.left)

each_starts_there : {T A : Type 0} (kind : T → ℕ) (Q : List T → A → Type 0) (q : Reader T A) (first last : List ℕ) → Exact kind Q q first last
    → (front more : List T) (t : T) (bs : List A) → Each Q (front ++ t ∷ more) bs → begins kind first (front ++ t ∷ more) ≡ true
each_starts_there kind Q q first last exact [] more t bs h = each_starts kind Q q first last exact t more bs h
each_starts_there kind Q q first last exact (x ∷ front) more t bs h = each_starts kind Q q first last exact x (front ++ t ∷ more) bs h

many_passes : {T A : Type 0} (kind : T → ℕ) (Q : List T → A → Type 0) (q : Reader T A) (first last : List ℕ) → Exact kind Q q first last → apart first last ≡ true
    → (bs : List A) (n : ℕ) (front more rest : List T) (t : T) → length (front ++ t ∷ rest) ≤ n → Each Q (front ++ t ∷ more) bs → Passed (length rest) (many n (begins kind first) q (front ++ t ∷ rest))
many_passes kind Q q first last exact far [] n front more rest t le h = absurd (nonempty front more t h)
many_passes kind Q q first last exact far (b ∷ bs) zero front more rest t le s = absurd (omega (arith, length-append front (t ∷ rest)))
many_passes {T = T} kind Q q first last exact far (b ∷ bs) (suc n) front more rest t le s =
    let starts : begins kind first (front ++ t ∷ rest) ≡ true = sym (same_head kind first front more rest t) ∙ ap (begins kind first) s.parts ∙ begins_front kind first s.front s.back (begins_solid kind Q q first last exact s.front b s.first) in
    elim (where_is s.front s.back front more t s.parts) [
      | inl w ↦
          rw starts (then_passes (length rest) (q (front ++ t ∷ rest)) (many n (begins kind first) q) (λ a b. a ∷ b) (exact.part.passes front w.more rest t b (subst (λ u. Q u b) w.parts s.first)) (λ us. many_shrinks_at kind Q q first last exact n us (many n (begins kind first) q us) refl))
      | inr p ↦
          let second : Each Q (p.middle ++ t ∷ more) bs = subst (λ u. Each Q u bs) p.behind s.second in
          let l = longer Q s.front p.middle front b exact.solid s.first p.before in
          let there = each_starts_there kind Q q first last exact p.middle more t bs second in
          let clear : begins kind last (p.middle ++ t ∷ rest) ≡ false = begins_apart kind first last (p.middle ++ t ∷ rest) far (sym (same_head kind first p.middle more rest t) ∙ there) in
          let h = exact.part.complete s.front (p.middle ++ t ∷ rest) b s.first clear in
          let e : front ++ t ∷ rest ≡ s.front ++ (p.middle ++ t ∷ rest) = ap (λ (u : List T). u ++ t ∷ rest) p.before ∙ append_assoc s.front p.middle (t ∷ rest) in
          let starts2 : begins kind first (s.front ++ (p.middle ++ t ∷ rest)) ≡ true = ap (begins kind first) (sym e) ∙ starts in
          subst (λ u. Passed (length rest) (many (suc n) (begins kind first) q u)) (sym e)
          (rw (starts2, h) (map_passes (length rest) (many n (begins kind first) q (p.middle ++ t ∷ rest)) (λ y. b ∷ y)
          (many_passes kind Q q first last exact far bs n p.middle more rest t (omega (arith, length-append front (t ∷ rest), length-append p.middle (t ∷ rest))) second)))
    ]

pub many_part : {T A : Type 0} (kind : T → ℕ) (Q : List T → A → Type 0) (q : Reader T A) (first last : List ℕ) → Exact kind Q q first last → apart first last ≡ true
    → Part kind (Each Q) (λ us. many (length us) (begins kind first) q us) first (first ++ last)
many_part kind Q q first last exact far = record {
  starts = each_starts kind Q q first last exact;
  sound = λ ts x e. many_sound kind Q q first last exact (length ts) ts x e;
  complete = λ front rest bs h clear. many_complete kind Q q first last exact far bs (length (front ++ rest)) front rest (omega arith) h clear;
  stuck = λ ts k e. many_stuck kind Q q first last exact (length ts) ts k e;
  passes = λ front more rest t bs h. many_passes kind Q q first last exact far bs (length (front ++ t ∷ rest)) front more rest t (omega arith) h;
  sample = record { text = []; tree = []; is = refl };
}
