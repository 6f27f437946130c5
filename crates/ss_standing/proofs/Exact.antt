-- What is read is spelled so, and what is spelled is read: of parts of parts.
use Rattle.std.proofs.Common.{◌≡◌, ◌∙◌, ℕ, zero, suc, List, [], ◌∷◌, ◌++◌, length, Bool, true, cond, Result, Ok, Err, refl, sym, ap, subst, arith, append_assoc}
use Rattle.std.specs.List.{flat_map}
use Rattle.ss_record.specs.Numbers.{IsBytes}
use Rattle.ss_cmdlog.specs.Reading.{◌>>>◌}
use Rattle.ss_cmdlog.proofs.CallerLemmas.{bind_ok, kept_ok, ok_pair, read_so}
use Rattle.ss_standing.specs.Readers.{Reader, nothing, passing, followed, made, many, each, IsExact, Chained, AreFor, spelled_for}

pub nothing_exact : {A : Type 0} (x : A) → IsExact (nothing x) (λ y. []) (λ y. y ≡ x)
nothing_exact x = record {
  takes = λ bytes y rest are read. (let both = ok_pair x y bytes rest read in (both.1, subst IsBytes both.1 are, sym both.0));
  again = λ y rest is. (λ k. Ok (sym is k, rest));
}

pub passing_exact : {A : Type 0} (test : A → Bool) (read : Reader A) (spell : A → List ℕ) (P : A → Type 0) → IsExact read spell P → IsExact (passing test read) spell (λ x. P x × (test x ≡ true))
passing_exact {A = A} test read spell P exact = record {
  takes = λ bytes x rest are is. (
      let first = bind_ok (read bytes) (λ y. cond (test y.0) (Ok y) (Err (length bytes))) (x, rest) is in
      let parts = kept_ok (test first.0.0) (read_so first.0.0 first.0.1) (length bytes) (x, rest) first.2 in
      let both = ok_pair first.0.0 x first.0.1 rest parts.1 in
      let takes = exact.takes bytes first.0.0 first.0.1 are first.1 in
      (takes.0 ∙ (λ k. spell (both.0 k) ++ both.1 k), subst IsBytes both.1 takes.1, (subst P both.0 takes.2, ap test (sym both.0) ∙ parts.0))
      );
  again = λ x rest has. (
      ap (λ (r : Result (A × List ℕ) ℕ). r >>> λ y. cond (test y.0) (Ok y) (Err (length (spell x ++ rest)))) (exact.again x rest has.0)
      ∙ ap (λ (b : Bool). cond b (read_so x rest) (Err (length (spell x ++ rest)))) has.1
      );
}

pub followed_exact : {A B : Type 0} (first : Reader A) (second : A → Reader B) (spell : A → List ℕ) (spell_second : A → B → List ℕ) (P : A → Type 0) (Q : A → B → Type 0)
    → IsExact first spell P → ((a : A) → P a → IsExact (second a) (spell_second a) (Q a))
    → IsExact (followed first second) (λ (p : A × B). spell p.0 ++ spell_second p.0 p.1) (λ (p : A × B). P p.0 × Q p.0 p.1)
followed_exact {A = A} {B = B} first second spell spell_second P Q exact others = record {
  takes = λ bytes x rest are is. (
      let a = bind_ok (first bytes) (λ a. second a.0 a.1 >>> λ b. Ok ((a.0, b.0), b.1)) (x, rest) is in
      let b = bind_ok (second a.0.0 a.0.1) (λ b. read_so (a.0.0, b.0) b.1) (x, rest) a.2 in
      let pair : A × B = (a.0.0, b.0.0) in
      let both = ok_pair pair x b.0.1 rest b.2 in
      let one = exact.takes bytes a.0.0 a.0.1 are a.1 in
      let two = (others a.0.0 one.2).takes a.0.1 b.0.0 b.0.1 one.1 b.1 in (
        one.0 ∙ ap (λ (l : List ℕ). spell a.0.0 ++ l) two.0 ∙ sym (append_assoc (spell a.0.0) (spell_second a.0.0 b.0.0) b.0.1) ∙ (λ k. (spell ((both.0 k).0) ++ spell_second ((both.0 k).0) ((both.0 k).1)) ++ both.1 k),
        subst IsBytes both.1 two.1,
        subst (λ (p : A × B). P p.0 × Q p.0 p.1) both.0 (one.2, two.2),
      )
      );
  again = λ x rest has. (
      ap (followed first second) (append_assoc (spell x.0) (spell_second x.0 x.1) rest)
      ∙ ap (λ (r : Result (A × List ℕ) ℕ). r >>> λ a. second a.0 a.1 >>> λ b. Ok ((a.0, b.0), b.1)) (exact.again x.0 (spell_second x.0 x.1 ++ rest) has.0)
      ∙ ap (λ (r : Result (B × List ℕ) ℕ). r >>> λ b. Ok ((x.0, b.0), b.1)) ((others x.0 has.0).again x.1 rest has.1)
      );
}

-- what is made can be unmade
pub made_exact : {A B : Type 0} (f : A → B) (g : B → A) (read : Reader A) (spell : A → List ℕ) (P : A → Type 0) (Q : B → Type 0) → IsExact read spell P
    → ((a : A) → P a → (g (f a) ≡ a) × Q (f a)) → ((b : B) → Q b → (f (g b) ≡ b) × P (g b)) → IsExact (made f read) (λ b. spell (g b)) Q
made_exact {A = A} {B = B} f g read spell P Q exact there back = record {
  takes = λ bytes x rest are is. (
      let a = bind_ok (read bytes) (λ a. read_so (f a.0) a.1) (x, rest) is in
      let both = ok_pair (f a.0.0) x a.0.1 rest a.2 in
      let takes = exact.takes bytes a.0.0 a.0.1 are a.1 in
      let round = there a.0.0 takes.2 in (
        takes.0 ∙ ap (λ (y : A). spell y ++ a.0.1) (sym round.0) ∙ (λ k. spell (g (both.0 k)) ++ both.1 k),
        subst IsBytes both.1 takes.1,
        subst Q both.0 round.1,
      )
      );
  again = λ x rest has. (
      let round = back x has in
      ap (λ (r : Result (A × List ℕ) ℕ). r >>> λ a. Ok (f a.0, a.1)) (exact.again (g x) rest round.1) ∙ (λ k. Ok (round.0 k, rest))
      );
}

-- the same by other words
pub exact_so : {A : Type 0} (read : Reader A) (spell other : A → List ℕ) (P Q : A → Type 0) → IsExact read spell P
    → ((x : A) → P x → (spell x ≡ other x) × Q x) → ((x : A) → Q x → P x) → IsExact read other Q
exact_so read spell other P Q exact there back = record {
  takes = λ bytes x rest are is. (
      let takes = exact.takes bytes x rest are is in
      let to = there x takes.2 in
      (takes.0 ∙ ap (λ (l : List ℕ). l ++ rest) to.0, takes.1, to.1)
      );
  again = λ x rest has. ap (λ (l : List ℕ). read (l ++ rest)) (sym (there x (back x has)).0) ∙ exact.again x rest (back x has);
}

module _ {S A : Type 0} (next : S → A → S) (read : S → Reader A) (spell : A → List ℕ) (P : S → A → Type 0) (exact : (s : S) → IsExact (read s) spell (P s)) where
  many_takes : (n : ℕ) (s : S) (bytes : List ℕ) (xs : List A) (rest : List ℕ) → IsBytes bytes → many next read n s bytes ≡ Ok (xs, rest)
      → (bytes ≡ flat_map spell xs ++ rest) × IsBytes rest × ((length xs ≡ n) × Chained next P s xs)
  many_takes zero s bytes xs rest are is =
      let both = ok_pair [] xs bytes rest is in
      (both.1 ∙ ap (λ (l : List A). flat_map spell l ++ rest) both.0, subst IsBytes both.1 are, (ap length (sym both.0), subst (Chained next P s) both.0 tt))
  many_takes (suc n) s bytes xs rest are is =
      let first = bind_ok (read s bytes) (λ x. many next read n (next s x.0) x.1 >>> λ ys. Ok (x.0 ∷ ys.0, ys.1)) (xs, rest) is in
      let others = bind_ok (many next read n (next s first.0.0) first.0.1) (λ ys. Ok (first.0.0 ∷ ys.0, ys.1)) (xs, rest) first.2 in
      let both = ok_pair (first.0.0 ∷ others.0.0) xs others.0.1 rest others.2 in
      let one = (exact s).takes bytes first.0.0 first.0.1 are first.1 in
      let more = many_takes n (next s first.0.0) first.0.1 others.0.0 others.0.1 one.1 others.1 in (
        one.0 ∙ ap (λ (l : List ℕ). spell first.0.0 ++ l) more.0 ∙ sym (append_assoc (spell first.0.0) (flat_map spell others.0.0) others.0.1) ∙ (λ k. flat_map spell (both.0 k) ++ both.1 k),
        subst IsBytes both.1 more.1,
        (ap length (sym both.0) ∙ ap suc more.2.0, subst (Chained next P s) both.0 (one.2, more.2.1)),
      )

  many_again : (n : ℕ) (s : S) (xs : List A) (rest : List ℕ) → length xs ≡ n → Chained next P s xs → many next read n s (flat_map spell xs ++ rest) ≡ Ok (xs, rest)
  many_again zero s [] rest long has = refl
  many_again zero s (x ∷ xs) rest long has = absurd (omega (arith, long))
  many_again (suc n) s [] rest long has = absurd (omega (arith, long))
  many_again (suc n) s (x ∷ xs) rest long has =
      ap (many next read (suc n) s) (append_assoc (spell x) (flat_map spell xs) rest)
      ∙ ap (λ (r : Result (A × List ℕ) ℕ). r >>> λ y. many next read n (next s y.0) y.1 >>> λ ys. Ok (y.0 ∷ ys.0, ys.1)) ((exact s).again x (flat_map spell xs ++ rest) has.0)
      ∙ ap (λ (r : Result (List A × List ℕ) ℕ). r >>> λ ys. Ok (x ∷ ys.0, ys.1)) (many_again n (next s x) xs rest (omega (arith, long)) has.1)

  pub many_exact : (n : ℕ) (s : S) → IsExact (many next read n s) (flat_map spell) (λ xs. (length xs ≡ n) × Chained next P s xs)
  many_exact n s = record { takes = many_takes n s; again = λ xs rest has. many_again n s xs rest has.0 has.1 }

module _ {D A : Type 0} (read : D → Reader A) (spell : D → A → List ℕ) (P : D → A → Type 0) (exact : (d : D) → IsExact (read d) (spell d) (P d)) where
  each_takes : (ds : List D) (bytes : List ℕ) (xs : List A) (rest : List ℕ) → IsBytes bytes → each read ds bytes ≡ Ok (xs, rest)
      → (bytes ≡ spelled_for spell ds xs ++ rest) × IsBytes rest × AreFor P ds xs
  each_takes [] bytes xs rest are is =
      let both = ok_pair [] xs bytes rest is in
      (both.1 ∙ ap (λ (l : List A). spelled_for spell [] l ++ rest) both.0, subst IsBytes both.1 are, subst (AreFor P []) both.0 tt)
  each_takes (d ∷ ds) bytes xs rest are is =
      let first = bind_ok (read d bytes) (λ x. each read ds x.1 >>> λ ys. Ok (x.0 ∷ ys.0, ys.1)) (xs, rest) is in
      let others = bind_ok (each read ds first.0.1) (λ ys. Ok (first.0.0 ∷ ys.0, ys.1)) (xs, rest) first.2 in
      let both = ok_pair (first.0.0 ∷ others.0.0) xs others.0.1 rest others.2 in
      let one = (exact d).takes bytes first.0.0 first.0.1 are first.1 in
      let more = each_takes ds first.0.1 others.0.0 others.0.1 one.1 others.1 in (
        one.0 ∙ ap (λ (l : List ℕ). spell d first.0.0 ++ l) more.0 ∙ sym (append_assoc (spell d first.0.0) (spelled_for spell ds others.0.0) others.0.1) ∙ (λ k. spelled_for spell (d ∷ ds) (both.0 k) ++ both.1 k),
        subst IsBytes both.1 more.1,
        subst (AreFor P (d ∷ ds)) both.0 (one.2, more.2),
      )

  each_again : (ds : List D) (xs : List A) (rest : List ℕ) → AreFor P ds xs → each read ds (spelled_for spell ds xs ++ rest) ≡ Ok (xs, rest)
  each_again [] [] rest has = refl
  each_again [] (x ∷ xs) rest has = absurd has
  each_again (d ∷ ds) [] rest has = absurd has
  each_again (d ∷ ds) (x ∷ xs) rest has =
      ap (each read (d ∷ ds)) (append_assoc (spell d x) (spelled_for spell ds xs) rest)
      ∙ ap (λ (r : Result (A × List ℕ) ℕ). r >>> λ y. each read ds y.1 >>> λ ys. Ok (y.0 ∷ ys.0, ys.1)) ((exact d).again x (spelled_for spell ds xs ++ rest) has.0)
      ∙ ap (λ (r : Result (List A × List ℕ) ℕ). r >>> λ ys. Ok (x ∷ ys.0, ys.1)) (each_again ds xs rest has.1)

  pub each_exact : (ds : List D) → IsExact (each read ds) (spelled_for spell ds) (AreFor P ds)
  each_exact ds = record { takes = each_takes ds; again = each_again ds }

-- where how an item is spelled doesn't depend on what it is for
pub spelled_alike : {D A : Type 0} (spell : A → List ℕ) (P : D → A → Type 0) (ds : List D) (xs : List A) → AreFor P ds xs → spelled_for (λ d x. spell x) ds xs ≡ flat_map spell xs
spelled_alike spell P [] [] has = refl
spelled_alike spell P [] (x ∷ xs) has = absurd has
spelled_alike spell P (d ∷ ds) [] has = absurd has
spelled_alike spell P (d ∷ ds) (x ∷ xs) has = ap (λ (l : List ℕ). spell x ++ l) (spelled_alike spell P ds xs has.1)
