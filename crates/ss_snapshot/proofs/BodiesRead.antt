-- The bodies of an image, read with the bodies of a catalogue.
use Rattle.std.proofs.Common.{◌≡◌, ◌∙◌, ◌+◌, ◌-◌, ◌<◌, ◌≤◌, ◌||◌, nat_lt, inl, inr, if◌then◌else◌, ℕ, zero, suc, Bool, true, false, cond, List, [], ◌∷◌, ◌++◌, get_or, length, take, drop, replicate, Result, Ok, Err, Option, Some, None, IfOk, IfErr, refl, sym, ap, subst, arith, length-append, length-drop, take-append-drop}
use Rattle.std.specs.Prelude.{is_some, unwrap_or}
use Rattle.std.specs.Option.{option_map}
use Rattle.std.specs.List.{AllByRecursion, list_any, range_with_len}
use Rattle.std.specs.Str.{bytes_eq}
use Rattle.std.proofs.lemmas.Bool.{ltb-false, ltb-true}
use Rattle.std.proofs.lemmas.List.{get_or_past}
use Rattle.std.proofs.lemmas.Slice.Eq.{bytes_eq-Decides}
use Rattle.ss_value.specs.declared.text.ValueError.TheVariants.{Truncated}
use Rattle.ss_model.specs.declared.catalog.Body.{Body}
use Rattle.ss_model.specs.declared.catalog.Catalog.{Catalog}
use Rattle.ss_model.specs.Accepted.{Accepted}
use Rattle.ss_model.specs.Database.{body_named, has_body, own_text, spare_bodies}
use Rattle.ss_model.specs.Results.{map_indexed}
use Rattle.ss_model.specs.SparesAside.{GoesOnWith, with_spares}
use Rattle.ss_shard.specs.Bodies.{HasBodies, IsBodyNumber, text_numbered, texts_of}
use Rattle.ss_catalog.specs.Bodies.{with_added, with_spare}
use Rattle.ss_nest.specs.Answers.{HasOneNested}
use Rattle.ss_nest.specs.Bodies.{IsNestedBodyIfAny, IsNestedBodyOf}
use Rattle.ss_cmdlog.specs.Reading.{◌>>>◌, bytes_at, whole}
use Rattle.ss_standing.specs.ImageForm.{bodies_of, body_of, number_where}
use Rattle.ss_standing.specs.Readers.{Reader, each, passing, with_front}
use Rattle.ss_standing.proofs.CallerLemmas.{for_refused, next_for, no_more_for}
use Rattle.ss_snapshot.specs.declared.reading.fields.PartError.{PartError}
use Rattle.ss_snapshot.specs.declared.reading.fields.PartError.TheVariants.{NoMemory, Foreign}
use Rattle.ss_snapshot.specs.Parts.{Refuses}
use Rattle.ss_snapshot.specs.Bodies.{GrowsTo, HasNoBody, IsFurthest, NoFurther, UnlessMemory, text_of}
use Rattle.ss_snapshot.specs.Own.{IsReadFromItsText, SameButSpares}
use Rattle.ss_snapshot.proofs.BesideRead.{Texts, beside_it, seen_by}
use Rattle.ss_snapshot.proofs.OneAnswer.{of_one_text}
use Rattle.ss_snapshot.proofs.BothSpares.{all_so, body_aside, body_more, none_there}

-- ---- so many bytes

got : Result (List ℕ × List ℕ) ℕ → List ℕ × List ℕ
got (Ok x) = x
got (Err left) = ([], [])

-- these bytes, where there are so many
abbrev piece : Bool → ℕ → List ℕ → Result (List ℕ × List ℕ) ℕ
piece few n b = if few then Err 0 else Ok (take n b, drop n b)

pub parted : (n : ℕ) (b : List ℕ) (x : List ℕ × List ℕ) → bytes_at n b ≡ Ok x → length b ≡ length x.0 + length x.1
unfolding bytes_at got
parted n b x is = by (nat_lt (length b) n) is
  where
    by : (t : Bool) → piece t n b ≡ Ok x → length b ≡ length x.0 + length x.1
    by true e = cc
    by false e =
        let same : (take n b, drop n b) ≡ x = ap got e in
        omega (arith, ap (λ (l : List ℕ). length l) (take-append-drop n b), length-append (take n b) (drop n b), ap (λ (p : List ℕ × List ℕ). length p.0) same, ap (λ (p : List ℕ × List ℕ). length p.1) same)

pub too_few : (n : ℕ) (b : List ℕ) → length b < n → bytes_at n b ≡ Err 0
unfolding bytes_at
too_few n b few = by (nat_lt (length b) n) refl
  where
    by : (t : Bool) → nat_lt (length b) n ≡ t → piece t n b ≡ Err 0
    by true is = refl
    by false is = absurd (let not = ltb-false (length b) n is in omega (arith, not, few))

pub enough : (n : ℕ) (b : List ℕ) → n ≤ length b → bytes_at n b ≡ Ok (take n b, drop n b)
unfolding bytes_at
enough n b many = by (nat_lt (length b) n) refl
  where
    by : (t : Bool) → nat_lt (length b) n ≡ t → piece t n b ≡ Ok (take n b, drop n b)
    by true is = absurd (let less = ltb-true (length b) n is in omega (arith, less, many))
    by false is = refl

-- what is read, or what is left where it is refused, is no longer than this
abbrev TextWithin : Result (List ℕ × List ℕ) ℕ → ℕ → Type 0
TextWithin (Ok x) b = length x.0 + length x.1 ≤ b
TextWithin (Err left) b = left ≤ b

bytes_within : (n : ℕ) (b : List ℕ) → TextWithin (bytes_at n b) (length b)
unfolding bytes_at
bytes_within n b = by (nat_lt (length b) n)
  where
    by : (t : Bool) → TextWithin (piece t n b) (length b)
    by true = omega arith
    by false = omega (arith, ap (λ (l : List ℕ). length l) (take-append-drop n b), length-append (take n b) (drop n b))

-- ---- a text behind its length

abbrev texted : Result (ℕ × List ℕ) ℕ → (ℕ → Reader (List ℕ)) → Result (List ℕ × List ℕ) ℕ
texted r second = seen_by (λ (p : ℕ × List ℕ). p.1) (r >>> λ a. beside_it a.0 (second a.0 a.1))

text_within : (bytes : List ℕ) → TextWithin (text_of bytes) (length bytes)
text_within bytes = by _ (nat_lt (length bytes) 4)
  where
    behind : (n : ℕ) (b : List ℕ) (r : Result (List ℕ × List ℕ) ℕ) → length b ≤ length bytes → TextWithin r (length b) → TextWithin (seen_by (λ (p : ℕ × List ℕ). p.1) (beside_it n r)) (length bytes)
    behind n b (Ok x) short within = omega (arith, short, within)
    behind n b (Err left) short within = omega (arith, short, within)

    by : (n : ℕ) (t : Bool) → TextWithin (texted (whole (if t then Err Truncated else Ok (n, drop 4 bytes)) >>> λ x. if true then Ok x else Err (length bytes)) bytes_at) (length bytes)
    by n true = omega arith
    by n false =
        let b = drop 4 bytes in
        behind n b (bytes_at n b) (omega (arith, length-drop 4 bytes)) (bytes_within n b)

-- ---- a text of a body

-- a text that a procedure has a body of
abbrev pub body_from : Catalog → ℕ → Result (List ℕ × List ℕ) ℕ → Result (List ℕ × List ℕ) ℕ
body_from c q r = r >>> λ x. if has_body c q x.0 then Ok x else Err (length x.0 + length x.1)

pub body_is : (c : Catalog) (q : ℕ) (bytes : List ℕ) → body_of c q bytes ≡ body_from c q (text_of bytes)
body_is c q bytes = by (number_where 4 (λ n. true) bytes)
  where
    pick : (n : ℕ) (b : List ℕ) (x : List ℕ × List ℕ) (t : Bool) → length b ≡ length x.0 + length x.1
        → seen_by (λ (p : ℕ × List ℕ). p.1) (beside_it n (if t then Ok x else Err (length b))) ≡ (if t then Ok (x.0, x.1) else Err (length x.0 + length x.1))
    pick n b x true e = refl
    pick n b x false e = λ i. Err (e i)

    inner : (n : ℕ) (b : List ℕ) (r : Result (List ℕ × List ℕ) ℕ) → bytes_at n b ≡ r
        → seen_by (λ (p : ℕ × List ℕ). p.1) (beside_it n (r >>> λ x. if has_body c q x.0 then Ok x else Err (length b))) ≡ body_from c q (seen_by (λ (p : ℕ × List ℕ). p.1) (beside_it n r))
    inner n b (Ok x) is = pick n b x (has_body c q x.0) (parted n b x is)
    inner n b (Err left) is = refl

    by : (r : Result (ℕ × List ℕ) ℕ) → texted r (λ n. passing (has_body c q) (bytes_at n)) ≡ body_from c q (texted r bytes_at)
    by (Ok a) = inner a.0 a.1 (bytes_at a.0 a.1) refl
    by (Err left) = refl

module _ (c : Catalog) (q : ℕ) (bytes : List ℕ) where
  module _ (t rest : List ℕ) (read : text_of bytes ≡ Ok (t, rest)) where
    pub body_read : has_body c q t ≡ true → body_of c q bytes ≡ Ok (t, rest)
    body_read has = body_is c q bytes ∙ ap (body_from c q) read ∙ (λ i. if has i then Ok (t, rest) else Err (length t + length rest))

    pub no_body_read : has_body c q t ≡ false → body_of c q bytes ≡ Err (length t + length rest)
    no_body_read has = body_is c q bytes ∙ ap (body_from c q) read ∙ (λ i. if has i then Ok (t, rest) else Err (length t + length rest))

  pub text_refused : (left : ℕ) → text_of bytes ≡ Err left → body_of c q bytes ≡ Err left
  text_refused left refused = body_is c q bytes ∙ ap (body_from c q) refused

-- ---- the bodies one behind another

abbrev Within : {A : Type 0} → Result (A × List ℕ) ℕ → ℕ → Type 0
Within (Ok x) b = length x.1 ≤ b
Within (Err left) b = left ≤ b

abbrev behind_it : List ℕ → Result (Texts × List ℕ) ℕ → Result (Texts × List ℕ) ℕ
behind_it t r = r >>> λ xs. Ok (t ∷ xs.0, xs.1)

body_within : (c : Catalog) (q : ℕ) (bytes : List ℕ) → Within (body_of c q bytes) (length bytes)
body_within c q bytes = subst (λ (r : Result (List ℕ × List ℕ) ℕ). Within r (length bytes)) (sym (body_is c q bytes)) (by (text_of bytes) (text_within bytes))
  where
    pick : (x : List ℕ × List ℕ) (t : Bool) → length x.0 + length x.1 ≤ length bytes → Within (if t then Ok x else Err (length x.0 + length x.1)) (length bytes)
    pick x true w = omega (arith, w)
    pick x false w = w

    by : (r : Result (List ℕ × List ℕ) ℕ) → TextWithin r (length bytes) → Within (body_from c q r) (length bytes)
    by (Ok x) w = pick x (has_body c q x.0) w
    by (Err left) w = w

grow : (t : List ℕ) (r : Result (Texts × List ℕ) ℕ) (m b : ℕ) → Within r m → m ≤ b → Within (behind_it t r) b
grow t (Ok x) m b w le = omega (arith, w, le)
grow t (Err left) m b w le = omega (arith, w, le)

each_within : (c : Catalog) (ds : List ℕ) (bytes : List ℕ) → Within (each (body_of c) ds bytes) (length bytes)
each_within c [] bytes = omega arith
each_within c (q ∷ ds) bytes = by (body_of c q bytes) (body_within c q bytes) (λ b. each_within c ds b)
  where
    by : (r : Result (List ℕ × List ℕ) ℕ) → Within r (length bytes) → ((b : List ℕ) → Within (each (body_of c) ds b) (length b)) → Within (r >>> λ x. behind_it x.0 (each (body_of c) ds x.1)) (length bytes)
    by (Ok x) w rest = grow x.0 (each (body_of c) ds x.1) (length x.1) (length bytes) (rest x.1) w
    by (Err left) w rest = w

each_with : (c : Catalog) (q : ℕ) (ds : List ℕ) (bytes t rest : List ℕ) → body_of c q bytes ≡ Ok (t, rest) → each (body_of c) (q ∷ ds) bytes ≡ behind_it t (each (body_of c) ds rest)
each_with c q ds bytes t rest is = ap (λ (r : Result (List ℕ × List ℕ) ℕ). r >>> λ x. behind_it x.0 (each (body_of c) ds x.1)) is

each_refused : (c : Catalog) (q : ℕ) (ds : List ℕ) (bytes : List ℕ) (left : ℕ) → body_of c q bytes ≡ Err left → each (body_of c) (q ∷ ds) bytes ≡ Err left
each_refused c q ds bytes left is = ap (λ (r : Result (List ℕ × List ℕ) ℕ). r >>> λ x. behind_it x.0 (each (body_of c) ds x.1)) is

-- ---- no other catalogue reads further

-- whatever bodies are to be installed, these bodies are read no further than here
abbrev pub Far : Catalog → List ℕ → List ℕ → Type 0
Far c ds bytes = (other : Catalog) → IsReadFromItsText other → SameButSpares c other → NoFurther (each (body_of c) ds bytes) (each (body_of other) ds bytes)

both_behind : (t : List ℕ) (r s : Result (Texts × List ℕ) ℕ) → NoFurther r s → NoFurther (behind_it t r) (behind_it t s)
both_behind t (Ok x) s (inl same) = inl (ap (behind_it t) same)
both_behind t (Ok x) s (inr less) = inr (less.0, ap (behind_it t) less.1, less.2)
both_behind t (Err left) s less = (less.0, ap (behind_it t) less.1, less.2)

refused_early : (t : List ℕ) (r : Result (Texts × List ℕ) ℕ) (b n : ℕ) → Within r b → b ≤ n → NoFurther (behind_it t r) (Err n)
refused_early t (Ok x) b n w le = inr (n, refl, omega (arith, w, le))
refused_early t (Err left) b n w le = (n, refl, omega (arith, w, le))

module _ {A : Type 0} (r s r' s' : Result (A × List ℕ) ℕ) (first : r ≡ r') (second : s ≡ s') where
  read_so : NoFurther r' s' → NoFurther r s
  read_so nf = subst (λ (x : Result (A × List ℕ) ℕ). NoFurther x s) (sym first) (subst (λ (x : Result (A × List ℕ) ℕ). NoFurther r' x) (sym second) nf)

module _ (c : Catalog) (q : ℕ) (ds : List ℕ) (bytes t rest : List ℕ) (read : text_of bytes ≡ Ok (t, rest)) where
  pub far_on : has_body c q t ≡ true → Far c ds rest → Far c (q ∷ ds) bytes
  far_on has far other own same = by (has_body other q t) refl
    where
      mine : each (body_of c) (q ∷ ds) bytes ≡ behind_it t (each (body_of c) ds rest)
      mine = each_with c q ds bytes t rest (body_read c q bytes t rest read has)

      by : (b : Bool) → has_body other q t ≡ b → NoFurther (each (body_of c) (q ∷ ds) bytes) (each (body_of other) (q ∷ ds) bytes)
      by true is =
          read_so (each (body_of c) (q ∷ ds) bytes) (each (body_of other) (q ∷ ds) bytes) (behind_it t (each (body_of c) ds rest)) (behind_it t (each (body_of other) ds rest)) mine
          (each_with other q ds bytes t rest (body_read other q bytes t rest read is))
          (both_behind t (each (body_of c) ds rest) (each (body_of other) ds rest) (far other own same))
      by false is =
          read_so (each (body_of c) (q ∷ ds) bytes) (each (body_of other) (q ∷ ds) bytes) (behind_it t (each (body_of c) ds rest)) (Err (length t + length rest)) mine
          (each_refused other q ds bytes (length t + length rest) (no_body_read other q bytes t rest read is))
          (refused_early t (each (body_of c) ds rest) (length rest) (length t + length rest) (each_within c ds rest) (omega arith))

  never : (b : Bool) → (b ≡ true → ⊥) → b ≡ false
  never true nt = absurd (nt refl)
  never false nt = refl

  pub far_none : IsReadFromItsText c → HasNoBody c q t → Far c (q ∷ ds) bytes
  far_none own nb other others same =
      let n = length t + length rest in
      let mine = each_refused c q ds bytes n (no_body_read c q bytes t rest read (never (has_body c q t) (nb c own refl))) in
      let theirs = each_refused other q ds bytes n (no_body_read other q bytes t rest read (never (has_body other q t) (nb other others (ap (λ (k : Catalog). k.text) (sym same))))) in
      read_so (each (body_of c) (q ∷ ds) bytes) (each (body_of other) (q ∷ ds) bytes) (Err n) (Err n) mine theirs (n, refl, omega arith)

pub far_cut : (c : Catalog) (q : ℕ) (ds : List ℕ) (bytes : List ℕ) (left : ℕ) → text_of bytes ≡ Err left → Far c (q ∷ ds) bytes
far_cut c q ds bytes left refused other others same =
    read_so (each (body_of c) (q ∷ ds) bytes) (each (body_of other) (q ∷ ds) bytes) (Err left) (Err left) (each_refused c q ds bytes left (text_refused c q bytes left refused))
    (each_refused other q ds bytes left (text_refused other q bytes left refused)) (left, refl, omega arith)

pub far_end : (c : Catalog) (bytes : List ℕ) → Far c [] bytes
far_end c bytes other others same = inl refl

pub furthest_of : (c : Catalog) (n : ℕ) (bytes : List ℕ) → n ≡ length c.procedures → ((other : Catalog) → IsReadFromItsText other → other.text ≡ c.text → SameButSpares c other)
    → Far c (range_with_len 0 n) bytes → IsFurthest true c bytes
furthest_of c n bytes count one far other own text =
    let same = one other own text in
    let others : n ≡ length other.procedures = count ∙ ap (λ (k : Catalog). length k.procedures) same in
    read_so (bodies_of true c bytes) (bodies_of true other bytes) (each (body_of c) (range_with_len 0 n) bytes) (each (body_of other) (range_with_len 0 n) bytes)
    (ap (λ (m : ℕ). each (body_of c) (range_with_len 0 m) bytes) (sym count)) (ap (λ (m : ℕ). each (body_of other) (range_with_len 0 m) bytes) (sym others)) (far other own same)

-- each procedure has its own body: there is nothing to read
pub furthest_own : (c : Catalog) (bytes : List ℕ) → ((other : Catalog) → IsReadFromItsText other → other.text ≡ c.text → SameButSpares c other) → IsFurthest false c bytes
furthest_own c bytes one other own text = inl (ap (λ (k : Catalog). bodies_of false k bytes) (sym (one other own text)))

-- ---- a catalogue that grows

pub still : (c : Catalog) → IsReadFromItsText c → Accepted c → GrowsTo c c
still c own accepted = record { same = refl; own = own; accepted = accepted; has = λ q text h. h }

pub grown_on : (a b c : Catalog) → GrowsTo a b → GrowsTo b c → GrowsTo a c
grown_on a b c g h = record {
  same = h.same ∙ ap (λ (k : Catalog). with_spares k c.spares) g.same;
  own = h.own;
  accepted = h.accepted;
  has = λ q text is. h.has q text (g.has q text is);
}

any_is_found : (text : List ℕ) (bs : List Body) → list_any (λ (b : Body). bytes_eq b.text text) bs ≡ is_some (body_named text bs)
any_is_found text [] = refl
any_is_found text (b ∷ bs) = by (bytes_eq b.text text) (any_is_found text bs)
  where
    by : (t : Bool) → list_any (λ (b : Body). bytes_eq b.text text) bs ≡ is_some (body_named text bs) → (t || list_any (λ (b : Body). bytes_eq b.text text) bs) ≡ is_some (cond t (Some b) (body_named text bs))
    by true later = refl
    by false later = later

-- a catalogue that goes on with more bodies
pub grown_by : (old new : Catalog) → new ≡ with_spares old new.spares → IsReadFromItsText new → Accepted new → GoesOnWith old new.spares → GrowsTo old new
grown_by old new same own accepted on = record {
  same = same;
  own = own;
  accepted = accepted;
  has = λ q text h. ap (λ (k : Catalog). has_body k q text) same ∙ by q text (bytes_eq (own_text old q) text) h;
}
  where
    by : (q : ℕ) (text : List ℕ) (t : Bool) → (t || list_any (λ (b : Body). bytes_eq b.text text) (spare_bodies old q)) ≡ true → (t || list_any (λ (b : Body). bytes_eq b.text text) (get_or new.spares q [])) ≡ true
    by q text true h = refl
    by q text false h = any_is_found text (get_or new.spares q []) ∙ ap is_some (on.same q text h) ∙ sym (any_is_found text (spare_bodies old q)) ∙ h

-- a text that a procedure has a spare body of is that of a body
spare_of : (c : Catalog) (q : ℕ) (text : List ℕ) (xs : List Body) → AllByRecursion (λ (b : Body). IsNestedBodyOf c q b.text b) xs → list_any (λ (b : Body). bytes_eq b.text text) xs ≡ true → (b : Body) × IsNestedBodyOf c q text b
spare_of c q text [] all h = cc
spare_of c q text (x ∷ xs) all h = by (bytes_eq x.text text) refl h (spare_of c q text xs all.1)
  where
    by : (t : Bool) → bytes_eq x.text text ≡ t → (t || list_any (λ (b : Body). bytes_eq b.text text) xs) ≡ true
        → (list_any (λ (b : Body). bytes_eq b.text text) xs ≡ true → (b : Body) × IsNestedBodyOf c q text b) → (b : Body) × IsNestedBodyOf c q text b
    by true is k rest = (x, (all.0.0, (bytes_eq-Decides x.text text).0 is))
    by false is k rest = rest k

module _ (c : Catalog) (q : ℕ) (text : List ℕ) (one : (other : Catalog) → IsReadFromItsText other → other.text ≡ c.text → SameButSpares c other) where
  pub none_has : has_body c q text ≡ false → ((b : Body) → IsNestedBodyOf c q text b → ⊥) → HasNoBody c q text
  none_has not none other own is has = by (bytes_eq (own_text c q) text) not (ap (λ (k : Catalog). bytes_eq (own_text k q) text || list_any (λ (b : Body). bytes_eq b.text text) (spare_bodies other q)) (one other own is) ∙ has)
    where
      by : (t : Bool) → (t || list_any (λ (b : Body). bytes_eq b.text text) (spare_bodies c q)) ≡ false → (t || list_any (λ (b : Body). bytes_eq b.text text) (spare_bodies other q)) ≡ true → ⊥
      by true nt h = cc
      by false nt h =
          let found = spare_of other q text (spare_bodies other q) (own.spares q) h in
          none found.0 (body_aside c other (one other own is) q text found.0 found.1)

all_more : (P : Body → Type 0) (xs : List Body) (b : Body) → AllByRecursion P xs → P b → AllByRecursion P (xs ++ b ∷ [])
all_more P [] b all one = (one, tt)
all_more P (x ∷ xs) b all one = (all.0, all_more P xs b all.1 one)

all_with : (P : ℕ → Body → Type 0) (xs : List (List Body)) (q : ℕ) (b : Body) → ((n : ℕ) → AllByRecursion (P n) (get_or xs n [])) → P q b → (n : ℕ) → AllByRecursion (P n) (get_or (with_spare xs q b) n [])
all_with P [] zero b all one zero = (one, tt)
all_with P [] zero b all one (suc n) = none_there (P (suc n)) n
all_with P [] (suc q) b all one zero = tt
all_with P [] (suc q) b all one (suc n) = all_with (λ n. P (suc n)) [] q b (λ n. none_there (P (suc n)) n) one n
all_with P (x ∷ xs) zero b all one zero = all_more (P 0) x b (all 0) one
all_with P (x ∷ xs) zero b all one (suc n) = all (suc n)
all_with P (x ∷ xs) (suc q) b all one zero = all 0
all_with P (x ∷ xs) (suc q) b all one (suc n) = all_with (λ n. P (suc n)) xs q b (λ n. all (suc n)) one n

pub own_added : (c : Catalog) (q : ℕ) (text : List ℕ) (b : Body) → IsReadFromItsText c → IsNestedBodyOf c q text b → IsReadFromItsText (with_added c q b)
own_added c q text b own is = by (has_body c q b.text)
  where
    by : (t : Bool) → IsReadFromItsText (cond t c (with_spares c (with_spare c.spares q b)))
    by true = own
    by false =
        let spares = with_spare c.spares q b in
        let P = λ (n : ℕ) (x : Body). IsNestedBodyOf (with_spares c spares) n x.text x in
        record {
          utf8 = own.utf8;
          value = own.value;
          reads = own.reads;
          spares = all_with P c.spares q b (λ n. all_so (λ (x : Body). IsNestedBodyOf c n x.text x) (P n) (spare_bodies c n) (λ x h. body_more c spares n x.text x h) (own.spares n))
              (body_more c spares q b.text b (is.0, refl));
        }

-- ---- numbers of bodies, one behind another

own_number : (c : Catalog) (q : ℕ) → IsBodyNumber c q 0
own_number c q = λ p.
    sym (ap (λ (b : Bool). cond b p.body (unwrap_or (option_map (λ (b : Body). b.steps) (body_named (own_text c q) (spare_bodies c q))) p.body)) ((bytes_eq-Decides (own_text c q) (own_text c q)).1 refl))

texts_push : (f : ℕ → ℕ → List ℕ) (xs : List ℕ) (k : ℕ) → map_indexed f (xs ++ k ∷ []) ≡ map_indexed f xs ++ f (length xs) k ∷ []
texts_push f [] k = refl
texts_push f (x ∷ xs) k = ap (λ (l : Texts). f 0 x ∷ l) (texts_push (λ i. f (suc i)) xs k)

each_more : (P : ℕ → ℕ → Type 0) (xs : List ℕ) (k : ℕ) → ((q : ℕ) → q < length xs → P q (get_or xs q 0)) → P (length xs) k → (q : ℕ) → q < length xs + 1 → P q (get_or (xs ++ k ∷ []) q 0)
each_more P [] k all one zero within = one
each_more P [] k all one (suc q) within = absurd (omega (arith, within))
each_more P (x ∷ xs) k all one zero within = all 0 (omega arith)
each_more P (x ∷ xs) k all one (suc q) within = each_more (λ n. P (suc n)) xs k (λ n less. all (suc n) (omega (arith, less))) one q (omega (arith, within))

-- each procedure has its own
length_zeros : (n : ℕ) → length (replicate {A = ℕ} n 0) ≡ n
length_zeros zero = refl
length_zeros (suc n) = ap suc (length_zeros n)

all_zeros : (n q : ℕ) → get_or (replicate n zero) q zero ≡ zero
all_zeros zero q = refl
all_zeros (suc n) zero = refl
all_zeros (suc n) (suc q) = all_zeros n q

pub own_numbers_are : (c : Catalog) (numbers : List ℕ) → numbers ≡ replicate (length c.procedures) 0 → HasBodies c numbers
own_numbers_are c numbers is = subst (HasBodies c) (sym is) (record {
  count = length_zeros (length c.procedures);
  each = λ q. subst (IsBodyNumber c q) (sym (all_zeros (length c.procedures) q)) (own_number c q);
})

-- what holds whatever is returned
pub if_ok : {A E : Type 0} (P : Type 0) (r : Result A E) → P → IfOk r (λ x. P)
if_ok P (Ok x) p = p
if_ok P (Err e) p = tt

unless : (P : Type 0) (e : PartError) → P → UnlessMemory e P
unless P NoMemory p = tt
unless P (Foreign left) p = p

pub if_refused : {A : Type 0} (P : Type 0) (r : Result A PartError) → P → IfErr r (λ e. UnlessMemory e P)
if_refused P (Ok x) p = tt
if_refused P (Err e) p = unless P e p

-- what was found of a text
pub found_none : (c : Catalog) (q : ℕ) (text : List ℕ) (o : Option Body) → o ≡ None → IsNestedBodyIfAny c q text o → (b : Body) → IsNestedBodyOf c q text b → ⊥
found_none c q text o is found = subst (IsNestedBodyIfAny c q text) is found

pub found_some : (c : Catalog) (q : ℕ) (text : List ℕ) (b : Body) (o : Option Body) → o ≡ Some b → IsNestedBodyIfAny c q text o → IsNestedBodyOf c q text b
found_some c q text b o is found = subst (IsNestedBodyIfAny c q text) is found

-- so many of these bytes are read as these numbers, and the rest stands behind them
pub record AreNumbers (c : Catalog) (i : ℕ) (numbers bytes rest : List ℕ) : Type 0 where
  pub read : with_front (texts_of c numbers) (each (body_of c) (range_with_len i (length c.procedures - i)) rest) ≡ each (body_of c) (range_with_len 0 (length c.procedures)) bytes
  pub many : length numbers ≡ i
  pub each_is : (q : ℕ) → q < i → IsBodyNumber c q (get_or numbers q 0)

front_none : (r : Result (Texts × List ℕ) ℕ) → with_front [] r ≡ r
front_none (Ok x) = refl
front_none (Err left) = refl

module _ (c : Catalog) where
  pub no_numbers : (bytes : List ℕ) → AreNumbers c 0 [] bytes bytes
  no_numbers bytes = record {
    read = (let all : length c.procedures - 0 ≡ length c.procedures = omega arith in ap (λ (m : ℕ). with_front [] (each (body_of c) (range_with_len 0 m) bytes)) all) ∙ front_none (each (body_of c) (range_with_len 0 (length c.procedures)) bytes);
    many = refl;
    each_is = λ q less. absurd (omega (arith, less));
  }

  module _ (i : ℕ) (numbers bytes rest : List ℕ) (so_far : AreNumbers c i numbers bytes rest) where
    pub one_number : i < length c.procedures → (k : ℕ) (behind : List ℕ) → body_of c i rest ≡ Ok (text_numbered c i k, behind) → IsBodyNumber c i k → AreNumbers c (i + 1) (numbers ++ k ∷ []) bytes behind
    one_number there k behind is number =
        let n = length c.procedures in
        let m = n - (i + 1) in
        let more : n - i ≡ suc m = omega (arith, there) in
        let texts = texts_push (text_numbered c) numbers k ∙ ap (λ (j : ℕ). texts_of c numbers ++ text_numbered c j k ∷ []) so_far.many in
        record {
          read =
              ap (λ (front : Texts). with_front front (each (body_of c) (range_with_len (i + 1) m) behind)) texts
              ∙ sym (next_for (body_of c) (texts_of c numbers) i (range_with_len (i + 1) m) rest (text_numbered c i k) behind is)
              ∙ ap (λ (j : ℕ). with_front (texts_of c numbers) (each (body_of c) (range_with_len i j) rest)) (sym more)
              ∙ so_far.read;
          many = omega (arith, length-append numbers (k ∷ []), so_far.many);
          each_is = λ q less.
              each_more (IsBodyNumber c) numbers k (λ r before. so_far.each_is r (omega (arith, before, so_far.many))) (subst (λ (j : ℕ). IsBodyNumber c j k) (sym so_far.many) number) q
              (omega (arith, less, so_far.many));
        }

    pub number_refused : i < length c.procedures → (e : PartError) → Refuses e (body_of c i rest) → Refuses e (each (body_of c) (range_with_len 0 (length c.procedures)) bytes)
    number_refused there NoMemory refused = tt
    number_refused there (Foreign left) refused =
        let n = length c.procedures in
        let m = n - (i + 1) in
        let more : n - i ≡ suc m = omega (arith, there) in
        sym so_far.read ∙ ap (λ (j : ℕ). with_front (texts_of c numbers) (each (body_of c) (range_with_len i j) rest)) more
        ∙ for_refused (body_of c) (texts_of c numbers) i (range_with_len (i + 1) m) rest left refused

    pub all_numbers_read : length c.procedures ≤ i → each (body_of c) (range_with_len 0 (length c.procedures)) bytes ≡ Ok (texts_of c numbers, rest)
    all_numbers_read end =
        let none : length c.procedures - i ≡ 0 = omega (arith, end) in
        sym so_far.read ∙ ap (λ (j : ℕ). with_front (texts_of c numbers) (each (body_of c) (range_with_len i j) rest)) none ∙ no_more_for (body_of c) (texts_of c numbers) rest

    pub all_bodies : length c.procedures ≡ i → HasBodies c numbers
    all_bodies end = record {
      count = so_far.many ∙ sym end;
      each = λ q. by q (nat_lt q i) refl;
    }
      where
        by : (q : ℕ) (t : Bool) → nat_lt q i ≡ t → IsBodyNumber c q (get_or numbers q 0)
        by q true is = so_far.each_is q (ltb-true q i is)
        by q false is =
            let past : get_or numbers q 0 ≡ 0 = get_or_past numbers q 0 (let not = ltb-false q i is in omega (arith, not, so_far.many)) in
            subst (IsBodyNumber c q) (sym past) (own_number c q)

-- ---- the loop that adds the bodies

-- a catalogue grew while the first so many bodies were read, and each that it grows to reads those before no worse
pub record HasLearnt (n : ℕ) (old now : Catalog) (i : ℕ) (bytes rest : List ℕ) : Type 0 where
  pub grown : GrowsTo old now
  pub far : (c : Catalog) → GrowsTo now c → Far c (range_with_len i (n - i)) rest → Far c (range_with_len 0 n) bytes

pub none_learnt : (n : ℕ) (c : Catalog) (bytes : List ℕ) → IsReadFromItsText c → Accepted c → HasLearnt n c c 0 bytes bytes
none_learnt n c bytes own accepted = record { grown = still c own accepted; far = λ k g far. (let all : n - 0 ≡ n = omega arith in subst (λ (m : ℕ). Far k (range_with_len 0 m) bytes) all far) }

module _ (n : ℕ) (old now : Catalog) (i : ℕ) (bytes rest : List ℕ) (so_far : HasLearnt n old now i bytes rest) where
  module _ (there : i < n) where
    begins_so : range_with_len i (n - i) ≡ i ∷ range_with_len (i + 1) (n - (i + 1))
    begins_so = (let more : n - i ≡ suc (n - (i + 1)) = omega (arith, there) in ap (range_with_len i) more)

    from_here : (c : Catalog) → GrowsTo now c → Far c (i ∷ range_with_len (i + 1) (n - (i + 1))) rest → Far c (range_with_len 0 n) bytes
    from_here c g far = so_far.far c g (subst (λ (qs : List ℕ). Far c qs rest) (sym begins_so) far)

    pub one_learnt : (next : Catalog) → GrowsTo now next → (t behind : List ℕ) → text_of rest ≡ Ok (t, behind) → has_body next i t ≡ true → HasLearnt n old next (i + 1) bytes behind
    one_learnt next g t behind read has = record {
      grown = grown_on old now next so_far.grown g;
      far = λ c h far. from_here c (grown_on now next c g h) (far_on c i (range_with_len (i + 1) (n - (i + 1))) rest t behind read (h.has i t has) far);
    }

    pub stopped_at_none : (next : Catalog) → GrowsTo now next → (t behind : List ℕ) → text_of rest ≡ Ok (t, behind) → HasNoBody next i t → Far next (range_with_len 0 n) bytes
    stopped_at_none next g t behind read none = from_here next g (far_none next i (range_with_len (i + 1) (n - (i + 1))) rest t behind read g.own none)

    pub stopped_at_cut : (left : ℕ) → text_of rest ≡ Err left → Far now (range_with_len 0 n) bytes
    stopped_at_cut left refused = from_here now (still now so_far.grown.own so_far.grown.accepted) (far_cut now i (range_with_len (i + 1) (n - (i + 1))) rest left refused)

  pub stopped_at_end : n ≤ i → Far now (range_with_len 0 n) bytes
  stopped_at_end end =
      let none : n - i ≡ 0 = omega (arith, end) in
      so_far.far now (still now so_far.grown.own so_far.grown.accepted) (subst (λ (m : ℕ). Far now (range_with_len i m) rest) (sym none) (far_end now rest))

-- the bodies are read no further than with what a catalogue grew to
pub furthest_grown : HasOneNested → (n : ℕ) (old now : Catalog) (bytes : List ℕ) → n ≡ length old.procedures → GrowsTo old now → Far now (range_with_len 0 n) bytes → IsFurthest true now bytes
furthest_grown one n old now bytes count grown far =
    furthest_of now n bytes (count ∙ ap (λ (k : Catalog). length k.procedures) (sym grown.same)) (λ other own is. of_one_text one now other grown.own own (sym is)) far
