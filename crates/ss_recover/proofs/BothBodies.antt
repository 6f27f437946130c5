-- Two catalogues of one text both go on with the bodies of both.
use Rattle.std.proofs.Common.{◌≡◌, ◌∙◌, ◌||◌, ℕ, zero, suc, Bool, true, false, cond, List, [], ◌∷◌, ◌++◌, get_or, Some, refl, sym, ap, subst, append-nil}
use Rattle.std.specs.List.{AllByRecursion, list_any}
use Rattle.std.specs.Str.{bytes_eq}
use Rattle.std.proofs.lemmas.Slice.Eq.{bytes_eq-Decides}
use Rattle.serde_json.specs.Data.{Data}
use Rattle.serde_json.specs.Read.{read}
use Rattle.ss_lemmas.proofs.Bools.{some_same}
use Rattle.ss_lemmas.proofs.EachOf.{all_with}
use Rattle.ss_model.specs.declared.catalog.Body.{Body}
use Rattle.ss_model.specs.declared.catalog.Catalog.{Catalog}
use Rattle.ss_model.specs.Accepted.{Accepted}
use Rattle.ss_model.specs.AcceptedBodies.{OtherBodies}
use Rattle.ss_model.specs.Database.{body_named, has_spare, spare_bodies}
use Rattle.ss_model.specs.Spares.{AcceptedBody}
use Rattle.ss_model.specs.SparesAside.{GoesOnWith, with_spares}
use Rattle.ss_nest.specs.Bodies.{HasOneNestedBody, IsNestedBodyOf, NestedBodiesMayStand, NestedBodyReads}
use Rattle.ss_catalog.proofs.WithSpare.{any_spares}
use Rattle.ss_snapshot.specs.Own.{IsReadFromItsText, SameButSpares}
use Rattle.ss_snapshot.proofs.BothSpares.{body_more, both, both_own}
use Rattle.ss_recover.proofs.AnySpares.{accepted_with}

-- ---- lists behind lists

both_at : (xs ys : List (List Body)) (q : ℕ) → get_or (both xs ys) q [] ≡ get_or xs q [] ++ get_or ys q []
both_at [] ys zero = refl
both_at [] ys (suc q) = refl
both_at (x ∷ xs) [] zero = sym (append-nil x)
both_at (x ∷ xs) [] (suc q) = sym (append-nil (get_or xs q []))
both_at (x ∷ xs) (y ∷ ys) zero = refl
both_at (x ∷ xs) (y ∷ ys) (suc q) = both_at xs ys q

or_true : (a b : Bool) → b ≡ true → (a || b) ≡ true
or_true true b h = refl
or_true false b h = h

or_so : (a b c : Bool) → (b ≡ true → c ≡ true) → (a || b) ≡ true → (a || c) ≡ true
or_so true b c so h = refl
or_so false b c so h = so h

any_front : (p : Body → Bool) (xs ys : List Body) → list_any p xs ≡ true → list_any p (xs ++ ys) ≡ true
any_front p [] ys h = absurd (cc)
any_front p (x ∷ xs) ys h = or_so (p x) (list_any p xs) (list_any p (xs ++ ys)) (any_front p xs ys) h

any_behind : (p : Body → Bool) (xs ys : List Body) → list_any p ys ≡ true → list_any p (xs ++ ys) ≡ true
any_behind p [] ys h = h
any_behind p (x ∷ xs) ys h = or_true (p x) (list_any p (xs ++ ys)) (any_behind p xs ys h)

-- ---- the body that is found

-- among bodies each of which is that of its text, the first with a text is the body of this one
record Found (c : Catalog) (q : ℕ) (text : List ℕ) (xs : List Body) : Type 0 where
  body : Body
  found : body_named text xs ≡ Some body
  is : IsNestedBodyOf c q text body

found_in : (c : Catalog) (q : ℕ) (text : List ℕ) (xs : List Body) → AllByRecursion (λ (b : Body). IsNestedBodyOf c q b.text b) xs → list_any (λ (b : Body). bytes_eq b.text text) xs ≡ true → Found c q text xs
found_in c q text [] all h = absurd (cc)
found_in c q text (x ∷ xs) all h = by (bytes_eq x.text text) refl h (found_in c q text xs all.1)
  where
    by : (t : Bool) → bytes_eq x.text text ≡ t → (t || list_any (λ (b : Body). bytes_eq b.text text) xs) ≡ true
        → (list_any (λ (b : Body). bytes_eq b.text text) xs ≡ true → Found c q text xs) → Found c q text (x ∷ xs)
    by true is k rest = record { body = x; found = ap (λ (t : Bool). cond t (Some x) (body_named text xs)) is; is = (all.0.0, (bytes_eq-Decides x.text text).0 is) }
    by false is k rest = (let later = rest k in record { body = later.body; found = ap (λ (t : Bool). cond t (Some x) (body_named text xs)) is ∙ later.found; is = later.is })

-- a text is that of one body
one_of_text : HasOneNestedBody → (c : Catalog) (q : ℕ) (text : List ℕ) (x y : Body) → IsNestedBodyOf c q text x → IsNestedBodyOf c q text y → x ≡ y
one_of_text one c q text x y is other =
    let same : read x.text ≡ read y.text = ap read (is.1 ∙ sym other.1) in
    let says : is.0.0 ≡ other.0.0 = some_same is.0.0 other.0.0 (sym is.0.1.reads.reads_back ∙ same ∙ other.0.1.reads.reads_back) in
    one c q other.0.0 x y (subst (λ (d : Data). NestedBodyReads c q d x) says is.0.1) other.0.1

module _ (stand : NestedBodiesMayStand) (one : HasOneNestedBody) where
  -- what a catalogue has to be installed may stand in it
  stand_there : (c : Catalog) → IsReadFromItsText c → OtherBodies c
  stand_there c own q p there = all_with (λ (b : Body). IsNestedBodyOf c q b.text b) (λ (b : Body). AcceptedBody c q p b.steps) (λ b is. stand c q is.0.0 b is.0.1 p there) (spare_bodies c q) (own.spares q)

  -- with more bodies of their texts, among them all texts that it has, a catalogue goes on
  goes_on_with : (c : Catalog) (spares : List (List Body)) → IsReadFromItsText c → IsReadFromItsText (with_spares c spares)
      → ((q : ℕ) (text : List ℕ) → has_spare c q text ≡ true → has_spare (with_spares c spares) q text ≡ true) → GoesOnWith c spares
  goes_on_with c spares own grown has = record {
    accepted = λ q p there.
        all_with (λ (b : Body). AcceptedBody (with_spares c spares) q p b.steps) (λ (b : Body). AcceptedBody c q p b.steps) (λ b. any_spares c spares c.spares q p b.steps) (get_or spares q [])
        (stand_there (with_spares c spares) grown q p there);
    same = λ q text h.
        let old = found_in c q text (spare_bodies c q) (own.spares q) h in
        let new = found_in (with_spares c spares) q text (get_or spares q []) (grown.spares q) (has q text h) in
        let there : IsNestedBodyOf c q text new.body = body_more (with_spares c spares) c.spares q text new.body new.is in
        new.found ∙ ap (λ (b : Body). Some b) (one_of_text one c q text new.body old.body there old.is) ∙ sym old.found;
  }

  module _ (a b : Catalog) (same : SameButSpares a b) (own : IsReadFromItsText a) (other : IsReadFromItsText b) where
    abbrev pub of_both : List (List Body)
    of_both = both a.spares b.spares

    pub one_joint : with_spares a of_both ≡ with_spares b of_both
    one_joint = ap (λ (c : Catalog). with_spares c of_both) same

    pub joint_own : IsReadFromItsText (with_spares a of_both)
    joint_own = both_own a b same own other

    pub front_goes_on : GoesOnWith a of_both
    front_goes_on =
        goes_on_with a of_both own joint_own
        (λ q text h. ap (list_any (λ (x : Body). bytes_eq x.text text)) (both_at a.spares b.spares q) ∙ any_front (λ (x : Body). bytes_eq x.text text) (spare_bodies a q) (spare_bodies b q) h)

    pub behind_goes_on : GoesOnWith b of_both
    behind_goes_on =
        goes_on_with b of_both other (subst IsReadFromItsText one_joint joint_own)
        (λ q text h. ap (list_any (λ (x : Body). bytes_eq x.text text)) (both_at a.spares b.spares q) ∙ any_behind (λ (x : Body). bytes_eq x.text text) (spare_bodies a q) (spare_bodies b q) h)

    -- where the one is accepted the other is
    pub other_accepted : Accepted a → Accepted b
    other_accepted accepted =
        let is : with_spares a b.spares ≡ b = ap (λ (c : Catalog). with_spares c b.spares) same in
        subst Accepted is (accepted_with a b.spares accepted (subst OtherBodies (sym is) (stand_there b other)))
