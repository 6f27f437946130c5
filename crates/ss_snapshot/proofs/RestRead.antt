-- What stands behind a catalogue's text, by what is read but for the bodies, and these.
use Rattle.std.proofs.Common.{◌≡◌, ◌∙◌, ◌≤◌, ◌==◌, inl, inr, ℕ, Bool, true, false, cond, List, length, Result, Ok, Err, IfErr, refl, sym, ap, subst, arith}
use Rattle.ss_model.specs.declared.catalog.Catalog.{Catalog}
use Rattle.ss_model.specs.Contents.{Table}
use Rattle.ss_model.specs.Settling.{Kept}
use Rattle.ss_cmdlog.specs.Reading.{◌>>>◌}
use Rattle.ss_standing.specs.ImageForm.{bodies_of, kept_in, to_the_end}
use Rattle.ss_snapshot.specs.declared.reading.fields.PartError.{PartError}
use Rattle.ss_snapshot.specs.declared.reading.fields.PartError.TheVariants.{NoMemory, Foreign}
use Rattle.ss_snapshot.specs.Beside.{BesideTables, but_bodies_of, to_kept}
use Rattle.ss_snapshot.specs.Bodies.{IsFurthest, NoFurther, UnlessMemory}
use Rattle.ss_snapshot.specs.Images.{RefusesRest}
use Rattle.ss_snapshot.specs.Own.{IsReadFromItsText, SameButSpares}
use Rattle.ss_snapshot.specs.Parts.{Refuses}
use Rattle.ss_snapshot.proofs.BesideRead.{Texts, joined, kept_by_parts, seen_by}

-- but for the bodies it is read the same with whatever bodies to be installed
pub same_but_bodies : (a b : Catalog) (most : ℕ) (bytes : List ℕ) → SameButSpares a b → but_bodies_of a most bytes ≡ but_bodies_of b most bytes
same_but_bodies a b most bytes same = ap (λ (c : Catalog). but_bodies_of c most bytes) same

-- all of it to its end, by its parts
abbrev end_of : {A : Type 0} → Result (A × List ℕ) ℕ → Result A ℕ
end_of r = r >>> λ x. cond (length x.1 == 0) (Ok x.0) (Err (length x.1))

abbrev whole_of_parts : List Table × BesideTables → Texts → Kept
whole_of_parts k texts = to_kept k.0 k.1 texts

module _ (bodies : Bool) (catalog : Catalog) (first : ℕ) (bytes : List ℕ) where
  by_parts : to_the_end (kept_in bodies catalog first) bytes ≡ end_of (joined whole_of_parts (but_bodies_of catalog first bytes) (bodies_of bodies catalog))
  by_parts = ap end_of (kept_by_parts bodies catalog first bytes)

  -- where the first parts are refused, all is
  pub front_refused : (left : ℕ) → but_bodies_of catalog first bytes ≡ Err left → to_the_end (kept_in bodies catalog first) bytes ≡ Err left
  front_refused left is = by_parts ∙ ap (λ (r : Result ((List Table × BesideTables) × List ℕ) ℕ). end_of (joined whole_of_parts r (bodies_of bodies catalog))) is

  module _ (k : List Table × BesideTables) (rest : List ℕ) (is : but_bodies_of catalog first bytes ≡ Ok (k, rest)) where
    behind_front : to_the_end (kept_in bodies catalog first) bytes ≡ end_of (seen_by (whole_of_parts k) (bodies_of bodies catalog rest))
    behind_front = by_parts ∙ ap (λ (r : Result ((List Table × BesideTables) × List ℕ) ℕ). end_of (joined whole_of_parts r (bodies_of bodies catalog))) is

    ends_alike : (r : Result (Texts × List ℕ) ℕ) → end_of (seen_by (whole_of_parts k) r) ≡ (end_of r >>> λ texts. Ok (whole_of_parts k texts))
    ends_alike (Ok x) = by (length x.1 == 0)
      where
        by : (none : Bool) → cond none (Ok (whole_of_parts k x.0)) (Err (length x.1)) ≡ (cond none (Ok x.0) (Err (length x.1)) >>> λ texts. Ok (whole_of_parts k texts))
        by true = refl
        by false = refl
    ends_alike (Err left) = refl

    -- what is read of the bodies to the end is read of all
    pub whole_read : (texts : Texts) → to_the_end (bodies_of bodies catalog) rest ≡ Ok texts → to_the_end (kept_in bodies catalog first) bytes ≡ Ok (whole_of_parts k texts)
    whole_read texts read = behind_front ∙ ends_alike (bodies_of bodies catalog rest) ∙ ap (λ (r : Result Texts ℕ). r >>> λ texts. Ok (whole_of_parts k texts)) read

    pub whole_refused : (left : ℕ) → to_the_end (bodies_of bodies catalog) rest ≡ Err left → to_the_end (kept_in bodies catalog first) bytes ≡ Err left
    whole_refused left read = behind_front ∙ ends_alike (bodies_of bodies catalog rest) ∙ ap (λ (r : Result Texts ℕ). r >>> λ texts. Ok (whole_of_parts k texts)) read

-- ---- what is refused to the end

module _ (r : Result (Texts × List ℕ) ℕ) (left : ℕ) where
  -- of two readings of which the other is no further
  pub refused_before : (read : Result (Texts × List ℕ) ℕ) → NoFurther read r → end_of read ≡ Err left → (m : ℕ) × (end_of r ≡ Err m) × left ≤ m
  refused_before (Err n) nf refused = (
    nf.0,
    ap end_of nf.1,
    (let same : n ≡ left = err_is n left refused in let within = nf.2 in omega (arith, same, within)),
  )
    where
      err_is : (n m : ℕ) → ◌≡◌ {A = Result Texts ℕ} (Err n) (Err m) → n ≡ m
      err_is n m e = cc
  refused_before (Ok x) nf refused = by (length x.1 == 0) refl nf refused
    where
      err_is : (n m : ℕ) → ◌≡◌ {A = Result Texts ℕ} (Err n) (Err m) → n ≡ m
      err_is n m e = cc

      by : (none : Bool) → (length x.1 == 0) ≡ none → NoFurther (Ok x) r → cond none (Ok x.0) (Err (length x.1)) ≡ Err left → (m : ℕ) × (end_of r ≡ Err m) × left ≤ m
      by true is nf refused = absurd (cc)
      by false is (inl same) refused = (length x.1, ap end_of same ∙ (λ i. cond (is i) (Ok x.0) (Err (length x.1))), (let here = err_is (length x.1) left refused in omega (arith, here)))
      by false is (inr less) refused = (less.0, ap end_of less.1, (let here = err_is (length x.1) left refused in let within = less.2 in omega (arith, here, within)))

module _ (bodies : Bool) (catalog : Catalog) (first : ℕ) (bytes : List ℕ) (one : (other : Catalog) → IsReadFromItsText other → other.text ≡ catalog.text → SameButSpares catalog other) where
  pub beside_refused : (e : PartError) → Refuses e (but_bodies_of catalog first bytes) → RefusesRest bodies catalog first bytes e
  beside_refused NoMemory refused = tt
  beside_refused (Foreign left) refused = record {
    refused = front_refused bodies catalog first bytes left refused;
    furthest = λ other own text.
        (left, front_refused bodies other first bytes left (sym (same_but_bodies catalog other first bytes (one other own text)) ∙ refused), (let plain : left ≤ left = omega arith in plain));
  }

  module _ (k : List Table × BesideTables) (rest : List ℕ) (is : but_bodies_of catalog first bytes ≡ Ok (k, rest)) where
    pub bodies_refused : (e : PartError) → Refuses e (to_the_end (bodies_of bodies catalog) rest) → UnlessMemory e (IsFurthest bodies catalog rest) → RefusesRest bodies catalog first bytes e
    bodies_refused NoMemory refused far = tt
    bodies_refused (Foreign left) refused far = record {
      refused = whole_refused bodies catalog first bytes k rest is left refused;
      furthest = λ other own text.
          let before = refused_before (bodies_of bodies other rest) left (bodies_of bodies catalog rest) (far other own text) refused in
          let front = sym (same_but_bodies catalog other first bytes (one other own text)) ∙ is in
          (before.0, whole_refused bodies other first bytes k rest front before.0 before.1, before.2);
    }

pub memory_refused : {A : Type 0} (bodies : Bool) (catalog : Catalog) (first : ℕ) (bytes : List ℕ) (r : Result A PartError) → IfErr r (λ e. e ≡ NoMemory) → IfErr r (λ e. RefusesRest bodies catalog first bytes e)
memory_refused bodies catalog first bytes (Ok x) is = tt
memory_refused bodies catalog first bytes (Err e) is = subst (RefusesRest bodies catalog first bytes) (sym is) tt
