-- An image is read as what is kept of a whole database, and nothing else is.
use Rattle.std.proofs.Common.{◌≡◌, ◌∙◌, ℕ, ◌==◌, List, [], ◌++◌, length, Bool, true, false, cond, Result, Ok, Err, refl, sym, ap, subst, append-nil}
use Rattle.std.proofs.lemmas.List.{nil_from_length}
use Rattle.ss_lemmas.proofs.Numbers.{eqb_is}
use Rattle.ss_model.specs.declared.catalog.Catalog.{Catalog}
use Rattle.ss_model.specs.Accepted.{Accepted}
use Rattle.ss_model.specs.Settling.{Kept}
use Rattle.ss_record.specs.Numbers.{IsBytes}
use Rattle.ss_cmdlog.specs.Reading.{◌>>>◌}
use Rattle.ss_cmdlog.proofs.CallerLemmas.{bind_ok}
use Rattle.ss_standing.specs.FitsImage.{FitsImage}
use Rattle.ss_standing.specs.Image.{kept_bytes}
use Rattle.ss_standing.specs.Readers.{IsExact}
use Rattle.ss_standing.specs.ImageForm.{IsKeptOf, kept_in, to_the_end}
use Rattle.ss_standing.proofs.Exact.{exact_so}
use Rattle.ss_standing.proofs.KeptExact.{HasForm, form_exact}
use Rattle.ss_standing.proofs.Formed.{is_kept}
use Rattle.ss_standing.proofs.FormOf.{form_of}

pub kept_exact : (bodies : Bool) (catalog : Catalog) (most : ℕ) → Accepted catalog → IsExact (kept_in bodies catalog most) (kept_bytes bodies catalog) (IsKeptOf bodies catalog most)
kept_exact bodies catalog most accepted =
    exact_so (kept_in bodies catalog most) (kept_bytes bodies catalog) (kept_bytes bodies catalog) (HasForm bodies catalog most) (IsKeptOf bodies catalog most) (form_exact bodies catalog most)
    (λ k form. (refl, is_kept catalog accepted bodies most k form))
    (λ k is. subst (HasForm bodies catalog most) (sym is.is) (form_of catalog accepted most is.db is.whole is.had bodies (subst (FitsImage bodies catalog) is.is is.fits)))

end_ok : {A : Type 0} (b : Bool) (x : A) (e : ℕ) (y : A) → cond b (Ok x) (Err e) ≡ Ok y → (b ≡ true) × (x ≡ y)
end_ok true x e y is = let same : x ≡ y = cc in (refl, same)
end_ok false x e y is = cc

-- read to the end, bytes are those of one thing that is kept
pub read_to_the_end : (bodies : Bool) (catalog : Catalog) (most : ℕ) → Accepted catalog → (bytes : List ℕ) (k : Kept) → IsBytes bytes → to_the_end (kept_in bodies catalog most) bytes ≡ Ok k → (bytes ≡ kept_bytes bodies catalog k) × IsKeptOf bodies catalog most k
read_to_the_end bodies catalog most accepted bytes k are is =
    let read = bind_ok (kept_in bodies catalog most bytes) (λ x. cond (length x.1 == 0) (Ok x.0) (Err (length x.1))) k is in
    let ends = end_ok (length read.0.1 == 0) read.0.0 (length read.0.1) k read.2 in
    let takes = (kept_exact bodies catalog most accepted).takes bytes read.0.0 read.0.1 are read.1 in
    let none : read.0.1 ≡ [] = nil_from_length read.0.1 (eqb_is (length read.0.1) 0 ends.0) in (
      takes.0 ∙ (λ j. kept_bytes bodies catalog (ends.1 j) ++ none j) ∙ append-nil (kept_bytes bodies catalog k),
      subst (IsKeptOf bodies catalog most) ends.1 takes.2,
    )

-- and what is kept is read to the end of its bytes
pub spelled_to_the_end : (bodies : Bool) (catalog : Catalog) (most : ℕ) → Accepted catalog → (k : Kept) → IsKeptOf bodies catalog most k → to_the_end (kept_in bodies catalog most) (kept_bytes bodies catalog k) ≡ Ok k
spelled_to_the_end bodies catalog most accepted k is =
    ap (to_the_end (kept_in bodies catalog most)) (sym (append-nil (kept_bytes bodies catalog k)))
    ∙ ap (λ (r : Result (Kept × List ℕ) ℕ). r >>> λ x. cond (length x.1 == 0) (Ok x.0) (Err (length x.1))) ((kept_exact bodies catalog most accepted).again k [] is)
