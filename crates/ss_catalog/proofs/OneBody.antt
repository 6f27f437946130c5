-- A value reads as one body of a procedure, which the procedure may have, or it has one refusal, out of memory aside.
use Rattle.std.proofs.Common.{◌≡◌, ◌∙◌, ◌+◌, ℕ, zero, suc, false, List, [], ◌∷◌, slice_get, Option, Some, None, refl, sym, ap, subst}
use Rattle.std.specs.Prelude.{Ok, option_map}
use Rattle.serde_json.specs.Data.{Data}
use Rattle.serde_json.specs.Read.{read}
use Rattle.serde_json.specs.Written.{has_float}
use Rattle.ss_lemmas.proofs.Results.{map_some}
use Rattle.ss_model.specs.declared.catalog.Catalog.{Catalog}
use Rattle.ss_model.specs.declared.catalog.Procedure.{Procedure}
use Rattle.ss_model.specs.Spares.{AcceptedBody}
use Rattle.ss_model.specs.SparesAside.{with_spares}
use Rattle.ss_model.specs.AcceptedBodies.{AcceptedInPlace, with_body_at}
use Rattle.ss_catalog_outline.specs.declared.types.StepOutline.{StepOutline}
use Rattle.ss_catalog_outline.specs.declared.types.ProcedureOutline.{ProcedureOutline}
use Rattle.ss_catalog_outline.specs.declared.types.Outline.{Outline}
use Rattle.ss_catalog_outline.specs.Steps.{read_steps}
use Rattle.ss_catalog_resolve.specs.InOrder.{AllRead}
use Rattle.ss_catalog_resolve.specs.Bodies.{ProcedureReads, Resolves}
use Rattle.ss_catalog.specs.Accepts.{Accepts}
use Rattle.ss_catalog.specs.Checks.{IsShaped, HasRightOwners}
use Rattle.ss_catalog.specs.Reads.{Reads, Refuses}
use Rattle.ss_catalog.specs.Bodies.{with_body_in, IsReadFrom, HasOneBody, IsBodyOrRefused, HasOneBodyRefusal, BodiesMayStand}
use Rattle.ss_catalog.proofs.OneAnswer.{ok_same}
use Rattle.ss_catalog.proofs.Texts.{SqlLaws, some_same}
use Rattle.ss_catalog.proofs.Refused.{resolved_of, shape_of, same_catalog, passes_same, reported_of, passed_or_reported, one_reported}
use Rattle.ss_catalog.proofs.InPlace.{bind_ok, outline_with, inside_body, from_inside, outline_in_place}
use Rattle.ss_catalog.proofs.InOrder.{read_in_order}
use Rattle.ss_catalog.proofs.OutlineNoFloats.{body_has_no_float}
use Rattle.ss_catalog.proofs.OtherSteps.{changed_in_place}
use Rattle.ss_catalog.proofs.WithSpare.{any_spares}

-- a catalogue was read from one value
pub one_whole : (catalog : Catalog) (d e : Data) → IsReadFrom catalog d → IsReadFrom catalog e → d ≡ e
one_whole catalog d e h k = some_same (read catalog.text) d e h.reads_back k.reads_back

-- and what a value reads as was read from it
pub read_from : (d : Data) (catalog : Catalog) → Reads d catalog → IsReadFrom catalog d
read_from d catalog h = subst (Reads d) (λ i. with_spares catalog ((resolved_of d h.outline catalog h.passes).1.spares i)) h

-- what is there under f
there_under : {A B : Type 0} (f : A → B) (x y : Option A) (a b : B) → x ≡ y → option_map f x ≡ Some a → option_map f y ≡ Some b → a ≡ b
there_under f x y a b same h k = some_same (option_map f y) a b (ap (option_map f) (sym same) ∙ h) k

-- ---- one answer

pub one_body : SqlLaws → HasOneBody
one_body laws catalog q body b c h k =
    let whole = one_whole catalog h.whole k.whole h.is_read_from k.is_read_from in
    let passes = subst (λ (d : Data). HasRightOwners (with_body_in q body d) h.outline h.changed) whole h.passes in
    let d = with_body_in q body k.whole in
    let same = same_catalog laws d h.outline k.outline h.changed k.changed (resolved_of d h.outline h.changed passes) (resolved_of d k.outline k.changed k.passes) in
    let steps = there_under (λ (p : Procedure). p.body) (slice_get h.changed.procedures q) (slice_get k.changed.procedures q) b.steps c.steps
    (ap (λ (ps : List Procedure). slice_get ps q) same.procedures) h.steps k.steps in
    λ i. record { text = (h.text ∙ sym k.text) i; steps = steps i }

pub body_or_refused : SqlLaws → IsBodyOrRefused
body_or_refused laws catalog q body b e h k =
    let whole = one_whole catalog k.0 h.whole k.1 h.is_read_from in
    let d = with_body_in q body h.whole in
    passed_or_reported d laws e (h.outline, h.changed, (h.passes, h.limits)) (reported_of d e (subst (λ (x : Data). Refuses (with_body_in q body x) e) whole k.2))

pub one_body_refusal : SqlLaws → HasOneBodyRefusal
one_body_refusal laws catalog q body e f h k some other =
    let whole = one_whole catalog h.0 k.0 h.1 k.1 in
    let d = with_body_in q body k.0 in
    one_reported d laws e f some other (reported_of d e (subst (λ (x : Data). Refuses (with_body_in q body x) e) whole h.2)) (reported_of d f k.2)

-- ---- the procedure may have it

-- a procedure that was read has an outline
outline_at : (o : Outline) (k : ℕ) (ps : List ProcedureOutline) (xs : List Procedure) (q : ℕ) (x : Procedure) → AllRead (λ p. 1) (ProcedureReads o) k ps xs → slice_get xs q ≡ Some x
    → (p : ProcedureOutline) × (slice_get ps q ≡ Some p)
outline_at o k [] xs q x all is = let none : None ≡ Some x = sym (ap (λ (l : List Procedure). slice_get l q) all) ∙ is in absurd (cc)
outline_at o k (p ∷ ps) [] q x all is = absurd all
outline_at o k (p ∷ ps) (y ∷ xs) zero x all is = (p, refl)
outline_at o k (p ∷ ps) (y ∷ xs) (suc q) x all is = outline_at o (k + 1) ps xs q x all.1 is

-- what was read with a body in place is the catalogue's own outline, with the steps of the body
pub record Placed (q : ℕ) (body : Data) (own o : Outline) : Type 0 where
  pub p : ProcedureOutline
  pub stands : slice_get own.procedures q ≡ Some p
  pub steps : List StepOutline
  pub shape : read_steps p.kind body ≡ Ok steps
  pub is : outline_with own q p steps ≡ o

pub placed : (catalog : Catalog) (q : ℕ) (body d : Data) (x : Procedure) (from : IsReadFrom catalog d) (o : Outline) → slice_get catalog.procedures q ≡ Some x
    → IsShaped (with_body_in q body d) o → Placed q body from.outline o
placed catalog q body d x from o is shaped =
    let base = with_spares catalog [] in
    let resolved = resolved_of d from.outline base from.passes in
    let stands = outline_at from.outline 0 from.outline.procedures base.procedures q x resolved.1.procedures is in
    let steps = read_steps stands.0.kind body in
    let made = bind_ok (inside_body q steps) (λ steps. Ok (outline_with from.outline q stands.0 steps)) o
    (sym (outline_in_place d from.outline q stands.0 body (shape_of d from.outline base resolved) stands.1) ∙ shaped) in
    record {
      p = stands.0;
      stands = stands.1;
      steps = made.0;
      shape = from_inside q steps made.0 made.1;
      is = ok_same (Ok (outline_with from.outline q stands.0 made.0)) (outline_with from.outline q stands.0 made.0) o refl made.2;
    }

pub may_stand : SqlLaws → Accepts → AcceptedInPlace → BodiesMayStand
may_stand laws accepts in_place catalog q body b h p is =
    let base = with_spares catalog [] in
    let own = h.is_read_from in
    let d = with_body_in q body h.whole in
    let accepted = accepts h.whole own.outline base own.passes own.limits in
    let resolved = resolved_of h.whole own.outline base own.passes in
    let other = resolved_of d h.outline h.changed h.passes in
    let there = placed catalog q body h.whole p own h.outline is (shape_of d h.outline h.changed other) in
    let x = map_some (λ (x : Procedure). x.body) (slice_get h.changed.procedures q) b.steps h.steps in
    let same = changed_in_place laws own.outline q there.p there.stands there.steps base h.changed x.0 resolved.1
    (subst (λ (o : Outline). Resolves o h.changed) (sym there.is) other.1) x.1 in
    let in_its_place = with_body_at base q x.0.body in
    let passes = passes_same d h.outline h.changed in_its_place same h.passes in
    let may = (in_place base accepted q p is x.0.body).0 (accepts d h.outline in_its_place passes h.limits) in
    subst (AcceptedBody catalog q p) x.2 (any_spares catalog [] catalog.spares q p x.0.body may)

-- its value has no float
pub body_floatless : (catalog : Catalog) (q : ℕ) (body d : Data) (x : Procedure) (o : Outline) (text : List ℕ) → IsReadFrom catalog d → slice_get catalog.procedures q ≡ Some x
    → IsShaped (with_body_in q body d) o → read text ≡ Some body → has_float body ≡ false
body_floatless catalog q body d x o text from is shaped reads =
    let there = placed catalog q body d x from o is shaped in
    body_has_no_float there.p.kind body there.steps (read_in_order text body reads) there.shape
