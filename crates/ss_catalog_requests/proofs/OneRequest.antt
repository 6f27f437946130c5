-- A value asks for one request at most, and has one refusal at most; bodies that may be installed already make no difference.
use Rattle.std.proofs.Common.{◌≡◌, ◌⊎◌, inl, inr, ◌≤◌, ◌<◌, ◌∙◌, ℕ, List, length, Option, Some, Err, refl, sym, ap, subst, arith}
use Rattle.std.specs.Prelude.{codes}
use Rattle.serde_json.specs.Data.{Data}
use Rattle.serde_json.specs.Find.{get}
use Rattle.ss_model.specs.declared.catalog.Body.{Body}
use Rattle.ss_model.specs.declared.catalog.Catalog.{Catalog}
use Rattle.ss_model.specs.declared.entry.Asked.{Asked}
use Rattle.ss_model.specs.declared.entry.Request.{Request}
use Rattle.ss_model.specs.SparesAside.{with_spares}
use Rattle.ss_catalog.specs.declared.error.CatalogError.{CatalogError}
use Rattle.ss_nest.specs.Bodies.{NestedBodyReads, RefusesNestedBody, HasOneNestedBody, IsNestedBodyOrRefused, HasOneNestedBodyRefusal}
use Rattle.ss_catalog.proofs.CallerLemmas.{err_same, ok_or_err, ok_same}
use Rattle.ss_catalog_requests.specs.declared.request.Said.{Said}
use Rattle.ss_catalog_requests.specs.declared.request.Said.TheVariants.{Whole, Body as SaidBody}
use Rattle.ss_catalog_requests.specs.declared.request.SaidRequest.{SaidRequest}
use Rattle.ss_catalog_requests.specs.declared.request.RequestError.{RequestError}
use Rattle.ss_catalog_requests.specs.declared.request.RequestError.TheVariants.{NoMemory, Shape, UnknownTarget, Arguments, TooManyRows, Nested, BadBody}
use Rattle.ss_catalog_requests.specs.Requests.{said_of}
use Rattle.ss_catalog_requests.specs.Answers.{BodyAt, BodyFaultAt, HasLongBody, AsksFor, Asks, Installs, RefusesInstall, RefusesRequest, IsAskedOrRefused, HasOneRequestRefusal, AsksWithoutSpares, RefusesWithoutSpares}

-- ---- the two kinds of refusals

-- a refusal of what is said, or of the body to be installed
abbrev Refused : Catalog → ℕ → Data → RequestError → Type 0
Refused catalog line d e = (said_of catalog line d ≡ Err e) ⊎ ((q : ℕ) × Installs catalog line d q × RefusesInstall catalog line d q e)

refused_so : (catalog : Catalog) (line : ℕ) (d : Data) (e : RequestError) → (e ≡ NoMemory → ⊥) → RefusesRequest catalog line d e → Refused catalog line d e
refused_so catalog line d NoMemory other h = absurd (other refl)
refused_so catalog line d (Shape at) other h = h
refused_so catalog line d (UnknownTarget at) other h = h
refused_so catalog line d (Arguments at) other h = h
refused_so catalog line d (TooManyRows at) other h = h
refused_so catalog line d (Nested at) other h = h
refused_so catalog line d (BadBody at x) other h = h

pub from_install : (catalog : Catalog) (line : ℕ) (d : Data) (q : ℕ) (e : RequestError) → Installs catalog line d q → RefusesInstall catalog line d q e
    → RefusesRequest catalog line d e
from_install catalog line d q NoMemory is h = tt
from_install catalog line d q (Shape at) is h = inr (q, is, h)
from_install catalog line d q (UnknownTarget at) is h = inr (q, is, h)
from_install catalog line d q (Arguments at) is h = inr (q, is, h)
from_install catalog line d q (TooManyRows at) is h = inr (q, is, h)
from_install catalog line d q (Nested at) is h = inr (q, is, h)
from_install catalog line d q (BadBody at x) is h = inr (q, is, h)

-- a refusal of a body is for its length, or for a fault of the body
abbrev RefusedBody : Catalog → ℕ → Data → ℕ → RequestError → Type 0
RefusedBody catalog line d q e = ((e ≡ Shape line) × HasLongBody catalog q d) ⊎ ((x : CatalogError) × (e ≡ BadBody line x) × BodyFaultAt catalog q d x)

refused_body : (catalog : Catalog) (line : ℕ) (d : Data) (q : ℕ) (e : RequestError) → (e ≡ NoMemory → ⊥) → RefusesInstall catalog line d q e → RefusedBody catalog line d q e
refused_body catalog line d q NoMemory other h = absurd (other refl)
refused_body catalog line d q (Shape at) other h = inl (ap Shape h.0, h.1)
refused_body catalog line d q (UnknownTarget at) other h = absurd h
refused_body catalog line d q (Arguments at) other h = absurd h
refused_body catalog line d q (TooManyRows at) other h = absurd h
refused_body catalog line d q (Nested at) other h = absurd h
refused_body catalog line d q (BadBody at x) other h = inr (x, ap (λ n. BadBody n x) h.0, h.1)

-- ---- one answer

same_value : (o : Option Data) (a b : Data) → o ≡ Some a → o ≡ Some b → a ≡ b
same_value o a b h k = cc

same_procedure : (catalog : Catalog) (line : ℕ) (d : Data) (q r : ℕ) → Installs catalog line d q → Installs catalog line d r → q ≡ r
same_procedure catalog line d q r h k =
    let same : SaidBody q ≡ SaidBody r = ap (λ (s : SaidRequest). s.what) (ok_same (said_of catalog line d) _ _ h.1 k.1) in cc

module _ (one : HasOneNestedBody) (either : IsNestedBodyOrRefused) (once : HasOneNestedBodyRefusal) where
  one_body_at : (catalog : Catalog) (q : ℕ) (d : Data) (b c : Body) → BodyAt catalog q d b → BodyAt catalog q d c → b ≡ c
  one_body_at catalog q d b c h k =
      one catalog q h.0 b c h.2 (subst (λ (v : Data). NestedBodyReads catalog q v c) (same_value (get (codes "body") d) k.0 h.0 k.1 h.1) k.2)

  body_or_fault : (catalog : Catalog) (q : ℕ) (d : Data) (b : Body) (x : CatalogError) → BodyAt catalog q d b → BodyFaultAt catalog q d x → ⊥
  body_or_fault catalog q d b x h k =
      k.3 (either catalog q k.0 b x (subst (λ (v : Data). NestedBodyReads catalog q v b) (same_value (get (codes "body") d) h.0 k.0 h.1 k.1) h.2) k.2)

  one_fault_at : (catalog : Catalog) (q : ℕ) (d : Data) (x y : CatalogError) → BodyFaultAt catalog q d x → BodyFaultAt catalog q d y → x ≡ y
  one_fault_at catalog q d x y h k =
      once catalog q h.0 x y h.2 (subst (λ (v : Data). RefusesNestedBody catalog q v y) (same_value (get (codes "body") d) k.0 h.0 k.1 h.1) k.2) h.3 k.3

  asked_or_body : (catalog : Catalog) (line : ℕ) (d : Data) (q : ℕ) (what : Asked) (e : RequestError) → AsksFor catalog d (SaidBody q) what → RefusedBody catalog line d q e → ⊥
  asked_or_body catalog line d q what e a (inl h) =
      let long = h.1 in
      let same : long.0 ≡ a.0 = one_body_at catalog q d long.0 a.0 long.1 a.1 in
      let far : 1048576 < length a.0.text = subst (λ (b : Body). 1048576 < length b.text) same long.2 in
      let near : length a.0.text ≤ 1048576 = a.2 in
      omega arith
  asked_or_body catalog line d q what e a (inr h) = body_or_fault catalog q d a.0 h.0 a.1 h.2

  asked_apart : (catalog : Catalog) (line : ℕ) (d : Data) (r : Request) (e : RequestError) → (e ≡ NoMemory → ⊥) → Asks catalog line d r → Refused catalog line d e → ⊥
  asked_apart catalog line d r e other a (inl h) = ok_or_err (said_of catalog line d) a.0 e a.1 h
  asked_apart catalog line d r e other a (inr h) =
      let q = h.0 in
      let same : a.0.what ≡ SaidBody q = ap (λ (s : SaidRequest). s.what) (ok_same (said_of catalog line d) _ _ a.1 h.1.1) in
      asked_or_body catalog line d q r.what e (subst (λ (w : Said). AsksFor catalog d w r.what) same a.4) (refused_body catalog line d q e other h.2)

  pub asked_or_refused : IsAskedOrRefused
  asked_or_refused catalog line d r NoMemory a h = refl
  asked_or_refused catalog line d r (Shape at) a h = absurd (asked_apart catalog line d r (Shape at) (λ same. cc) a h)
  asked_or_refused catalog line d r (UnknownTarget at) a h = absurd (asked_apart catalog line d r (UnknownTarget at) (λ same. cc) a h)
  asked_or_refused catalog line d r (Arguments at) a h = absurd (asked_apart catalog line d r (Arguments at) (λ same. cc) a h)
  asked_or_refused catalog line d r (TooManyRows at) a h = absurd (asked_apart catalog line d r (TooManyRows at) (λ same. cc) a h)
  asked_or_refused catalog line d r (Nested at) a h = absurd (asked_apart catalog line d r (Nested at) (λ same. cc) a h)
  asked_or_refused catalog line d r (BadBody at x) a h = absurd (asked_apart catalog line d r (BadBody at x) (λ same. cc) a h)

  one_body_refusal : (catalog : Catalog) (line : ℕ) (d : Data) (q : ℕ) (e f : RequestError) → RefusedBody catalog line d q e → RefusedBody catalog line d q f → e ≡ f
  one_body_refusal catalog line d q e f (inl h) (inl k) = h.0 ∙ sym k.0
  one_body_refusal catalog line d q e f (inl h) (inr k) = absurd (body_or_fault catalog q d h.1.0 k.0 h.1.1 k.2)
  one_body_refusal catalog line d q e f (inr h) (inl k) = absurd (body_or_fault catalog q d k.1.0 h.0 k.1.1 h.2)
  one_body_refusal catalog line d q e f (inr h) (inr k) = h.1 ∙ ap (λ x. BadBody line x) (one_fault_at catalog q d h.0 k.0 h.2 k.2) ∙ sym k.1

  one_refused : (catalog : Catalog) (line : ℕ) (d : Data) (e f : RequestError) → (e ≡ NoMemory → ⊥) → (f ≡ NoMemory → ⊥) → Refused catalog line d e → Refused catalog line d f → e ≡ f
  one_refused catalog line d e f some other (inl h) (inl k) = err_same (said_of catalog line d) e f h k
  one_refused catalog line d e f some other (inl h) (inr k) = absurd (ok_or_err (said_of catalog line d) _ e k.1.1 h)
  one_refused catalog line d e f some other (inr h) (inl k) = absurd (ok_or_err (said_of catalog line d) _ f h.1.1 k)
  one_refused catalog line d e f some other (inr h) (inr k) =
      one_body_refusal catalog line d h.0 e f (refused_body catalog line d h.0 e some h.2)
      (refused_body catalog line d h.0 f other (subst (λ q. RefusesInstall catalog line d q f) (same_procedure catalog line d k.0 h.0 k.1 h.1) k.2))

  pub one_request_refusal : HasOneRequestRefusal
  one_request_refusal catalog line d e f h k some other = one_refused catalog line d e f some other (refused_so catalog line d e some h) (refused_so catalog line d f other k)

-- ---- bodies that may be installed already

said_aside : (catalog : Catalog) (spares : List (List Body)) (line : ℕ) (d : Data) → said_of (with_spares catalog spares) line d ≡ said_of catalog line d
unfolding said_of
said_aside catalog spares line d = refl

body_aside : (catalog : Catalog) (spares others : List (List Body)) (q : ℕ) (body : Data) (b : Body) → NestedBodyReads (with_spares catalog spares) q body b
    → NestedBodyReads (with_spares catalog others) q body b
body_aside catalog spares others q body b h = record {
  whole = h.whole;
  is_from = h.is_from;
  number = h.number;
  is_plain_one = h.is_plain_one;
  reads = h.reads;
}

asks_aside : (catalog : Catalog) (spares others : List (List Body)) (d : Data) (said : Said) (what : Asked) → AsksFor (with_spares catalog spares) d said what
    → AsksFor (with_spares catalog others) d said what
asks_aside catalog spares others d (Whole asked) what h = h
asks_aside catalog spares others d (SaidBody q) what h = (h.0, (h.1.0, h.1.1, body_aside catalog spares others q h.1.0 h.0 h.1.2), h.2, h.3)

install_aside : (catalog : Catalog) (spares others : List (List Body)) (line : ℕ) (d : Data) (q : ℕ) (e : RequestError) → RefusesInstall (with_spares catalog spares) line d q e
    → RefusesInstall (with_spares catalog others) line d q e
install_aside catalog spares others line d q NoMemory h = tt
install_aside catalog spares others line d q (Shape at) h = (h.0, (h.1.0, (h.1.1.0, h.1.1.1, body_aside catalog spares others q h.1.1.0 h.1.0 h.1.1.2), h.1.2))
install_aside catalog spares others line d q (UnknownTarget at) h = h
install_aside catalog spares others line d q (Arguments at) h = h
install_aside catalog spares others line d q (TooManyRows at) h = h
install_aside catalog spares others line d q (Nested at) h = h
install_aside catalog spares others line d q (BadBody at x) h = h

refused_aside : (catalog : Catalog) (spares others : List (List Body)) (line : ℕ) (d : Data) (e : RequestError) → Refused (with_spares catalog spares) line d e
    → Refused (with_spares catalog others) line d e
refused_aside catalog spares others line d e (inl h) = inl (said_aside catalog others line d ∙ sym (said_aside catalog spares line d) ∙ h)
refused_aside catalog spares others line d e (inr h) =
    inr (h.0, (h.1.0, said_aside catalog others line d ∙ sym (said_aside catalog spares line d) ∙ h.1.1), install_aside catalog spares others line d h.0 e h.2)

request_aside : (catalog : Catalog) (spares others : List (List Body)) (line : ℕ) (d : Data) (e : RequestError) → RefusesRequest (with_spares catalog spares) line d e
    → RefusesRequest (with_spares catalog others) line d e
request_aside catalog spares others line d NoMemory h = tt
request_aside catalog spares others line d (Shape at) h = refused_aside catalog spares others line d (Shape at) h
request_aside catalog spares others line d (UnknownTarget at) h = refused_aside catalog spares others line d (UnknownTarget at) h
request_aside catalog spares others line d (Arguments at) h = refused_aside catalog spares others line d (Arguments at) h
request_aside catalog spares others line d (TooManyRows at) h = refused_aside catalog spares others line d (TooManyRows at) h
request_aside catalog spares others line d (Nested at) h = refused_aside catalog spares others line d (Nested at) h
request_aside catalog spares others line d (BadBody at x) h = refused_aside catalog spares others line d (BadBody at x) h

pub refuses_without : RefusesWithoutSpares
refuses_without catalog spares line d e = (request_aside catalog spares catalog.spares line d e, request_aside catalog catalog.spares spares line d e)

pub asks_without : AsksWithoutSpares
asks_without catalog spares line d r = (
  (λ h. (h.0, sym (said_aside catalog spares line d) ∙ h.1, h.2, h.3, asks_aside catalog spares catalog.spares d h.0.what r.what h.4)),
  (λ h. (h.0, said_aside catalog spares line d ∙ h.1, h.2, h.3, asks_aside catalog catalog.spares spares d h.0.what r.what h.4)),
)
