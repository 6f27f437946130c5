use Rattle.std.proofs.Common.{◌≡◌, ◌∙◌, ℕ, true, Ok, sym, ap, subst}
use Rattle.std.proofs.lemmas.Result.{err_from_is_err_and}
use Rattle.serde_json.specs.Data.{Data}
use Rattle.serde_json.specs.View.{view}
use Rattle.ss_model.specs.declared.catalog.Catalog.{Catalog}
use Rattle.ss_model.specs.declared.entry.Asked.{Asked}
use Rattle.ss_model.specs.Database.{fits_entry}
use Rattle.ss_model.specs.Report.{asked_entry}
use Rattle.ss_model.specs.SparesAside.{with_spares, GoesOnWith}
use Rattle.ss_catalog_requests.specs.declared.request.Said.{Said}
use Rattle.ss_catalog_requests.specs.declared.request.Said.TheVariants.{Body as SaidBody, Whole}
use Rattle.ss_catalog_requests.specs.declared.request.SaidRequest.{SaidRequest}
use Rattle.ss_catalog_requests.specs.Requests.{said_of}
use Rattle.ss_catalog_requests.specs.Answers.{Installs}
use Rattle.ss_catalog_requests.proofs.Adding.{adds_same, stays_whole}
use Rattle.ss_catalog_requests.proofs.Fits.{FittingSaid, said_fits}
use Rattle.ss_catalog_requests.proofs.Going.{same_goes_on, others_stand, was_read_still}
use Rattle.ss_catalog_requests.proofs.OneRequest.{from_install}
use Rattle.ss_catalog_requests.proofs.request.request_of.Goals.{in-Whole, in-Body+in_ok-what-in-Body}
use Rattle.ss_catalog_requests.proofs.request.request_of.Goals as goal

-- a body is to be installed
installs : (catalog : Catalog) (line : ℕ) (d : Data) (said : SaidRequest) (q : ℕ) → said_of catalog line d ≡ Ok said → said.what ≡ SaidBody q → Installs catalog line d q
installs catalog line d said q is body = (said.client, is ∙ ap (λ (w : Said). Ok (record { client = said.client; what = w })) body)

pub install-requires-clause-takes : goal.install-requires-clause-takes
install-requires-clause-takes c = subst (FittingSaid c.args.catalog.now c.in_ok-said.said.client) c.in-Body.is (said_fits c.args.catalog.now c.args.line (view c.args.value.now) c.in_ok-said.said c.in_ok-said.ensures.ok).1

pub returns-in_err-what-in-Body-clause-refused : goal.returns-in_err-what-in-Body-clause-refused
returns-in_err-what-in-Body-clause-refused c =
    let p = err_from_is_err_and c.from_residual-in_err-what-in-Body.result c.from_residual-in_err-what-in-Body.ensures.1 in
    rw (p.1, p.2)
    (from_install c.args.catalog.now c.args.line (view c.args.value.now) c.in-Body.procedure _
    (installs c.args.catalog.now c.args.line (view c.args.value.now) c.in_ok-said.said c.in-Body.procedure c.in_ok-said.ensures.ok c.in-Body.is) c.in_err-what-in-Body.ensures.refused)

pub returns-in_err-what-in-Body-clause-stand : goal.returns-in_err-what-in-Body-clause-stand
returns-in_err-what-in-Body-clause-stand c = others_stand c.args.catalog.now c.install.new.catalog c.install.ensures.same c.install.ensures.goes_on

pub returns-clause-added : goal.returns-clause-added
returns-clause-added c =
    let old = c.args.catalog.now in
    elim c.match-said.branch [
      | in-Whole w ↦
          let asked = rw w.in-Whole.is at w.what-is in
          stays_whole old c.match-said.catalog c.args.line (view c.args.value.now) c.in_ok-said.said c.match-said.what c.in_ok-said.ensures.ok (w.in-Whole.is ∙ ap Whole (sym asked)) w.catalog-is
      | in-Body+in_ok-what-in-Body w ↦
          adds_same old c.match-said.catalog w.install.new.catalog w.in_ok-what-in-Body.what c.match-said.what w.catalog-is w.what-is w.in_ok-what-in-Body.ensures.added
    ]

pub returns-clause-goes_on : goal.returns-clause-goes_on
returns-clause-goes_on c = elim c.match-said.branch [
  | in-Whole w ↦ same_goes_on c.args.catalog.now c.match-said.catalog c.requires.spares w.catalog-is
  | in-Body+in_ok-what-in-Body w ↦ subst (λ (k : Catalog). GoesOnWith c.args.catalog.now k.spares) (sym w.catalog-is) w.install.ensures.goes_on
]

-- it changed in the bodies to be installed alone
aside : (c : goal.Joined-said) → c.match-said.catalog ≡ with_spares c.args.catalog.now c.match-said.catalog.spares
aside c = elim c.match-said.branch [
  | in-Whole w ↦ w.catalog-is ∙ ap (λ (k : Catalog). with_spares c.args.catalog.now k.spares) (sym w.catalog-is)
  | in-Body+in_ok-what-in-Body w ↦ w.catalog-is ∙ w.install.ensures.same ∙ ap (λ (k : Catalog). with_spares c.args.catalog.now k.spares) (sym w.catalog-is)
]

pub returns-clause-stays_read : goal.returns-clause-stays_read
returns-clause-stays_read c = was_read_still c.args.catalog.now c.match-said.catalog c.requires.was_read (aside c)

pub returns-clause-stand : goal.returns-clause-stand
returns-clause-stand c = others_stand c.args.catalog.now c.match-said.catalog (aside c) (returns-clause-goes_on c)

-- the same of a catalogue and of what is asked for
fits_same : (old new : Catalog) (client : ℕ) (what asked : Asked) → new ≡ old → asked ≡ what → fits_entry old (asked_entry client 0 what) ≡ true → fits_entry new (asked_entry client 0 asked) ≡ true
fits_same old new client what asked same is h = subst (λ (k : Catalog). fits_entry k (asked_entry client 0 asked) ≡ true) (sym same) (subst (λ (a : Asked). fits_entry old (asked_entry client 0 a) ≡ true) (sym is) h)

pub returns-clause-fits : goal.returns-clause-fits
returns-clause-fits c =
    let old = c.args.catalog.now in
    let client = c.in_ok-said.said.client in
    let fits = said_fits old c.args.line (view c.args.value.now) c.in_ok-said.said c.in_ok-said.ensures.ok in
    elim c.match-said.branch [
      | in-Whole w ↦ fits_same old c.match-said.catalog client w.in-Whole.asked c.match-said.what w.catalog-is (rw w.in-Whole.is at w.what-is) (subst (FittingSaid old client) w.in-Whole.is fits.1)
      | in-Body+in_ok-what-in-Body w ↦
          fits_same w.install.new.catalog c.match-said.catalog client w.in_ok-what-in-Body.what c.match-said.what w.catalog-is w.what-is (w.in_ok-what-in-Body.ensures.fits client fits.0)
    ]
