use Rattle.std.proofs.Common.{List, ◌≡◌, ◌++◌, ◌∷◌, [], rules, sym, subst}
use Rattle.ss_model.specs.declared.catalog.Catalog.{Catalog}
use Rattle.ss_model.specs.declared.entry.Request.{Request}
use Rattle.ss_model.specs.Accepted.{Accepted}
use Rattle.ss_run_bench.proofs.Fitting.{EachFits, EachFits-push, EachFits-still, each_fits}
use Rattle.ss_run_bench.proofs.input.requests_at.Goals as goal

pub loop-line-init : goal.loop-line-init
loop-line-init c = record {
  accepted = c.requires.accepted;
  was_read = c.requires.was_read;
  spares = c.requires.accepted.spares;
  fit = subst (λ (rs : List Request). EachFits c.args.catalog.now rs) (sym c.new-requests.ensures) tt;
}

pub loop-line-preserved : goal.loop-line-preserved
loop-line-preserved c =
    let old = c.loop-line.catalog in
    let new = c.request_at.new.catalog in
    let more = c.in_ok-request.ensures in
    let accepted = (c.spares_aside.ensures old c.loop-line.invariant.accepted new.spares more.goes_on).accepted in
    let still = EachFits-still old new.spares more.goes_on c.loop-line.requests c.loop-line.invariant.fit in
    let pushed : c.push.new.self ≡ c.loop-line.requests ++ c.in_ok-request.request ∷ [] = search rules in
    record {
      accepted = subst Accepted (sym more.same) accepted;
      was_read = more.stays_read;
      spares = more.stand;
      fit = subst (λ (rs : List Request). EachFits new rs) (sym pushed)
          (EachFits-push new c.loop-line.requests c.in_ok-request.request (subst (λ (catalog : Catalog). EachFits catalog c.loop-line.requests) (sym more.same) still) more.fits);
    }

pub returns : goal.returns
returns c = record { accepted = c.loop-line.invariant.accepted; fit = each_fits c.loop-line.catalog c.loop-line.requests c.loop-line.invariant.fit }
