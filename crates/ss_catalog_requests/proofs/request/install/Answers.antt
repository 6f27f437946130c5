use Rattle.std.proofs.Common.{refl, sym, subst}
use Rattle.ss_catalog_requests.specs.Answers.{AddsAsked}
use Rattle.ss_catalog_requests.proofs.request.install.Goals as goal

pub returns-in-Ok-clause-added : goal.returns-in-Ok-clause-added
returns-in-Ok-clause-added c =
    let at = c.in_ok-body.ensures.ok in
    subst (AddsAsked c.args.catalog.now c.ask_for.new.catalog) (sym c.in-Ok.ensures.asks) (c.in_ok-body.body, ((at.0, at.2), refl), c.in-Ok.ensures.added)
