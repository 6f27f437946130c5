use Rattle.std.proofs.Common.{List, sym, ap, subst}
use Rattle.ss_model.specs.declared.catalog.Body.{Body}
use Rattle.ss_model.specs.declared.catalog.Catalog.{Catalog}
use Rattle.ss_model.specs.SparesAside.{GoesOnWith}
use Rattle.ss_catalog.proofs.CallerLemmas.{goes_on_same}
use Rattle.ss_catalog_requests.proofs.request.ask_for.Goals as goal

pub returns-in_err-add_spare-clause-goes_on : goal.returns-in_err-add_spare-clause-goes_on
returns-in_err-add_spare-clause-goes_on c =
    let catalog = c.args.catalog.now in
    subst (λ (l : List (List Body)). GoesOnWith catalog l) (sym (ap (λ (k : Catalog). k.spares) c.in_err-add_spare.ensures.err)) (goes_on_same catalog c.requires.spares)
