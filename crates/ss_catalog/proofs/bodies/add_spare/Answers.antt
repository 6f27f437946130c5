use Rattle.std.proofs.Common.{◌≡◌, true, List, sym, subst}
use Rattle.ss_lemmas.proofs.Results.{on_so}
use Rattle.ss_model.specs.declared.catalog.Body.{Body}
use Rattle.ss_model.specs.Database.{has_body}
use Rattle.ss_model.specs.SparesAside.{with_spares, GoesOnWith}
use Rattle.ss_catalog.specs.Bodies.{with_spare}
use Rattle.ss_catalog.proofs.WithSpare.{goes_on_with, has_added}
use Rattle.ss_catalog.proofs.bodies.add_spare.Goals as goal

pub returns-clause-goes_on : goal.returns-clause-goes_on
returns-clause-goes_on c =
    let catalog = c.args.catalog.now in
    let more = with_spare catalog.spares c.args.procedure c.args.body in
    let new = c.push_spare.new.spares in
    on_so c.push_spare.result (new ≡ more) (GoesOnWith catalog new)
    (λ is. subst (GoesOnWith catalog) (sym is) (goes_on_with catalog c.requires.spares c.args.procedure c.args.body c.requires.may_have)) c.push_spare.ensures.ok

pub returns-clause-has : goal.returns-clause-has
returns-clause-has c =
    let catalog = c.args.catalog.now in
    let q = c.args.procedure in
    let b = c.args.body in
    let more = with_spare catalog.spares q b in
    let new = c.push_spare.new.spares in
    on_so c.push_spare.result (new ≡ more) (has_body (with_spares catalog new) q b.text ≡ true)
    (λ is. subst (λ (l : List (List Body)). has_body (with_spares catalog l) q b.text ≡ true) (sym is) (has_added catalog c.requires.spares q b c.requires.may_have)) c.push_spare.ensures.ok
