use Rattle.std.proofs.Common.{Option, sym, subst}
use Rattle.std.specs.Prelude.{IfSome}
use Rattle.ss_model.specs.declared.catalog.Catalog.{Catalog}
use Rattle.ss_snapshot.specs.Own.{IsReadFromItsText}
use Rattle.ss_snapshot.proofs.OneAnswer.{of_one_text}
use Rattle.ss_recover.specs.Loading.{AreSpares, HasGivenBodies, HasMore}
use Rattle.ss_recover.proofs.GivenBodies.{has_all_given, ok_both}
use Rattle.ss_recover.proofs.filling.fill_given.Goals as goal

pub returns-clause-bodies : goal.returns-clause-bodies
returns-clause-bodies c =
    let old = c.args.catalog.now in
    let new = c.fill_spares.new.catalog in
    let given = c.in-Some.given in
    let own = subst (λ (o : Option Catalog). IfSome o IsReadFromItsText) c.in-Some.is c.requires.given in
    ok_both (HasMore old new) (AreSpares new c.as_slice-3.result.now) (HasGivenBodies new c.args.given.now) c.fill_spares.result
    (λ more are. subst (HasGivenBodies new) (sym c.in-Some.is) (λ text_is.
    has_all_given new given own text_is (of_one_text c.a_nested_value_has_one_answer.ensures.catalog given new own more.grows.own text_is) (subst (AreSpares new) c.as_slice-3.ensures are)))
    c.fill_spares.ensures.more c.fill_spares.ensures.named
