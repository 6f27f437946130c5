use Rattle.std.proofs.Common.{◌≡◌, ◌⊎◌, ◌∙◌, inl, inr, true, false, Some, refl, sym, ap, subst, arith}
use Rattle.std.specs.Prelude.{Option, IfSome}
use Rattle.ss_model.specs.declared.catalog.Catalog.{Catalog}
use Rattle.ss_model.specs.declared.entry.Mode.{Mode}
use Rattle.ss_model.specs.declared.entry.Mode.TheVariants as modes
use Rattle.ss_snapshot.specs.Bodies.{GrowsTo}
use Rattle.ss_snapshot.proofs.BodiesRead.{grown_on}
use Rattle.ss_recover.specs.Recovering.{GoesOn, IsOwnCatalog, IsRecovered, RefusesAsSaid, recovered_database}
use Rattle.ss_top.specs.declared.over.Begun.{Begun}
use Rattle.ss_top.specs.Turns.{HasCome, MayGoOnFrom, ServesAgain, catalog_for, is_fault}
use Rattle.ss_top.proofs.Growing.{GrowthLaws, fits_more}
use Rattle.ss_top.proofs.OpenTurns.{again_comes, comes_failed, comes_short, fault_at_last, fault_is, given_own, leaves_on, new_comes, refused_none, refused_nothing, strong_before_last, strong_behind, uncalled_none, uncalled_nothing, unopened_comes}
use Rattle.ss_top.proofs.Storing.{recovered_opened, texts_told}
use Rattle.ss_top.proofs.over.incarnate.Goals as goal
use Rattle.ss_top.proofs.over.incarnate.Goals.{else-not-last-via-then-not-last+else-is_fault, else-not-last-via-else-not-last}

pub recover-requires-clause-own : goal.recover-requires-clause-own
recover-requires-clause-own g c = subst IsOwnCatalog (sym c.in-Ok.ensures) (given_own c.args.catalog.now c.args.requests.now c.args.begun c.requires.own c.requires.on)

pub returns-in_default-clause-comes : goal.returns-in_default-clause-comes
returns-in_default-clause-comes g c = λ again old may has.
    comes_short g.D.Disk.kind c.args.mode c.args.every c.args.limit c.args.printing c.args.catalog.now c.requires.own c.args.requests.now c.args.last c.opened_at_last.ensures.none c.incarnations_go_on.ensures.none c.runs_over_restarts.ensures
    c.args.disk c.args.disk (omega arith) c.args.begun c.requires.on (uncalled_nothing g.D.Disk.kind c.args.mode (catalog_for c.args.catalog.now c.args.begun) c.args.disk)
    (λ strong true' more grows. uncalled_none g.D.Disk.kind c.opened_at_last.ensures.untried c.args.disk more) again may old has

pub serve_new-requires-clause-goes_on : goal.serve_new-requires-clause-goes_on
serve_new-requires-clause-goes_on g c κs within = (c.args.mode, c.in-Ok-recover.ensures.recovered.goes_on, elim c.requires.alone [ inl once ↦ inl once.0 | inr strong ↦ inr strong ])

pub serve_new-requires-clause-fit : goal.serve_new-requires-clause-fit
serve_new-requires-clause-fit g c κs within =
    let grows : GrowsTo c.args.catalog.now c.in-Ok-recover.recovered.catalog =
    subst (λ (k : Catalog). GrowsTo k c.in-Ok-recover.recovered.catalog) (c.in-Ok.ensures ∙ ap (catalog_for c.args.catalog.now) c.in-None.is) (c.in-Ok-recover.ensures.recovered.given_one c.in-Ok.copy refl) in
    fits_more c.args.catalog.now c.in-Ok-recover.recovered.catalog c.args.requests.now grows c.requires.fit

pub returns-in-None-clause-comes : goal.returns-in-None-clause-comes
returns-in-None-clause-comes g c = λ again old may has.
    let r = c.in-Ok-recover.recovered in
    let grows : GrowsTo c.args.catalog.now r.catalog = subst (λ (k : Catalog). GrowsTo k r.catalog) (c.in-Ok.ensures ∙ ap (catalog_for c.args.catalog.now) c.in-None.is) (c.in-Ok-recover.ensures.recovered.given_one c.in-Ok.copy refl) in
    let laws : GrowthLaws = record { aside = c.spares_aside.ensures; stand = c.a_nested_body_has_one_answer.ensures.stands; body = c.a_nested_body_has_one_answer.ensures.body; one = c.stands_for_one.ensures } in
    new_comes g.D.Disk.kind c.args.mode c.args.every c.args.limit c.args.printing c.args.catalog.now c.requires.own c.args.requests.now c.args.last c.opened_at_last.ensures.none c.incarnations_go_on.ensures.none c.runs_over_restarts.ensures
    c.args.disk r c.serve_new.result c.serve_new.ensures.served grows c.opened_at_last.ensures.at_last
    (recovered_opened g.D.Disk.kind c.args.mode _ c.args.partitions c.args.disk r laws c.in-Ok-recover.ensures.recovered c.in-Ok-recover.ensures.later) c.in-Ok-recover.ensures.told (c.serve_new.ensures.new c.args.mode c.in-Ok-recover.ensures.recovered.goes_on) again may old
    (subst (λ (o : Option Begun). HasCome {D = g.row.D.Denot} g.D.Disk.kind c.args.limit c.args.catalog.now c.args.requests.now again old c.args.disk o) c.in-None.is has)

pub returns-in-None-clause-on : goal.returns-in-None-clause-on
returns-in-None-clause-on g c =
    let r = c.in-Ok-recover.recovered in
    let grows : GrowsTo c.args.catalog.now r.catalog = subst (λ (k : Catalog). GrowsTo k r.catalog) (c.in-Ok.ensures ∙ ap (catalog_for c.args.catalog.now) c.in-None.is) (c.in-Ok-recover.ensures.recovered.given_one c.in-Ok.copy refl) in
    leaves_on c.args.catalog.now r.catalog c.args.requests.now c.serve_new.result grows c.serve_new.ensures.on

pub returns-then-is_fault-clause-comes : goal.returns-then-is_fault-clause-comes
returns-then-is_fault-clause-comes g c = λ again old may has.
    let kind = g.D.Disk.kind in
    let given = catalog_for c.args.catalog.now c.args.begun in
    let refuses : RefusesAsSaid {D = g.row.D.Denot} kind c.args.mode (Some given) c.args.disk c.in-Err.disk c.in-Err.error =
    subst (λ (k : Catalog). RefusesAsSaid {D = g.row.D.Denot} kind c.args.mode (Some k) c.args.disk c.in-Err.disk c.in-Err.error) c.in-Ok.ensures c.in-Err.ensures.refused in
    let laws : GrowthLaws = record { aside = c.spares_aside.ensures; stand = c.a_nested_body_has_one_answer.ensures.stands; body = c.a_nested_body_has_one_answer.ensures.body; one = c.stands_for_one.ensures } in
    let strong = strong_before_last c.args.mode c.args.last c.args.begun c.if-not-last.true c.requires.alone in
    let fault = fault_is c.in-Err.error (sym c.is_fault.ensures ∙ c.if-is_fault.true) in
    let rose = (subst (RefusesAsSaid {D = g.row.D.Denot} kind c.args.mode (Some given) c.args.disk c.in-Err.disk) fault refuses).1 in
    comes_failed kind c.args.mode c.args.every c.args.limit c.args.printing c.args.catalog.now c.requires.own c.args.requests.now c.args.last c.opened_at_last.ensures.none c.incarnations_go_on.ensures.none c.runs_over_restarts.ensures
    c.args.disk c.in-Err.disk c.in-Err.ensures.later c.args.begun c.requires.on (refused_nothing kind c.args.mode given c.args.disk c.in-Err.disk c.in-Err.error refuses)
    (refused_none kind (g.met.D.Disk g.world.𝓛 g.world.𝓜 g.world.𝓡 ((λ s x. x), (λ x. x), (λ x. x), λ x. x)).honest_tells laws c.wholeness_stays.ensures c.what_is_spelled_is_read.ensures given
    (given_own c.args.catalog.now c.args.requests.now c.args.begun c.requires.own c.requires.on) c.args.mode c.args.disk c.in-Err.disk c.in-Err.error refuses) strong rose again old has

pub returns-else-not-last-clause-comes : goal.returns-else-not-last-clause-comes
returns-else-not-last-clause-comes g c = λ again old may has.
    let kind = g.D.Disk.kind in
    let given = catalog_for c.args.catalog.now c.args.begun in
    let refuses : RefusesAsSaid {D = g.row.D.Denot} kind c.args.mode (Some given) c.args.disk c.in-Err.disk c.in-Err.error =
    subst (λ (k : Catalog). RefusesAsSaid {D = g.row.D.Denot} kind c.args.mode (Some k) c.args.disk c.in-Err.disk c.in-Err.error) c.in-Ok.ensures c.in-Err.ensures.refused in
    let laws : GrowthLaws = record { aside = c.spares_aside.ensures; stand = c.a_nested_body_has_one_answer.ensures.stands; body = c.a_nested_body_has_one_answer.ensures.body; one = c.stands_for_one.ensures } in
    let unless : (c.args.last ≡ true) ⊎ (is_fault c.in-Err.error ≡ false) = elim c.else-not-last.branch [
      | else-not-last-via-then-not-last+else-is_fault w ↦ inr (sym w.is_fault.ensures ∙ w.if-is_fault.false)
      | else-not-last-via-else-not-last w ↦ inl w.if-not-last.false
    ] in
    unopened_comes kind c.args.mode c.args.every c.args.limit c.args.printing c.args.catalog.now c.requires.own c.args.requests.now c.args.last c.opened_at_last.ensures.none c.incarnations_go_on.ensures.none c.runs_over_restarts.ensures
    c.args.disk c.in-Err.disk c.in-Err.ensures.later c.in-Err.error c.in-Err.ensures.told (fault_at_last c.in-Err.error c.args.last unless) c.args.begun c.requires.on refuses
    (refused_none kind (g.met.D.Disk g.world.𝓛 g.world.𝓜 g.world.𝓡 ((λ s x. x), (λ x. x), (λ x. x), λ x. x)).honest_tells laws c.wholeness_stays.ensures c.what_is_spelled_is_read.ensures given
    (given_own c.args.catalog.now c.args.requests.now c.args.begun c.requires.own c.requires.on) c.args.mode c.args.disk c.in-Err.disk c.in-Err.error refuses) again may old has c.unopened.result c.unopened.ensures.left

pub serve_again-requires-clause-goes_on : goal.serve_again-requires-clause-goes_on
serve_again-requires-clause-goes_on g c κs within =
    subst (λ (m : Mode). GoesOn {D = g.row.D.Denot} g.D.Disk.kind m c.args.partitions c.in-Ok-recover.recovered (recovered_database c.in-Ok-recover.recovered))
    (strong_behind c.args.mode c.args.last c.args.begun c.in-Some.begun c.in-Some.is c.requires.alone) c.in-Ok-recover.ensures.recovered.goes_on

pub serve_again-requires-clause-fit : goal.serve_again-requires-clause-fit
serve_again-requires-clause-fit g c κs within =
    let r = c.in-Ok-recover.recovered in
    let b = c.in-Some.begun in
    let on : MayGoOnFrom c.args.catalog.now c.args.requests.now b = subst (λ (o : Option Begun). IfSome o (MayGoOnFrom c.args.catalog.now c.args.requests.now)) c.in-Some.is c.requires.on in
    let grows : GrowsTo b.catalog r.catalog = subst (λ (k : Catalog). GrowsTo k r.catalog) (c.in-Ok.ensures ∙ ap (catalog_for c.args.catalog.now) c.in-Some.is) (c.in-Ok-recover.ensures.recovered.given_one c.in-Ok.copy refl) in
    fits_more b.catalog r.catalog c.args.requests.now grows (fits_more c.args.catalog.now b.catalog c.args.requests.now on.grows c.requires.fit)

pub unopened-requires-clause-texts : goal.unopened-requires-clause-texts
unopened-requires-clause-texts g c =
    texts_told g.D.Disk.kind c.args.mode (Some c.in-Ok.copy) c.args.disk c.in-Err.disk c.in-Err.error c.in-Err.ensures.refused
    (subst IsOwnCatalog (sym c.in-Ok.ensures) (given_own c.args.catalog.now c.args.requests.now c.args.begun c.requires.own c.requires.on))

pub returns-in-Some-clause-comes : goal.returns-in-Some-clause-comes
returns-in-Some-clause-comes g c = λ again old may has.
    let kind = g.D.Disk.kind in
    let r = c.in-Ok-recover.recovered in
    let b = c.in-Some.begun in
    let strong = strong_behind c.args.mode c.args.last c.args.begun b c.in-Some.is c.requires.alone in
    let on : MayGoOnFrom c.args.catalog.now c.args.requests.now b = subst (λ (o : Option Begun). IfSome o (MayGoOnFrom c.args.catalog.now c.args.requests.now)) c.in-Some.is c.requires.on in
    let grows : GrowsTo b.catalog r.catalog = subst (λ (k : Catalog). GrowsTo k r.catalog) (c.in-Ok.ensures ∙ ap (catalog_for c.args.catalog.now) c.in-Some.is) (c.in-Ok-recover.ensures.recovered.given_one c.in-Ok.copy refl) in
    let laws : GrowthLaws = record { aside = c.spares_aside.ensures; stand = c.a_nested_body_has_one_answer.ensures.stands; body = c.a_nested_body_has_one_answer.ensures.body; one = c.stands_for_one.ensures } in
    let recovered = subst (λ (m : Mode). IsRecovered {D = g.row.D.Denot} kind m (Some c.in-Ok.copy) c.args.partitions c.args.disk r (recovered_database r)) strong c.in-Ok-recover.ensures.recovered in
    again_comes kind c.args.mode c.args.every c.args.limit c.args.printing c.args.catalog.now c.requires.own c.args.requests.now c.args.last c.opened_at_last.ensures.none c.incarnations_go_on.ensures.none c.runs_over_restarts.ensures
    c.args.disk r c.serve_again.result c.serve_again.ensures.served b on grows
    (recovered_opened kind modes.Strong _ c.args.partitions c.args.disk r laws recovered c.in-Ok-recover.ensures.later) c.in-Ok-recover.ensures.later
    (subst (λ (m : Mode). ServesAgain {D = g.row.D.Denot} kind m c.args.every c.args.limit c.args.printing r.catalog c.args.requests.now c.args.last b.past c.args.disk r c.serve_again.result) (sym strong)
    (c.serve_again.ensures.again c.args.disk)) again old
    (subst (λ (o : Option Begun). HasCome {D = g.row.D.Denot} kind c.args.limit c.args.catalog.now c.args.requests.now again old c.args.disk o) c.in-Some.is has)

pub returns-in-Some-clause-on : goal.returns-in-Some-clause-on
returns-in-Some-clause-on g c =
    let r = c.in-Ok-recover.recovered in
    let b = c.in-Some.begun in
    let on : MayGoOnFrom c.args.catalog.now c.args.requests.now b = subst (λ (o : Option Begun). IfSome o (MayGoOnFrom c.args.catalog.now c.args.requests.now)) c.in-Some.is c.requires.on in
    let grows : GrowsTo b.catalog r.catalog = subst (λ (k : Catalog). GrowsTo k r.catalog) (c.in-Ok.ensures ∙ ap (catalog_for c.args.catalog.now) c.in-Some.is) (c.in-Ok-recover.ensures.recovered.given_one c.in-Ok.copy refl) in
    leaves_on c.args.catalog.now r.catalog c.args.requests.now c.serve_again.result (grown_on c.args.catalog.now b.catalog r.catalog on.grows grows) c.serve_again.ensures.on
