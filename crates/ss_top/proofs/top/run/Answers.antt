use Rattle.std.proofs.Common.{[], inr, refl, subst}
use Rattle.ss_model.specs.SparesAside.{with_spares}
use Rattle.ss_refusals.proofs.CallerLemmas.{OfRefusal, ends_refused, refusal_told}
use Rattle.ss_top.specs.declared.session.Printing.TheVariants.{InFull}
use Rattle.ss_top.proofs.Ending.{run_refused, run_came}
use Rattle.ss_top.proofs.Given.{given_bodies, given_came}
use Rattle.ss_top.proofs.top.run.Goals as goal

pub returns-in-Ok-clause-ends : goal.returns-in-Ok-clause-ends
returns-in-Ok-clause-ends g c =
    let given = c.in-Ok.field-0.catalog in
    let requests = c.in-Ok.field-0.requests in
    let read = c.in-Ok.ensures in
    let serves = c.run_on_store.ensures.came in
    run_came g.D.Disk.kind c.args.disk c.run_on_store.result.1 c.args.mode c.args.every c.args.limit c.args.restarts _ _ c.an_input_has_one_answer.ensures.start c.an_input_has_one_answer.ensures.either c.a_disk_has_one_fault.ensures.empty c.a_disk_has_one_fault.ensures.store c.a_disk_has_one_fault.ensures.one
    (with_spares given []) requests read.ok read.bare.0 (given_bodies given serves.stored requests serves.grows read.fit) read.end c.run_on_store.result.0
    (given_came g.D.Disk.kind c.args.mode c.args.every c.args.limit c.args.restarts InFull given serves.stored requests c.run_on_store.result.0 _ c.args.disk c.run_on_store.result.1 serves.grows serves.came)
    serves.cause

pub returns-in-Err-clause-ends : goal.returns-in-Err-clause-ends
returns-in-Err-clause-ends g c =
    run_refused g.D.Disk.kind c.args.disk c.args.disk c.args.mode c.args.every c.args.limit c.args.restarts _ _ c.an_input_has_one_answer.ensures.refusal c.an_input_has_one_answer.ensures.either refl c.in-Err.error c.in-Err.ensures.refused c.in-Err.ensures.leaves
    c.refuse.result c.refuse.ensures.refused

pub returns-in-Ok-clause-source : goal.returns-in-Ok-clause-source
returns-in-Ok-clause-source g c = inr c.in-Ok.ensures.told

pub returns-in-Err-clause-source : goal.returns-in-Err-clause-source
returns-in-Err-clause-source g c = refusal_told c.in-Err.error c.refuse.result _ _ c.refuse.ensures.read_fault c.in-Err.ensures.told

pub returns-in-Err-clause-told : goal.returns-in-Err-clause-told
returns-in-Err-clause-told g c = λ once. record { store = inr (inr refl); sink = λ done. absurd (subst OfRefusal done (ends_refused c.in-Err.error c.refuse.result _ c.refuse.ensures.refused)) }

pub returns-in-Err-clause-sink : goal.returns-in-Err-clause-sink
returns-in-Err-clause-sink g c = λ done. absurd (subst OfRefusal done (ends_refused c.in-Err.error c.refuse.result _ c.refuse.ensures.refused))
