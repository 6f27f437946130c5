use Rattle.std.proofs.Common.{◌≤◌, inl, None, refl, sym, subst}
use Rattle.ss_headline.specs.Disks.{disk_of}
use Rattle.ss_refusals.specs.Sinks.{sink_of}
use Rattle.ss_top.specs.Serving.{RecoversTo, TellsStoreFaults}
use Rattle.ss_top.proofs.Growing.{GrowthLaws}
use Rattle.ss_top.proofs.LastTurns.{served_later, served_once, served_own, served_told}
use Rattle.ss_top.specs.declared.session.Printing.TheVariants.{InFull}
use Rattle.ss_top.proofs.Storing.{recovery_refused, recovered_opened, store_recovered, was_stored, refusal_tells}
use Rattle.ss_top.proofs.store.recover_store.Goals as goal

pub serve_new-turn-requires-clause-goes_on : goal.serve_new-turn-requires-clause-goes_on
serve_new-turn-requires-clause-goes_on g c κs within = (c.args.mode, c.in-Ok.ensures.recovered.goes_on, inl refl)

pub returns-in-Ok-clause-came : goal.returns-in-Ok-clause-came
returns-in-Ok-clause-came g c =
    let r = c.in-Ok.ensures.recovered in
    let w = sink_of g.K.Sink.kind c.args.sink.now c.write_turn.new.sink in
    let stored = was_stored g.D.Disk.kind c.args.mode c.args.partitions c.args.disk c.in-Ok.recovered r (λ told empty. (c.in-Ok.ensures.nothing told empty refl).1) in
    let bodies = c.a_nested_body_has_one_answer.ensures in
    let laws : GrowthLaws = record { aside = c.spares_aside.ensures; stand = bodies.stands; body = bodies.body; one = c.stands_for_one.ensures } in
    let opened = recovered_opened g.D.Disk.kind c.args.mode _ c.args.partitions c.args.disk c.in-Ok.recovered laws r c.in-Ok.ensures.later in
    let over = c.serve_new-turn.ensures.over refl in
    let came = served_once g.D.Disk.kind c.args.mode None c.args.limit InFull c.new-requests.result c.in-Ok.recovered c.serve_new-turn.result (c.serve_new-turn.ensures.new c.args.mode c.in-Ok.ensures.recovered.goes_on) over c.args.disk opened c.in-Ok.ensures.told w c.write_turn.result.0 c.write_turn.ensures.told in
    let own = served_own c.serve_new-turn.result c.serve_new-turn.ensures.served over w c.write_turn.result.0 c.write_turn.ensures.told in
    subst (λ (d : g.row.D.Denot). RecoversTo c.args.mode c.args.limit c.write_turn.result.0 w (disk_of {D = g.row.D.Denot} g.D.Disk.kind c.args.disk d)) (sym c.write_turn.ensures.disk)
    (store_recovered c.args.mode c.args.limit c.in-Ok.recovered.catalog _ w r.own.0 stored c.write_turn.result.0 own c.new-requests.result c.new-requests.ensures came)

pub returns-in-Ok-clause-told : goal.returns-in-Ok-clause-told
returns-in-Ok-clause-told g c =
    let w = sink_of g.K.Sink.kind c.args.sink.now c.write_turn.new.sink in
    let bodies = c.a_nested_body_has_one_answer.ensures in
    let laws : GrowthLaws = record { aside = c.spares_aside.ensures; stand = bodies.stands; body = bodies.body; one = c.stands_for_one.ensures } in
    let opened = recovered_opened g.D.Disk.kind c.args.mode _ c.args.partitions c.args.disk c.in-Ok.recovered laws c.in-Ok.ensures.recovered c.in-Ok.ensures.later in
    let over = c.serve_new-turn.ensures.over refl in
    let told = served_told g.D.Disk.kind c.args.mode None c.args.limit InFull c.new-requests.result c.in-Ok.recovered c.serve_new-turn.result (c.serve_new-turn.ensures.new c.args.mode c.in-Ok.ensures.recovered.goes_on) over c.args.disk opened c.in-Ok.ensures.told w c.write_turn.result.0 c.write_turn.ensures.told in
    subst (λ (d : g.row.D.Denot). TellsStoreFaults c.write_turn.result.0 w (disk_of {D = g.row.D.Denot} g.D.Disk.kind c.args.disk d)) (sym c.write_turn.ensures.disk) told

pub returns-in-Ok-clause-counts : goal.returns-in-Ok-clause-counts
returns-in-Ok-clause-counts g c =
    let w = sink_of g.K.Sink.kind c.args.sink.now c.write_turn.new.sink in
    let bodies = c.a_nested_body_has_one_answer.ensures in
    let laws : GrowthLaws = record { aside = c.spares_aside.ensures; stand = bodies.stands; body = bodies.body; one = c.stands_for_one.ensures } in
    let opened = recovered_opened g.D.Disk.kind c.args.mode _ c.args.partitions c.args.disk c.in-Ok.recovered laws c.in-Ok.ensures.recovered c.in-Ok.ensures.later in
    let over = c.serve_new-turn.ensures.over refl in
    let later = served_later g.D.Disk.kind c.args.mode None c.args.limit InFull c.new-requests.result c.in-Ok.recovered c.serve_new-turn.result (c.serve_new-turn.ensures.new c.args.mode c.in-Ok.ensures.recovered.goes_on) over c.args.disk opened c.in-Ok.ensures.told w c.write_turn.result.0 c.write_turn.ensures.told in
    (c.write_turn.ensures.counts, subst (λ (d : g.row.D.Denot). g.D.Disk.kind.faults c.args.disk ≤ g.D.Disk.kind.faults d) (sym c.write_turn.ensures.disk) later)

pub returns-in-Err-clause-came : goal.returns-in-Err-clause-came
returns-in-Err-clause-came g c =
    recovery_refused g.D.Disk.kind c.args.mode None c.args.limit InFull _ c.args.disk c.in-Err.disk
    c.in-Err.error c.in-Err.ensures.refused c.refuse_store.result c.refuse_store.ensures.told

pub returns-in-Err-clause-told : goal.returns-in-Err-clause-told
returns-in-Err-clause-told g c = refusal_tells _ _ c.refuse_store.result c.in-Err.error c.refuse_store.ensures.told c.in-Err.ensures.told
