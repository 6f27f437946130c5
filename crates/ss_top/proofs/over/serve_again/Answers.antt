use Rattle.std.proofs.Common.{rules, ◌∙◌, List, ℕ, refl, sym, subst}
use Rattle.ss_model.specs.declared.entry.Mode.TheVariants as modes
use Rattle.ss_model.specs.Recovery.{Strong}
use Rattle.ss_engine.specs.Clients.{StartWithin}
use Rattle.ss_model.specs.declared.catalog.Catalog.{Catalog}
use Rattle.ss_recover.specs.Recovering.{IsOwnCatalog, recovered_database}
use Rattle.ss_top.specs.declared.over.Turn.TheVariants.{Short}
use Rattle.ss_top.specs.Turns.{LeavesToGoOn, RanFrom, ServesAgain}
use Rattle.ss_top.proofs.AgainTurns.{served_again, short_again, starts_within, told_from}
use Rattle.ss_top.proofs.over.serve_again.Goals as goal

pub returns-then-not-may_go_on_at-clause-again : goal.returns-then-not-may_go_on_at-clause-again
returns-then-not-may_go_on_at-clause-again g c = λ mid.
    subst (λ (d : g.row.D.Denot). ServesAgain {D = g.row.D.Denot} g.D.Disk.kind modes.Strong c.args.every c.args.limit c.args.printing c.args.recovered.catalog c.args.requests.now c.args.last c.args.begun.past mid c.args.recovered (Short d)) (sym c.into_disk.ensures)
    (short_again g.D.Disk.kind c.args.every c.args.limit c.args.printing c.args.requests.now c.args.last c.args.begun.past c.args.recovered c.requires.own c.incarnations_go_on.ensures.alone c.runs_over_restarts.ensures mid)

pub returns-in_default-clause-again : goal.returns-in_default-clause-again
returns-in_default-clause-again g c = λ mid.
    subst (λ (d : g.row.D.Denot). ServesAgain {D = g.row.D.Denot} g.D.Disk.kind modes.Strong c.args.every c.args.limit c.args.printing c.args.recovered.catalog c.args.requests.now c.args.last c.args.begun.past mid c.args.recovered (Short d)) (sym c.into_disk-in_default.ensures)
    (short_again g.D.Disk.kind c.args.every c.args.limit c.args.printing c.args.requests.now c.args.last c.args.begun.past c.args.recovered c.requires.own c.incarnations_go_on.ensures.alone c.runs_over_restarts.ensures mid)

pub run_recovered-requires : goal.run_recovered-requires
run_recovered-requires g c κs within =
    let starts : StartWithin c.as_slice.result.now c.args.requests.now =
    subst (λ (s : List ℕ). StartWithin s c.args.requests.now) (sym (c.as_slice.ensures ∙ c.in-Ok.ensures)) (starts_within c.args.recovered.first c.args.requests.now c.args.begun.past c.requires.on) in
    (search (rules, within), (search (rules, within), (search (rules, within), (search (rules, c.type_bounds.send-D), (search (rules, c.type_bounds.sync-G), (search (rules, c.type_bounds.sync-R), (c.requires.own.0, (record { mode = modes.Strong; goes_on = c.requires.goes_on; had_again = refl }, (c.requires.fit, (starts, (c.requires.partitions, c.requires.every)))))))))))

pub close_again-requires-clause-told : goal.close_again-requires-clause-told
close_again-requires-clause-told g c =
    told_from g.D.Disk.kind c.args.every c.saturating_sub-room.result c.args.recovered.catalog (recovered_database c.args.recovered) c.args.recovered.first c.args.requests.now c.args.begun.past c.args.recovered.log c.in-Ok-run_recovered.finished
    (subst (λ (s : List ℕ). RanFrom {D = g.row.D.Denot} g.D.Disk.kind Strong c.args.every c.saturating_sub-room.result c.args.recovered.catalog (recovered_database c.args.recovered) c.args.recovered.first c.args.requests.now s c.args.recovered.log c.in-Ok-run_recovered.finished)
    (c.as_slice.ensures ∙ c.in-Ok.ensures) c.in-Ok-run_recovered.ensures.ran)

pub returns-in-Ok-run_recovered-clause-again : goal.returns-in-Ok-run_recovered-clause-again
returns-in-Ok-run_recovered-clause-again g c =
    served_again g.D.Disk.kind c.args.every c.args.limit c.args.printing c.args.requests.now c.args.last c.args.begun.past c.args.recovered c.requires.own c.saturating_sub-room.result c.saturating_sub-room.ensures
    c.as_slice.result.now (c.as_slice.ensures ∙ c.in-Ok.ensures) c.in-Ok-run_recovered.finished c.close_again.result c.in-Ok-run_recovered.ensures.ran (c.close_again.ensures.closes c.args.every c.args.limit c.args.recovered.catalog)

pub returns-in-Err-clause-again : goal.returns-in-Err-clause-again
returns-in-Err-clause-again g c = λ mid.
    subst (λ (d : g.row.D.Denot). ServesAgain {D = g.row.D.Denot} g.D.Disk.kind modes.Strong c.args.every c.args.limit c.args.printing c.args.recovered.catalog c.args.requests.now c.args.last c.args.begun.past mid c.args.recovered (Short d)) (sym c.in-Err.ensures.unstarted)
    (short_again g.D.Disk.kind c.args.every c.args.limit c.args.printing c.args.requests.now c.args.last c.args.begun.past c.args.recovered c.requires.own c.incarnations_go_on.ensures.alone c.runs_over_restarts.ensures mid)

pub close_again-requires-clause-own : goal.close_again-requires-clause-own
close_again-requires-clause-own g c = subst IsOwnCatalog (sym c.in-Ok-run_recovered.ensures.ran.1.ends.run.catalog_is) c.requires.own

pub returns-in-Ok-run_recovered-clause-on : goal.returns-in-Ok-run_recovered-clause-on
returns-in-Ok-run_recovered-clause-on g c =
    subst (λ (k : Catalog). LeavesToGoOn {D = g.row.D.Denot} k c.args.requests.now c.close_again.result) c.in-Ok-run_recovered.ensures.ran.1.ends.run.catalog_is c.close_again.ensures.on
