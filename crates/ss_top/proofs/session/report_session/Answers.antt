use Rattle.std.proofs.Common.{◌≡◌, ◌∙◌, arith, inl, inr, refl, List, cond, Some, None, is_some, unwrap_or, sym, ap, subst}
use Rattle.ss_model.specs.declared.catalog.Catalog.{Catalog}
use Rattle.ss_model.specs.declared.entry.Answer.{Answer}
use Rattle.ss_fronts.specs.Fronts.{mode_of}
use Rattle.ss_headline.specs.Disks.{disk_of}
use Rattle.ss_refusals.specs.declared.status.Status.{Status}
use Rattle.ss_refusals.specs.declared.status.Status.TheVariants.{Limit, NoMemory}
use Rattle.ss_top.specs.Runs.{session_status, end_for, settled_status, IsReportedAs, IsWrittenReport, Reports, TellsDiskFault}
use Rattle.ss_top.proofs.Running.{disk_told, reported, unreported, small_at}
use Rattle.ss_top.specs.Told.{some_say_full}
use Rattle.ss_top.proofs.Storing.{session_own}
use Rattle.ss_top.proofs.session.report_session.Goals as goal

pub closed_report-requires-clause-left : goal.closed_report-requires-clause-left
closed_report-requires-clause-left g c = c.requires.left

pub returns-in-Ok-clause-finished : goal.returns-in-Ok-clause-finished
returns-in-Ok-clause-finished g c = λ recovery every limit clients catalog db old log few accepted in_step opened ends.
    let finished = c.args.finished in
    let status = c.session_status-status.result in
    let halted_is : is_some finished.log.halted ≡ c.is_some.result = ap is_some (sym c.halted-halted.ensures) ∙ sym c.is_some.ensures in
    let small = small_at (g.D.Disk.kind.faults log.disk) (g.D.Disk.kind.faults finished.log.disk) finished.log.halted ends.ends.fault c.unwrap_or.result ends.ends.holds.halt (c.unwrap_or.ensures ∙ ap (λ o. unwrap_or o 0) c.halted-halted.ensures) c.unwrap_or.type_inv in
    let told = subst (λ (answers : List (List Answer)). status ≡ session_status c.is_some.result answers finished.closed.settling c.is_ok.result) c.as_slice.ensures c.session_status-status.ensures in
    let end = end_for status c.args.printing finished.closed.database finished.receipted c.unwrap_or.result in
    let written = subst (λ (k : Catalog). IsWrittenReport k c.args.requests.now finished.closed.answers c.args.first finished.closed.list end c.in-Ok.text) ends.ends.run.catalog_is
    (c.in-Ok.ensures.report, c.in-Ok.ensures.readable) in
    let report = reported g.D.Disk.kind recovery every limit c.args.printing catalog db c.args.first clients c.args.requests.now old log finished few accepted in_step opened ends small
    c.whole_runs.ensures c.stopped_runs.ensures c.full_lists_have_all.ensures c.is_some.result halted_is c.is_ok.result (λ is. sym c.is_ok.ensures.value ∙ is) status told c.unwrap_or.result c.in-Ok.text written in
    subst (λ (disk : g.row.D.Denot). Reports (mode_of recovery) every limit c.args.printing catalog c.args.requests.now status (Some c.in-Ok.text) (disk_of g.D.Disk.kind old disk)) (sym c.into_disk-disk.ensures) report

pub returns-in-Ok-clause-own : goal.returns-in-Ok-clause-own
returns-in-Ok-clause-own g c = session_own c.is_some.result c.as_slice.result.now c.args.finished.closed.settling c.is_ok.result c.session_status-status.result c.session_status-status.ensures

pub returns-in-Err-clause-finished : goal.returns-in-Err-clause-finished
returns-in-Err-clause-finished g c = λ recovery every limit clients catalog db old log few accepted in_step opened ends.
    let finished = c.args.finished in
    let small = small_at (g.D.Disk.kind.faults log.disk) (g.D.Disk.kind.faults finished.log.disk) finished.log.halted ends.ends.fault c.unwrap_or.result ends.ends.holds.halt (c.unwrap_or.ensures ∙ ap (λ o. unwrap_or o 0) c.halted-halted.ensures) c.unwrap_or.type_inv in
    let report = unreported g.D.Disk.kind recovery every limit c.args.printing catalog db c.args.first clients c.args.requests.now old log finished few accepted in_step opened ends small
    c.whole_runs.ensures c.stopped_runs.ensures c.full_lists_have_all.ensures in
    subst (λ (disk : g.row.D.Denot). Reports (mode_of recovery) every limit c.args.printing catalog c.args.requests.now NoMemory None (disk_of g.D.Disk.kind old disk)) (sym c.into_disk-disk.ensures) report

pub returns-in-Ok-clause-told : goal.returns-in-Ok-clause-told
returns-in-Ok-clause-told g c = λ recovery every limit clients starts catalog db log ends.
    let finished = c.args.finished in
    let failed = c.is_some.result in
    let halted_is : is_some finished.log.halted ≡ failed = ap is_some (sym c.halted-halted.ensures) ∙ sym c.is_some.ensures in
    let rest = cond (some_say_full c.as_slice.result.now) Limit (settled_status finished.closed.settling c.is_ok.result) in
    let before = g.D.Disk.kind.faults log.disk in
    let told = disk_told before (g.D.Disk.kind.faults finished.log.disk) finished.log.halted ends.ends.fault ends.ends.holds.halt failed halted_is rest in
    subst (λ (disk : g.row.D.Denot). TellsDiskFault c.session_status-status.result before (g.D.Disk.kind.faults disk)) (sym c.into_disk-disk.ensures)
    (subst (λ (status : Status). TellsDiskFault status before (g.D.Disk.kind.faults finished.log.disk)) (sym c.session_status-status.ensures) told)

pub returns-in-Err-clause-told : goal.returns-in-Err-clause-told
returns-in-Err-clause-told g c = λ recovery every limit clients starts catalog db log ends. inr (inl refl)

pub returns-in-Ok-clause-as_said : goal.returns-in-Ok-clause-as_said
returns-in-Ok-clause-as_said g c =
    let finished = c.args.finished in
    let status = c.session_status-status.result in
    let halted_is : is_some finished.log.halted ≡ c.is_some.result = ap is_some (sym c.halted-halted.ensures) ∙ sym c.is_some.ensures in
    let told = subst (λ (answers : List (List Answer)). status ≡ session_status c.is_some.result answers finished.closed.settling c.is_ok.result) c.as_slice.ensures c.session_status-status.ensures in
    let said : IsReportedAs c.args.printing c.args.requests.now c.args.first finished status c.in-Ok.text = record {
      flushed = c.is_ok.result;
      all = λ is. sym c.is_ok.ensures.value ∙ is;
      faults = c.unwrap_or.result;
      small = λ fault is.
          let same : c.unwrap_or.result ≡ fault = c.unwrap_or.ensures ∙ ap (λ o. unwrap_or o 0) (c.halted-halted.ensures ∙ is) in
          let fits = c.unwrap_or.type_inv in
          omega (arith, same, fits);
      is = told ∙ ap (λ failed. session_status failed finished.closed.answers finished.closed.settling c.is_ok.result) (sym halted_is);
      written = (c.in-Ok.ensures.report, c.in-Ok.ensures.readable);
    } in
    said
