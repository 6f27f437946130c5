use Rattle.std.proofs.Common.{◌≡◌, ◌∙◌, Err, None, refl, rules}
use Rattle.std.proofs.lemmas.Result.{err_from_is_err_and}
use Rattle.ss_cmdlog.specs.declared.log.LogError.TheVariants.{NoMemory}
use Rattle.ss_cmdlog.proofs.Refused.{not_both}
use Rattle.ss_cmdlog.proofs.Logs.{open_receipted}
use Rattle.ss_cmdlog.proofs.log.CmdLog.flush.Goals as goal

pub returns-in_err-add_entries-clause-adds : goal.returns-in_err-add_entries-clause-adds
returns-in_err-add_entries-clause-adds g c = λ s is.
    let p = err_from_is_err_and c.from_residual.result c.from_residual.ensures.1 in
    let adds = rw c.as_slice.ensures at (c.add_entries.ensures.adds s is) in
    record {
      done = λ ok. absurd (not_both c.from_residual.result p.0 p.1 ok);
      kept = λ refused. let short : c.add_entries.result ≡ Err NoMemory = cc (p.1, p.2, c.in_err-add_entries.was) in adds.kept short;
      moments = adds.moments;
      stays = adds.stays;
    }

pub returns-clause-receipt : goal.returns-clause-receipt
returns-clause-receipt g c = λ strong honest.
    let none : c.args.self.now.halted ≡ None = search rules in
    let open' = c.requires.open none in
    open_receipted g.D.Disk.kind c.add_entries.new.self _
    ((c.in_ok-add_entries.ensures.adds open'.0 open'.1).done refl) (c.in_ok-add_entries.ensures.same ∙ strong) (g.met.D.Disk.honest_tells honest) honest c.add_entries.new.self.count refl

pub returns-in_err-add_entries-clause-stays : goal.returns-in_err-add_entries-clause-stays
returns-in_err-add_entries-clause-stays g c = λ honest.
    let none : c.args.self.now.halted ≡ None = search rules in
    let open' = c.requires.open none in
    (c.add_entries.ensures.adds open'.0 open'.1).stays honest

pub returns-clause-stays : goal.returns-clause-stays
returns-clause-stays g c = λ honest.
    let none : c.args.self.now.halted ≡ None = search rules in
    let open' = c.requires.open none in
    (c.add_entries.ensures.adds open'.0 open'.1).stays honest

pub returns-clause-adds : goal.returns-clause-adds
returns-clause-adds g c = λ s is.
    let adds = rw c.as_slice.ensures at (c.in_ok-add_entries.ensures.adds s is) in
    record { done = λ ok. adds.done refl; kept = λ refused. cc; moments = adds.moments; stays = adds.stays }
