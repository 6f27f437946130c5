use Rattle.std.proofs.Common.{◌≡◌, ◌<◌, ◌+◌, ℕ, length, List, Ok, subst, sym, arith}
use Rattle.ss_model.specs.declared.entry.Entry.{Entry}
use Rattle.ss_model.specs.declared.entry.Mode.{Mode}
use Rattle.ss_cmdlog.specs.Log.{HasRecords, AddsGroups}
use Rattle.ss_cmdlog.proofs.Passing.{passed}
use Rattle.ss_cmdlog.proofs.Split.{one_as_group, none_as_group}
use Rattle.ss_cmdlog.proofs.log.CmdLog.write_next.Goals as goal

pub returns-then-next-eq0-clause-adds : goal.returns-then-next-eq0-clause-adds
returns-then-next-eq0-clause-adds g c = λ s entries open' group body number.
    let none : c.args.next.now.records ≡ 0 = omega (arith, c.if-next-eq0.true) in
    let recorded : HasRecords s.mode 0 c.args.next.now.taken = subst (λ (n : ℕ). HasRecords s.mode n c.args.next.now.taken) none
    (subst (λ (m : Mode). HasRecords m c.args.next.now.records c.args.next.now.taken) open'.of_mode c.requires.recorded) in
    subst (λ (gs : List (List Entry)). AddsGroups g.D.Disk.kind c.args.self.now (record c.args.self.now { count = c.args.self.now.count + c.args.next.now.taken }) (Ok tt) s gs) (sym (none_as_group entries (omega (arith, none, number))))
    (passed g.D.Disk.kind g.met.D.Disk.honest_tells c.args.self.now c.args.next.now.taken s recorded open')

pub returns-clause-adds : goal.returns-clause-adds
returns-clause-adds g c = λ s entries open' group body number.
    let some : 0 < length entries = omega (arith, c.if-next-eq0.false, number) in
    subst (λ (gs : List (List Entry)). AddsGroups g.D.Disk.kind c.args.self.now c.write_group.new.self c.write_group.result s gs) (sym (one_as_group entries some))
    (c.write_group.ensures.adds s entries open' (group some) (rw c.as_slice.ensures.value body) number)
