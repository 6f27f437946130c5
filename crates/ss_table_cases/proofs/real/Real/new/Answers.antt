use Rattle.ss_table_cases.proofs.Running.{started}
use Rattle.ss_table_cases.proofs.real.Real.new.Goals as goal

pub invariant_of-result : goal.invariant_of-result
invariant_of-result c =
    started c.args.key c.in_ok-tables.tables c.new.result c.new-2.result.items c.in_ok-tables.ensures.keyed c.in_ok-tables.ensures.committed c.new.ensures c.new-2.ensures
