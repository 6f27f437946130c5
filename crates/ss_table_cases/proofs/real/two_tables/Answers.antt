use Rattle.ss_table_cases.proofs.Running.{two_keyed, two_committed}
use Rattle.ss_table_cases.proofs.real.two_tables.Goals as goal

pub returns-clause-keyed : goal.returns-clause-keyed
returns-clause-keyed c =
    two_keyed c.args.key.now c.in_ok-table_of.field-0 c.in_ok-table_of-2.field-0 c.new-tables.result c.push.new.self c.push-2.new.self c.new-tables.ensures c.in_ok-push.ensures.ok c.in_ok-push-2.ensures.ok
    c.in_ok-table_of.ensures.keyed c.in_ok-table_of-2.ensures.keyed

pub returns-clause-committed : goal.returns-clause-committed
returns-clause-committed c =
    two_committed c.in_ok-table_of.field-0 c.in_ok-table_of-2.field-0 c.new-tables.result c.push.new.self c.push-2.new.self c.new-tables.ensures c.in_ok-push.ensures.ok c.in_ok-push-2.ensures.ok
    c.in_ok-table_of.ensures.committed c.in_ok-table_of-2.ensures.committed
