use Rattle.ss_table_cases.proofs.Running.{insert_leaves}
use Rattle.ss_table_cases.proofs.real.insert_in.Goals as goal

pub returns-clause-made : goal.returns-clause-made
returns-clause-made c = (insert_leaves c.one_table_changed.ensures c.args.key.now c.args.tables.now c.args.at c.from.result c.in-Some.table.now c.insert.new.self c.args.row c.insert.result c.from.ensures c.requires.keyed c.in-Some.ensures.item c.insert.ensures.step c.insert.ensures.err).0

pub returns-clause-refused : goal.returns-clause-refused
returns-clause-refused c = (insert_leaves c.one_table_changed.ensures c.args.key.now c.args.tables.now c.args.at c.from.result c.in-Some.table.now c.insert.new.self c.args.row c.insert.result c.from.ensures c.requires.keyed c.in-Some.ensures.item c.insert.ensures.step c.insert.ensures.err).1

pub returns-clause-keyed : goal.returns-clause-keyed
returns-clause-keyed c = (insert_leaves c.one_table_changed.ensures c.args.key.now c.args.tables.now c.args.at c.from.result c.in-Some.table.now c.insert.new.self c.args.row c.insert.result c.from.ensures c.requires.keyed c.in-Some.ensures.item c.insert.ensures.step c.insert.ensures.err).2
