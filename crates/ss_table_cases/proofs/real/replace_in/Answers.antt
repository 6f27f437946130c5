use Rattle.std.proofs.Common.{ap}
use Rattle.ss_table.specs.TableValue.{TableValue}
use Rattle.ss_table_cases.proofs.Running.{keyed_on, replaced_at}
use Rattle.ss_table_cases.proofs.real.replace_in.Goals as goal

pub returns-clause-made : goal.returns-clause-made
returns-clause-made c = replaced_at c.one_table_changed.ensures c.args.tables.now c.args.at c.from.result c.args.slot c.in-Some.table.now c.replace.new.self c.replace.result c.from.ensures c.in-Some.ensures.item c.replace.ensures.step

pub returns-clause-keyed : goal.returns-clause-keyed
returns-clause-keyed c = keyed_on c.args.key.now c.args.tables.now c.from.result c.in-Some.table.now c.replace.new.self c.requires.keyed c.in-Some.ensures.item (ap (λ (h : TableValue). h.key) c.replace.ensures.step.is)
