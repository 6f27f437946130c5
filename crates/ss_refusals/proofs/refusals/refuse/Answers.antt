use Rattle.ss_refusals.proofs.RefusalStatuses.{read_fault_ends}
use Rattle.ss_refusals.proofs.refusals.refuse.Goals as goal

pub returns-in-ReadFault-clause-refused : goal.returns-in-ReadFault-clause-refused
returns-in-ReadFault-clause-refused g c = read_fault_ends c.args.error.now _ c.in-ReadFault.ensures c.write_line-in-ReadFault.ensures.written
