use Rattle.std.proofs.Common.{sym}
use Rattle.ss_model_computed.proofs.Numbers.{next_past}
use Rattle.ss_model_computed.proofs.entries.pushes.next_number.Goals as goal

pub returns-in-None : goal.returns-in-None
returns-in-None c = sym (next_past c.args.database.now.next_numbers c.args.stream c.args.source.now (sym (rw c.from.ensures at c.in-None.ensures.value)))
