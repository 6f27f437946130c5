use Rattle.ss_receipts.proofs.Recordable.{recordable}
use Rattle.ss_receipts.proofs.laws.replayed_are_recordable.Goals as goal

pub returns : goal.returns
returns c = recordable
