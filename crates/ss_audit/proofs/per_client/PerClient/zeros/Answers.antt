use Rattle.ss_audit.proofs.Numbers.{no_number}
use Rattle.ss_audit.proofs.per_client.PerClient.zeros.Goals as goal

pub returns : goal.returns
returns c = no_number 256
