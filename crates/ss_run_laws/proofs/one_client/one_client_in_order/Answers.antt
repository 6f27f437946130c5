use Rattle.ss_run_laws.proofs.InOrder.{one_client_in_order}
use Rattle.ss_run_laws.proofs.one_client.one_client_in_order.Goals as goal

pub returns : goal.returns
returns c = one_client_in_order
