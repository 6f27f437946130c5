use Rattle.ss_model_laws.proofs.Orders.{replays_orders}
use Rattle.ss_model_laws.proofs.lists.replays_have_orders.Goals as goal

pub returns : goal.returns
returns c = λ catalog db list wired whole r. replays_orders catalog wired db list whole r
