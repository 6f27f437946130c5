use Rattle.ss_model_laws.proofs.ListLocality.{list_is_local}
use Rattle.ss_model_laws.proofs.parts.lists_are_local.Goals as goal

pub returns : goal.returns
returns c = λ catalog accepted n some db list. list_is_local catalog accepted n some db list
