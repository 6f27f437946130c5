use Rattle.ss_model_laws.proofs.EntryLocality.{entry_is_local}
use Rattle.ss_model_laws.proofs.parts.entries_are_local.Goals as goal

pub returns : goal.returns
returns c = λ catalog accepted n some e. entry_is_local catalog accepted n some e
