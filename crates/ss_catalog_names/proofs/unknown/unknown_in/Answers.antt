use Rattle.ss_catalog_outline.proofs.CallerLemmas.{used_itself}
use Rattle.ss_catalog_names.proofs.unknown.unknown_in.Goals as goal

pub returns : goal.returns
returns c = used_itself c.args.known.now c.args.names.now _ c.name_missing.ensures
