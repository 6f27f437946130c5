use Rattle.serde_json.specs.View.{view}
use Rattle.ss_nest.proofs.CallerLemmas.{nested_from}
use Rattle.ss_case_lists.proofs.catalogs.read_base.Goals as goal

pub returns-in-Ok-read_nested-clause-read : goal.returns-in-Ok-read_nested-clause-read
returns-in-Ok-read_nested-clause-read c = (view c.in-Ok.value, nested_from (view c.in-Ok.value) c.in-Ok-read_nested.catalog c.in-Ok-read_nested.ensures.ok)
