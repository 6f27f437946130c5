use Rattle.std.proofs.Common.{rules}
use Rattle.serde_json.specs.View.{view}
use Rattle.ss_nest.proofs.Alone.{reads_alone, refuses_alone}
use Rattle.ss_nest.proofs.read.read_alone.Goals as goal

pub returns-in-Ok-clause-ok : goal.returns-in-Ok-clause-ok
returns-in-Ok-clause-ok c = reads_alone (view c.args.value.now) c.requires.missing c.in-Ok.catalog c.in-Ok.ensures.ok

pub returns-in-Err : goal.returns-in-Err
returns-in-Err c = record {
  ok = tt;
  accepted = tt;
  utf8 = tt;
  refused = refuses_alone (view c.args.value.now) c.requires.missing c.in-Err.fault c.in-Err.ensures.refused (search rules);
}
