use Rattle.std.proofs.Common.{◌∙◌, ap, set}
use Rattle.ss_catalog.proofs.WithSpare.{set_there}
use Rattle.ss_catalog.proofs.bodies.add_to_list.Goals as goal
use Rattle.ss_catalog.proofs.bodies.add_to_list.Goals.{in-Ok, in-Err}

pub returns-clause-err : goal.returns-clause-err
returns-clause-err c = elim c.match-push.branch [
  | in-Ok w ↦ rw w.result-is tt
  | in-Err w ↦ rw w.result-is (
      ap (set c.args.spares.now c.args.procedure) (w.in-Err.ensures.err.0)
      ∙ set_there c.args.spares.now c.args.procedure c.in-Some.bodies.now c.in-Some.ensures.item)
]
