use Rattle.std.proofs.Common.{◌≡◌, map, take}
use Rattle.ss_catalog_resolve.specs.Steps.{given_expr}
use Rattle.ss_catalog_resolve.proofs.insert_steps.Body.given_exprs.Given as goal

abbrev pub invariant-loop-given : goal.invariant-loop-given
invariant-loop-given l = l.exprs ≡ map (given_expr l.self.procedure.now.args) (take l.given-index l.values)
