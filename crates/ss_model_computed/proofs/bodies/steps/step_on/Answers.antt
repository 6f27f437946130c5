use Rattle.std.proofs.Common.{◌≡◌, [], get_or, rules}
use Rattle.ss_model_computed.proofs.bodies.steps.step_on.Goals as goal

pub returns-in_ok-rows-in-ForEach-clause-stops : goal.returns-in_ok-rows-in-ForEach-clause-stops
returns-in_ok-rows-in-ForEach-clause-stops c =
    let body : c.as_slice.result.now ≡ c.in-ForEach.body = search rules in
    let rows : c.as_slice-in-ForEach.result.now ≡ get_or c.args.context.now.batches.now c.in-ForEach.input [] = search rules in
    rw (c.in-ForEach.is, ← rows, ← body) c.for_each.ensures.stops
