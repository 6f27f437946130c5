use Rattle.std.proofs.Common.{arith}
use Rattle.ss_lanes.proofs.CallerLemmas.{fits_on, requested_at_once, same_number}
use Rattle.ss_engine.proofs.client.requests.make_request.Goals as goal

pub returns-then-pending-lt-MOST_PENDING : goal.returns-then-pending-lt-MOST_PENDING
returns-then-pending-lt-MOST_PENDING g c = requested_at_once g.I.Life.first g.I.Life.limit c.args.lane c.args.request.now.what c.submit.result c.submit.ensures

pub submit-requires-in-Ok-clause-fits : goal.submit-requires-in-Ok-clause-fits
submit-requires-in-Ok-clause-fits g c = fits_on g.I.Life.catalog g.I.Life.first c.args.lane c.ensure_durable-lane.result.0 c.args.request.now.what c.ensure_durable-lane.ensures.keeps c.requires.fits

pub returns-in-Err : goal.returns-in-Err
returns-in-Err g c = record { between = c.ensure_durable-lane.result.0; keeps = c.ensure_durable-lane.ensures.keeps; submitted = c.halted.ensures g.I.Life.limit c.args.request.now.what }

pub submit-requires-in-Ok-clause-numbered : goal.submit-requires-in-Ok-clause-numbered
submit-requires-in-Ok-clause-numbered g c =
    let same = same_number g.I.Life.first c.args.lane c.ensure_durable-lane.result.0 c.ensure_durable-lane.ensures.keeps in
    let small = c.requires.numbered in
    omega arith

pub unsent-requires-clause-numbered : goal.unsent-requires-clause-numbered
unsent-requires-clause-numbered g c =
    let same = same_number g.I.Life.first c.args.lane c.ensure_durable-lane.result.0 c.ensure_durable-lane.ensures.keeps in
    let small = c.requires.numbered in
    omega arith

pub halted-requires-clause-numbered : goal.halted-requires-clause-numbered
halted-requires-clause-numbered g c =
    let same = same_number g.I.Life.first c.args.lane c.ensure_durable-lane.result.0 c.ensure_durable-lane.ensures.keeps in
    let small = c.requires.numbered in
    omega arith
