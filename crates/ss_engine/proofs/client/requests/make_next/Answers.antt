use Rattle.std.proofs.Common.{arith}
use Rattle.ss_lanes.proofs.CallerLemmas.{fits_on, same_number}
use Rattle.ss_engine.proofs.Checkpoints.{requested_later}
use Rattle.ss_engine.proofs.client.requests.make_next.Goals as goal

pub make_request-lane-requires-clause-fits : goal.make_request-lane-requires-clause-fits
make_request-lane-requires-clause-fits g c = fits_on g.I.Life.catalog g.I.Life.first c.args.lane c.checkpoint_if-lane.result.0 c.args.request.now.what c.checkpoint_if-lane.ensures.keeps c.requires.fits

pub returns : goal.returns
returns g c = requested_later g.I.Life.first g.I.Life.limit c.args.lane c.checkpoint_if-lane.result.0 c.make_request-lane.result c.args.request.now.what c.checkpoint_if-lane.ensures.keeps c.make_request-lane.ensures

pub make_request-lane-requires-clause-numbered : goal.make_request-lane-requires-clause-numbered
make_request-lane-requires-clause-numbered g c =
    let same = same_number g.I.Life.first c.args.lane c.checkpoint_if-lane.result.0 c.checkpoint_if-lane.ensures.keeps in
    let small = c.requires.numbered in
    omega arith
