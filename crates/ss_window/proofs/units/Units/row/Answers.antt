use Rattle.std.proofs.Common.{◌≡◌, ◌+◌, ◌-◌, ◌≤◌, drop, slice_get, ap, ◌∙◌, arith}
use Rattle.ss_window.specs.WindowValue.{rows_in}
use Rattle.ss_window.proofs.Numbered.{starts_rise, row_behind_start}
use Rattle.ss_window.proofs.units.Units.row.Goals as goal

pub position_of-position-requires-clause-rises : goal.position_of-position-requires-clause-rises
position_of-position-requires-clause-rises c = starts_rise c.self.inside.first c.self.inside.unit_ends.items c.self.inside.ring.items c.self.invariant.starts

pub returns : goal.returns
returns c =
    let held = c.self.inside in
    let units = held.ring.items in
    let position = c.position_of-position.result.0 in
    let behind = c.position_of-position.result.1 in
    let number = held.first + c.args.at in
    let by : number - behind ≤ number = omega arith in
    let same : behind ≡ number - (number - behind) = omega (arith, c.position_of-position.ensures.behind) in
    let numbered : number - held.first ≡ c.args.at = omega arith in
    c.row_from.ensures ∙ ap (slice_get (rows_in (drop position units))) same
    ∙ row_behind_start held.first held.unit_ends.items units c.self.invariant.starts position (number - behind) number c.position_of-position.ensures.start by
    ∙ ap (slice_get (rows_in units)) numbered ∙ ap (λ us. slice_get (rows_in us) c.args.at) c.self.view_is
