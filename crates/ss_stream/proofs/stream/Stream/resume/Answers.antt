use Rattle.std.proofs.Common.{◌≡◌, ap, refl, ◌∙◌}
use Rattle.ss_stream.specs.Pending.{least_cursor}
use Rattle.ss_stream.proofs.Resumed.{resumed-pending}
use Rattle.ss_stream.proofs.stream.Stream.resume.Goals as goal

least : (c : goal.After-into_vec-2) → c.least_cursor.result ≡ least_cursor c.args.cursors
least c = c.least_cursor.ensures ∙ ap least_cursor c.as_slice.ensures

pub invariant_of-result : goal.invariant_of-result
invariant_of-result c = rw (least c, c.from.ensures.0, c.into_vec.ensures, c.into_vec-2.ensures) (resumed-pending c.args.kept c.args.cursors c.requires)

pub returns : goal.returns
returns c = rw (least c, c.from.ensures.0, c.into_vec.ensures, c.into_vec-2.ensures) refl
