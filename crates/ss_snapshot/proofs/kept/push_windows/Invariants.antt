use Rattle.std.proofs.Common.{◌≡◌, [], ◌++◌}
use Rattle.ss_standing.specs.Image.{window_bytes, repeated}
use Rattle.ss_snapshot.proofs.kept.push_windows.Given as goal

abbrev pub invariant-loop : goal.invariant-loop
invariant-loop l = l.out.items ≡ l.fn.out.items ++ repeated window_bytes l.counter (0, [])
