use Rattle.std.proofs.Common.{◌≡◌, ◌++◌, length}
use Rattle.std.specs.List.{filter, range_with_len}
use Rattle.std.specs.FinMap as finmap
use Rattle.ss_model.specs.Database.{is_border_stream}
use Rattle.ss_standing.specs.Image.{sources_bytes, repeated}
use Rattle.ss_snapshot.proofs.kept.push_sources.Given as goal

abbrev pub invariant-loop-stream : goal.invariant-loop-stream
invariant-loop-stream l = l.out.items ≡ l.fn.out.items ++ repeated sources_bytes (length (filter (is_border_stream l.catalog) (range_with_len 0 l.stream))) finmap.empty
