use Rattle.std.proofs.Common.{◌≡◌, ◌-◌}
use Rattle.ss_model.specs.Settling.{border_stream_from, border_stream}
use Rattle.ss_catalog_checks.proofs.workflows.border_stream.Given as goal

abbrev pub invariant-loop : goal.invariant-loop
invariant-loop l = border_stream_from (l.end - l.counter) l.catalog l.at ≡ border_stream l.catalog l.fn.procedure
