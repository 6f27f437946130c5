use Rattle.std.proofs.Common.{◌≡◌, ◌&&◌}
use Rattle.std.specs.List.{filter, range_with_len}
use Rattle.ss_model.specs.Nests.{members_emit, members_take}
use Rattle.ss_nest.proofs.joined.inner_streams.Given as goal

abbrev pub invariant-loop-stream : goal.invariant-loop-stream
invariant-loop-stream l = l.inner ≡ filter (λ s. members_emit l.catalog l.members s && members_take l.catalog l.members s) (range_with_len 0 l.stream)
