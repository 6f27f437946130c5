use Rattle.std.proofs.Common.{◌≡◌, ℕ, ◌<◌, ◌++◌, map, get_or}
use Rattle.std.specs.List.{flat_map, filter, range_with_len}
use Rattle.std.specs.FinMap as finmap
use Rattle.ss_model.specs.Database.{is_border_stream}
use Rattle.ss_shard.specs.Sources.{numbers_at, positive}
use Rattle.ss_standing.specs.FitsImage.{FitNumbers}
use Rattle.ss_standing.specs.Image.{sources_bytes}
use Rattle.ss_snapshot.proofs.writing.counts.push_next_numbers.Given as goal

abbrev pub invariant-loop-stream : goal.invariant-loop-stream
invariant-loop-stream l = record {
  spelled : l.out.items ≡ l.fn.out.items ++ flat_map (λ (s : ℕ). sources_bytes (get_or (map positive l.whole.sources) s finmap.empty)) (filter (is_border_stream l.catalog) (range_with_len 0 l.stream));
  fits : (s : ℕ) → s < l.stream → FitNumbers (positive (numbers_at l.whole.sources s));
}
