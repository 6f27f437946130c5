use Rattle.std.proofs.Common.{◌≡◌, ◌≤◌, ◌+◌, ℕ, [], map, get_or, length}
use Rattle.std.specs.List.{range_with_len}
use Rattle.ss_stream.specs.Pending.{ReservedStream, resume}
use Rattle.ss_stream.proofs.streams.resumed_streams.Given as goal

abbrev pub invariant-loop-stream : goal.invariant-loop-stream
invariant-loop-stream l = record {
  made : map (λ (s : ReservedStream). s.pending) l.streams.items ≡ map (λ s. resume (get_or l.fn.kept s []) (get_or l.fn.lists s [])) (range_with_len 0 l.stream);
  room : length l.fn.lists ≤ l.stream + l.streams.spare;
  many : length l.lists ≡ length l.fn.lists;
  kept_many : length l.kept ≡ length l.fn.lists;
  lists : (s : ℕ) → l.stream ≤ s → get_or l.lists s [] ≡ get_or l.fn.lists s [];
  kept : (s : ℕ) → l.stream ≤ s → get_or l.kept s [] ≡ get_or l.fn.kept s [];
}
