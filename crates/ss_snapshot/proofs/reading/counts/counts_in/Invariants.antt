use Rattle.std.proofs.Common.{◌≡◌, ◌-◌, ◌∷◌, ◌++◌, [], List, ℕ, length, map}
use Rattle.ss_standing.specs.ImageForm.{counts_of, may_have_taken, number_where}
use Rattle.ss_standing.specs.Readers.{many, with_front}
use Rattle.ss_snapshot.specs.Streams.{as_kept}
use Rattle.ss_snapshot.proofs.reading.counts.counts_in.Given as goal

abbrev pub invariant-loop : goal.invariant-loop
invariant-loop l = record {
  read :
      with_front l.counts (many (λ (before : List ℕ) n. before ++ n ∷ []) (λ before. number_where 8 (may_have_taken l.catalog (map as_kept l.streams) before)) (length l.catalog.procedures - l.counter) l.counts l.rest)
      ≡ counts_of l.catalog (map as_kept l.streams) l.bytes;
  many : length l.counts ≡ l.counter;
}
