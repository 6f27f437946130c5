use Rattle.std.proofs.Common.{◌≡◌, ◌∙◌, ◌≤◌, ◌+◌, ◌-◌, ◌^◌, [], ℕ, take, sym, ap, subst, arith}
use Rattle.ss_stream.specs.Streams.{stream_at}
use Rattle.ss_standing.specs.FitsImage.{FitRows}
use Rattle.ss_standing.specs.Image.{counted_rows}
use Rattle.ss_snapshot.proofs.PendingBatches.{kept_batch}
use Rattle.ss_snapshot.proofs.Pieces.{Spelled, spelled_none, spelled_found, spelled_all, found_within}
use Rattle.ss_snapshot.proofs.writing.streams.push_batches.Goals as goal

pub loop-number-init : goal.loop-number-init
loop-number-init c =
    let p = stream_at c.args.streams.now c.args.stream in
    let none : c.first_kept-number.result - p.first ≡ 0 = omega (arith, c.first_kept-number.ensures) in
    subst (Spelled (counted_rows 2) (FitRows (2 ^ 16)) c.args.out.now.items c.args.out.now.items) (ap (λ (n : ℕ). take n p.batches) (sym none)) (spelled_none (counted_rows 2) (FitRows (2 ^ 16)) c.args.out.now.items)

pub unreachable-requires : goal.unreachable-requires
unreachable-requires c =
    let p = stream_at c.args.streams.now c.args.stream in
    found_within p.batches (c.loop-number.number - p.first) [] (omega arith) (c.in_default.ensures ∙ kept_batch p c.loop-number.number (omega arith))

pub loop-number-preserved : goal.loop-number-preserved
loop-number-preserved c =
    let p = stream_at c.args.streams.now c.args.stream in
    let from : p.first ≤ c.loop-number.number = omega (arith, c.first_kept-number.ensures) in
    let next : c.loop-number.number - p.first + 1 ≡ c.loop-number.number + 1 - p.first = omega (arith, from) in
    subst (λ (n : ℕ). Spelled (counted_rows 2) (FitRows (2 ^ 16)) c.args.out.now.items c.push_batch.new.out.items (take n p.batches)) next
    (spelled_found (counted_rows 2) (FitRows (2 ^ 16)) c.args.out.now.items p.batches (c.loop-number.number - p.first) c.in-Some.batch.now c.loop-number.out.items c.push_batch.new.out.items
    (sym (kept_batch p c.loop-number.number from) ∙ sym c.in-Some.ensures) c.loop-number.invariant c.in_ok-push_batch.ensures.spelled c.in_ok-push_batch.ensures.fits)

pub returns : goal.returns
returns c =
    let p = stream_at c.args.streams.now c.args.stream in
    let all = spelled_all (counted_rows 2) (FitRows (2 ^ 16)) c.args.out.now.items p.batches (c.loop-number.number - p.first) c.loop-number.out.items (omega arith) c.loop-number.invariant in
    record { spelled = all.spelled; fits = all.fits }
