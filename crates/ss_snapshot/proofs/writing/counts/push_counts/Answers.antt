use Rattle.std.proofs.Common.{ℕ, ◌<◌, ◌^◌, get_or, arith}
use Rattle.std.proofs.lemmas.Option.{slice_get-get_or}
use Rattle.ss_record.specs.Numbers.{number_bytes}
use Rattle.ss_snapshot.proofs.Pieces.{spelled_none, spelled_found, spelled_all}
use Rattle.ss_snapshot.proofs.writing.counts.push_counts.Goals as goal

pub loop-count-init : goal.loop-count-init
loop-count-init c = spelled_none (number_bytes 8) (λ (n : ℕ). n < 2 ^ 64) c.args.out.now.items

pub loop-count-preserved : goal.loop-count-preserved
loop-count-preserved c =
    let counts = c.args.counts.now in
    let i = c.loop-count.count-index in
    spelled_found (number_bytes 8) (λ (n : ℕ). n < 2 ^ 64) c.args.out.now.items counts i (get_or counts i 0) c.loop-count.out.items c.push_long.new.out.items (slice_get-get_or counts i 0 c.loop-count-test.true)
    c.loop-count.invariant c.in_ok-push_long.ensures.spelled c.in_ok-push_long.ensures.fits

pub returns : goal.returns
returns c =
    let all = spelled_all (number_bytes 8) (λ (n : ℕ). n < 2 ^ 64) c.args.out.now.items c.args.counts.now c.loop-count.count-index c.loop-count.out.items (omega (arith, c.loop-count-test.false)) c.loop-count.invariant in
    record { spelled = all.spelled; fits = all.fits }
