use Rattle.std.proofs.Common.{◌<◌, length, get_or, arith}
use Rattle.std.proofs.lemmas.Option.{slice_get-get_or}
use Rattle.ss_stream.specs.Pending.{Pending}
use Rattle.ss_stream.specs.Streams.{no_stream}
use Rattle.ss_standing.specs.FitsImage.{FitsStream}
use Rattle.ss_standing.specs.Image.{stream_bytes}
use Rattle.ss_snapshot.specs.Held.{held_stream}
use Rattle.ss_snapshot.proofs.Pieces.{spelled_none, spelled_found, spelled_all, spelled_as}
use Rattle.ss_snapshot.proofs.writing.streams.push_streams.Goals as goal

pub loop-stream-init : goal.loop-stream-init
loop-stream-init c = spelled_none (λ (p : Pending). stream_bytes (held_stream p)) (λ (p : Pending). FitsStream (held_stream p)) c.args.out.now.items

pub push_stream-requires : goal.push_stream-requires
push_stream-requires c = omega (arith, c.in_ok-count.ensures)

pub loop-stream-preserved : goal.loop-stream-preserved
loop-stream-preserved c =
    let there : c.loop-stream.stream < length c.args.streams.now.streams = omega (arith, c.in_ok-count.ensures) in
    spelled_found (λ (p : Pending). stream_bytes (held_stream p)) (λ (p : Pending). FitsStream (held_stream p)) c.args.out.now.items c.args.streams.now.streams c.loop-stream.stream
    (get_or c.args.streams.now.streams c.loop-stream.stream no_stream) c.loop-stream.out.items c.push_stream.new.out.items (slice_get-get_or c.args.streams.now.streams c.loop-stream.stream no_stream there)
    c.loop-stream.invariant c.in_ok-push_stream.ensures.spelled c.in_ok-push_stream.ensures.fits

pub returns : goal.returns
returns c =
    let all = spelled_as stream_bytes FitsStream held_stream c.args.out.now.items c.loop-stream.out.items c.args.streams.now.streams
    (spelled_all (λ (p : Pending). stream_bytes (held_stream p)) (λ (p : Pending). FitsStream (held_stream p)) c.args.out.now.items c.args.streams.now.streams c.loop-stream.stream c.loop-stream.out.items
    (omega (arith, c.in_ok-count.ensures)) c.loop-stream.invariant) in
    record { spelled = all.spelled; fits = all.fits }
