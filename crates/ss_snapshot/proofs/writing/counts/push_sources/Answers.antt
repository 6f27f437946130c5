use Rattle.std.proofs.Common.{◌<◌, ◌^◌, List, ℕ, Bor, arith}
use Rattle.std.proofs.lemmas.Option.{slice_get-get_or}
use Rattle.ss_shard.specs.Sources.{lent_source}
use Rattle.ss_standing.specs.Image.{source_bytes}
use Rattle.ss_snapshot.proofs.Pieces.{spelled_none, spelled_found, spelled_all, spelled_as}
use Rattle.ss_snapshot.proofs.writing.counts.push_sources.Goals as goal

pub loop-next-init : goal.loop-next-init
loop-next-init c = spelled_none (λ (e : Bor (List ℕ) × ℕ). source_bytes (lent_source e)) (λ (e : Bor (List ℕ) × ℕ). e.1 < 2 ^ 64) c.args.out.now.items

pub push_source-requires : goal.push_source-requires
push_source-requires c = c.requires c.loop-next.next-index _ c.loop-next-test.true

pub loop-next-preserved : goal.loop-next-preserved
loop-next-preserved c =
    spelled_found (λ (e : Bor (List ℕ) × ℕ). source_bytes (lent_source e)) (λ (e : Bor (List ℕ) × ℕ). e.1 < 2 ^ 64) c.args.out.now.items c.args.sources.now c.loop-next.next-index _
    c.loop-next.out.items c.push_source.new.out.items (slice_get-get_or c.args.sources.now c.loop-next.next-index _ c.loop-next-test.true) c.loop-next.invariant c.in_ok-push_source.ensures.spelled
    c.in_ok-push_source.ensures.fits

pub returns : goal.returns
returns c =
    let all = spelled_as source_bytes (λ (e : List ℕ × ℕ). e.1 < 2 ^ 64) lent_source c.args.out.now.items c.loop-next.out.items c.args.sources.now
    (spelled_all (λ (e : Bor (List ℕ) × ℕ). source_bytes (lent_source e)) (λ (e : Bor (List ℕ) × ℕ). e.1 < 2 ^ 64) c.args.out.now.items c.args.sources.now c.loop-next.next-index c.loop-next.out.items
    (omega (arith, c.loop-next-test.false)) c.loop-next.invariant) in
    record { spelled = all.spelled; fits = all.fits }
