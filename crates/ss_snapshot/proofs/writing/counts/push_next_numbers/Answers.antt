use Rattle.std.proofs.Common.{◌≡◌, ◌∙◌, ◌++◌, ℕ, false, length, sym, ap, subst, arith}
use Rattle.std.proofs.Common.{below_more, append-nil}
use Rattle.std.specs.List.{flat_map}
use Rattle.ss_model.specs.Database.{is_border_stream}
use Rattle.ss_shard.specs.Sources.{numbers_at, positive}
use Rattle.ss_standing.specs.FitsImage.{FitNumbers}
use Rattle.ss_snapshot.proofs.NextNumbers.{spell_at, border_before, border_more, border_same, no_number_fits, all_numbers_fit}
use Rattle.ss_snapshot.proofs.writing.counts.push_next_numbers.Goals as goal
use Rattle.ss_snapshot.proofs.writing.counts.push_next_numbers.Goals.{then-is_border_stream+in_ok-push_stream_sources, else-is_border_stream}

pub loop-stream-init : goal.loop-stream-init
loop-stream-init c = record { spelled = sym (append-nil c.args.out.now.items); fits = λ s lt. absurd (omega (arith, lt)) }

pub loop-stream-preserved : goal.loop-stream-preserved
loop-stream-preserved c =
    let catalog = c.args.catalog.now in
    let sources = c.args.whole.now.sources in
    let n = c.loop-stream.stream in
    elim c.if-is_border_stream.branch [
      | then-is_border_stream+in_ok-push_stream_sources w ↦ record {
        spelled = border_more catalog sources n c.args.out.now.items c.loop-stream.out.items c.if-is_border_stream.out.items (omega (arith, c.requires.streams, c.in_ok-count.ensures))
            (ap (is_border_stream catalog) (sym c.from.ensures) ∙ sym c.is_border_stream.ensures ∙ w.if-is_border_stream.true) c.loop-stream.invariant.spelled (ap (λ v. v.items) w.out-is ∙ w.in_ok-push_stream_sources.ensures.spelled);
        fits = below_more (λ (s : ℕ). FitNumbers (positive (numbers_at sources s))) n c.loop-stream.invariant.fits w.in_ok-push_stream_sources.ensures.fits;
      }
      | else-is_border_stream w ↦ (
          let other : is_border_stream catalog n ≡ false = ap (is_border_stream catalog) (sym c.from.ensures) ∙ sym c.is_border_stream.ensures ∙ w.if-is_border_stream.false in
          record {
            spelled = ap (λ v. v.items) w.out-is ∙ border_same catalog sources n c.args.out.now.items c.loop-stream.out.items other c.loop-stream.invariant.spelled;
            fits = below_more (λ (s : ℕ). FitNumbers (positive (numbers_at sources s))) n c.loop-stream.invariant.fits (subst FitNumbers (sym (c.requires.border n other)) no_number_fits);
          })
    ]

pub returns : goal.returns
returns c =
    let catalog = c.args.catalog.now in
    let sources = c.args.whole.now.sources in
    let all : c.loop-stream.stream ≡ length catalog.streams = omega (arith, c.in_ok-count.ensures) in
    record {
      spelled = c.loop-stream.invariant.spelled ∙ ap (λ (n : ℕ). c.args.out.now.items ++ flat_map (spell_at catalog sources) (border_before catalog sources n)) all;
      fits = all_numbers_fit sources (λ s lt. c.loop-stream.invariant.fits s (omega (arith, lt, all, c.requires.streams)));
    }
