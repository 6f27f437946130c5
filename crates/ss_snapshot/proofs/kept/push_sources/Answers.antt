use Rattle.std.proofs.Common.{◌≡◌, ◌∙◌, ◌++◌, ap, sym}
use Rattle.ss_record.specs.Numbers.{number_bytes}
use Rattle.ss_model.specs.Database.{is_border_stream}
use Rattle.ss_snapshot.proofs.Repeated.{sources_more, sources_same}
use Rattle.ss_snapshot.proofs.kept.push_sources.Goals as goal
use Rattle.ss_snapshot.proofs.kept.push_sources.Goals.{then-is_border_stream+in_ok-push_u64, else-is_border_stream}

pub loop-stream-preserved : goal.loop-stream-preserved
loop-stream-preserved c = elim c.if-is_border_stream.branch [
  | then-is_border_stream+in_ok-push_u64 w ↦
      let out : c.if-is_border_stream.out.items ≡ c.loop-stream.out.items ++ number_bytes 8 0 = ap (λ v. v.items) w.out-is ∙ w.in_ok-push_u64.ensures.spelled in
      out
      ∙ sources_more (is_border_stream c.args.catalog.now) c.loop-stream.stream c.args.out.now.items c.loop-stream.out.items c.loop-stream.invariant (sym c.is_border_stream.ensures ∙ w.if-is_border_stream.true)
  | else-is_border_stream w ↦
      ap (λ v. v.items) w.out-is
      ∙ sources_same (is_border_stream c.args.catalog.now) c.loop-stream.stream c.args.out.now.items c.loop-stream.out.items c.loop-stream.invariant (sym c.is_border_stream.ensures ∙ w.if-is_border_stream.false)
]
