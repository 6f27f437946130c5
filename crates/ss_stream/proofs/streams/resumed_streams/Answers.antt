use Rattle.std.proofs.Common.{◌∙◌, ◌<◌, [], ap, arith, get_or, length, length-set, subst, sym, List, ℕ}
use Rattle.ss_value.specs.Rows.{Rows}
use Rattle.ss_stream.specs.declared.cursor.Cursor.{Cursor}
use Rattle.ss_stream.specs.Pending.{CanResume, resume}
use Rattle.ss_stream.proofs.Resumed.{made_more, rest_stays, taken_out}
use Rattle.ss_stream.proofs.streams.resumed_streams.Goals as goal

pub resume-requires : goal.resume-requires
resume-requires c =
    let i = c.loop-stream.stream in
    let batches = taken_out c.loop-stream.kept c.args.kept i [] c.put-batches.result c.put-batches.ensures.old (c.loop-stream.invariant.kept i (omega arith)) in
    let cursors = taken_out c.loop-stream.lists c.args.lists i [] c.put-cursors.result c.put-cursors.ensures.old (c.loop-stream.invariant.lists i (omega arith)) in
    let within : i < length c.args.lists = omega (arith, c.loop-stream-test.true, c.len-stream-end.ensures) in
    subst (λ (bs : List Rows). CanResume bs c.put-cursors.result) (sym batches) (subst (λ (cs : List Cursor). CanResume (get_or c.args.kept i []) cs) (sym cursors) (c.requires.each i within))

pub loop-stream-preserved : goal.loop-stream-preserved
loop-stream-preserved c =
    let i = c.loop-stream.stream in
    let batches = taken_out c.loop-stream.kept c.args.kept i [] c.put-batches.result c.put-batches.ensures.old (c.loop-stream.invariant.kept i (omega arith)) in
    let cursors = taken_out c.loop-stream.lists c.args.lists i [] c.put-cursors.result c.put-cursors.ensures.old (c.loop-stream.invariant.lists i (omega arith)) in
    let made = λ (s : ℕ). resume (get_or c.args.kept s []) (get_or c.args.lists s []) in
    let one = c.resume.ensures ∙ ap (λ (bs : List Rows). resume bs c.put-cursors.result) batches ∙ ap (resume (get_or c.args.kept i [])) cursors in
    record {
      made = made_more c.loop-stream.streams.items c.add.new.self.items c.resume.result made i c.add.ensures.items one c.loop-stream.invariant.made;
      room = omega arith;
      many = ap length c.put-cursors.ensures.new ∙ length-set c.loop-stream.lists i _ ∙ c.loop-stream.invariant.many;
      kept_many = ap length c.put-batches.ensures.new ∙ length-set c.loop-stream.kept i _ ∙ c.loop-stream.invariant.kept_many;
      lists = rest_stays c.loop-stream.lists c.put-cursors.new.self c.args.lists i [] _ c.put-cursors.ensures.new c.loop-stream.invariant.lists;
      kept = rest_stays c.loop-stream.kept c.put-batches.new.self c.args.kept i [] _ c.put-batches.ensures.new c.loop-stream.invariant.kept;
    }
