use Rattle.std.proofs.Common.{◌≡◌, ◌+◌, ◌∷◌, [], length, ap, ◌∙◌, arith}
use Rattle.std.proofs.lemmas.List.{length-append}
use Rattle.ss_proc.proofs.RowLists.{one_begun}
use Rattle.ss_proc.proofs.row_lists.begin.Goals as goal

pub loop-alloc-preserved : goal.loop-alloc-preserved
loop-alloc-preserved c =
    let i = c.loop-alloc.invariant in
    let begun = c.loop-alloc.begun in
    let pushed = c.in_ok-push.ensures.ok in
    let long : length c.push.new.self ≡ length begun + 1 = ap length pushed ∙ length-append begun (c.new.result ∷ []) in
    let within = c.loop-alloc-test.true in
    let count_is = c.len.ensures in
    let more = i.more in
    record {
      more = omega arith;
      longer = one_begun c.args.begun.now begun c.push.new.self c.new.result i.more i.longer c.new.ensures pushed;
      most = λ count low few. omega arith;
    }
