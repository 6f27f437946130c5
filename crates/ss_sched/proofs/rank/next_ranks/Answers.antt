use Rattle.std.proofs.Common.{◌≡◌, ◌<◌, ◌+◌, ◌∙◌, Some, length, slice_get, arith, ap}
use Rattle.std.proofs.Math.ListN.{length-set}
use Rattle.ss_model.specs.Settling.{rank_from}
use Rattle.ss_sched.proofs.LoopItem.{item_there}
use Rattle.ss_model.proofs.CallerLemmas.{few_procedures, few_streams}
use Rattle.ss_sched.proofs.Inputs.{inputs_below}
use Rattle.ss_sched.proofs.Ranking.{written, written_below, rank_step, rank_within}
use Rattle.ss_sched.proofs.rank.next_ranks.Goals as goal

pub next_rank-requires-clause-streams : goal.next_rank-requires-clause-streams
next_rank-requires-clause-streams c =
    let catalog = c.args.catalog.now in
    let n = c.loop-number.number in
    let d = c.procedure-item.result in
    let here : slice_get catalog.procedures n ≡ Some d = item_there _ catalog.procedures n d c.as_slice-procedure-items.ensures c.loop-number-test.true c.procedure-item.is in
    let few = few_streams catalog c.requires.accepted.form in
    let long : length c.args.emitters.now ≡ 32 = c.told-emitters in
    inputs_below catalog c.requires.accepted (length c.args.emitters.now) n d (omega arith) here

pub bounds-by_number-number : goal.bounds-by_number-number
bounds-by_number-number c =
    let few = few_procedures c.args.catalog.now c.requires.accepted.form in
    let long = ap length c.as_slice-procedure-items.ensures in
    omega arith

pub loop-number-preserved : goal.loop-number-preserved
loop-number-preserved c =
    let catalog = c.args.catalog.now in
    let n = c.loop-number.number in
    let d = c.procedure-item.result in
    let within : n < length catalog.procedures = rw (← c.as_slice-procedure-items.ensures) c.loop-number-test.true in
    let here : slice_get catalog.procedures n ≡ Some d = item_there _ catalog.procedures n d c.as_slice-procedure-items.ensures c.loop-number-test.true c.procedure-item.is in
    let few = few_procedures catalog c.requires.accepted.form in
    let long = c.loop-number.invariant.long in
    let inputs = inputs_below catalog c.requires.accepted (length catalog.streams) n d (omega arith) here in
    record {
      ranks_are = λ depth counted. written (rank_from (depth + 1) catalog) c.loop-number.by_number n c.next_rank.result (omega arith) (c.loop-number.invariant.ranks_are depth counted)
          (c.next_rank.ensures ∙ rank_step catalog depth n d c.args.ranks.now c.args.emitters.now here inputs counted.ranks_are c.requires.emitters);
      small = λ depth counted q.
          let is : c.next_rank.result ≡ rank_from (depth + 1) catalog n = c.next_rank.ensures ∙ rank_step catalog depth n d c.args.ranks.now c.args.emitters.now here inputs counted.ranks_are c.requires.emitters in
          let most = rank_within (depth + 1) catalog n in
          let h = written_below c.loop-number.by_number n c.next_rank.result (depth + 2) (λ s. let k = c.loop-number.invariant.small depth counted s in omega arith) (omega arith) q in omega arith;
      long = simp length-set long;
    }

pub returns : goal.returns
returns c = λ depth counted.
    let long = ap length c.as_slice-procedure-items.ensures in
    record {
      ranks_are = λ q lt. c.loop-number.invariant.ranks_are depth counted q (let done = c.loop-number-test.false in omega arith);
      small = c.loop-number.invariant.small depth counted;
    }
