use Rattle.std.proofs.Common.{ap, ◌∙◌, ◌+◌}
use Rattle.std.proofs.lemmas.Result.{err_from_is_err_and}
use Rattle.ss_catalog_resolve.proofs.InOrder.{one_more, faulty, ended}
use Rattle.ss_catalog_resolve.proofs.in_order.read_in_order.Goals as goal

pub returns-in_err-read-clause-read : goal.returns-in_err-read-clause-read
returns-in_err-read-clause-read g c =
    let p = err_from_is_err_and c.from_residual.result c.from_residual.ensures.1 in
    rw (p.1, p.2) (faulty g.R.ItemReader.size (g.R.ItemReader.reads c.args.reads.now) c.args.first c.args.items.now c.loop-item.all c.loop-item.number c.loop-item.item-index c.item-item.result c.loop-item-test.true c.item-item.is c.loop-item.invariant.begun c.in_err-read.field-0.0 c.in_err-read.ensures.read)

pub loop-item-preserved : goal.loop-item-preserved
loop-item-preserved g c = record {
  stays = c.in_ok-read.ensures.unchanged ∙ c.loop-item.invariant.stays;
  begun = one_more g.R.ItemReader.size (g.R.ItemReader.reads c.args.reads.now) c.args.first c.args.items.now c.loop-item.all c.loop-item.number c.loop-item.item-index c.item-item.result c.loop-item-test.true c.item-item.is c.loop-item.invariant.begun c.in_ok-read.read c.in-Some.next c.push.new.self c.in_ok-read.ensures.read (c.in-Some.ensures.1 ∙ ap (λ s. c.loop-item.number + s) c.size.ensures) c.in_ok-push.ensures.ok;
}

pub returns-clause-read : goal.returns-clause-read
returns-clause-read g c = ended g.R.ItemReader.size (g.R.ItemReader.reads c.args.reads.now) c.args.first c.args.items.now c.loop-item.all c.loop-item.number c.loop-item.item-index c.loop-item-test.false c.loop-item.invariant.begun
