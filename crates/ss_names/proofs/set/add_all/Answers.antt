use Rattle.std.proofs.Common.{◌∙◌, ap}
use Rattle.ss_lemmas.proofs.Results.{on_err_so}
use Rattle.ss_names.specs.Names.{is_among}
use Rattle.ss_names.proofs.Sets.{with_name, added_step}
use Rattle.ss_names.proofs.set.add_all.Goals as goal

pub loop-item-preserved : goal.loop-item-preserved
loop-item-preserved g c =
    added_step g.T.Named.name c.args.names.now c.args.items.now c.loop-item.item-index c.item-item.result c.loop-item.names c.insert.new.self c.loop-item-test.true c.item-item.is c.loop-item.invariant
    (c.in_ok-insert.ensures.names ∙ ap (with_name c.loop-item.names) c.name.ensures)

pub returns-in_err-insert-clause-err : goal.returns-in_err-insert-clause-err
returns-in_err-insert-clause-err g c =
    on_err_so c.from_residual.result (c.loop-item.item-index, c.loop-item-test.true, λ other. ap (λ ns. is_among ns other) c.in_err-insert.ensures.err ∙ c.loop-item.invariant other)
