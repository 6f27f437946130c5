use Rattle.std.proofs.Common.{◌∙◌, ap, slice_set}
use Rattle.ss_commitlog_tests.proofs.Marks.{by_number}
use Rattle.ss_commitlog_tests.proofs.tests.two_threads.by_number.Goals as goal

pub returns-clause-zero : goal.returns-clause-zero
returns-clause-zero g c =
    ap (slice_set c.args.parts 1) c.swap.ensures.x_after
    ∙ (by_number g.I.Life.first g.I.Life.parts g.I.Life.clients c.args.parts c.args.clients c.in-Some.part.now c.in-Some-get_mut.client.now c.requires.two.0 c.requires.two.1 c.requires.parts c.requires.clients c.in-Some.ensures.item c.in-Some-get_mut.ensures.item).0

pub returns-clause-one : goal.returns-clause-one
returns-clause-one g c =
    ap (slice_set c.args.clients 0) c.swap.ensures.y_after
    ∙ (by_number g.I.Life.first g.I.Life.parts g.I.Life.clients c.args.parts c.args.clients c.in-Some.part.now c.in-Some-get_mut.client.now c.requires.two.0 c.requires.two.1 c.requires.parts c.requires.clients c.in-Some.ensures.item c.in-Some-get_mut.ensures.item).1
