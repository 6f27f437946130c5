use Rattle.std.proofs.Common.{◌∙◌, subst, sym}
use Rattle.ss_flow.specs.Follows.{AreOfStreams}
use Rattle.ss_flow.proofs.Advancing.{few_passed, have_streams, many_streams, may_pass_now, more_room, rise, streams_after}
use Rattle.ss_flow.proofs.flow.advance.Goals as goal

pub pass_batch-requires-clause-many : goal.pass_batch-requires-clause-many
pass_batch-requires-clause-many c =
    let one = c.requires.advances in
    many_streams c.args.catalog.now c.requires.accepted one.0 c.args.entry.now one.1 c.args.batches c.args.streams.now one.2

pub pass_batch-requires-clause-next : goal.pass_batch-requires-clause-next
pass_batch-requires-clause-next c =
    let one = c.requires.advances in
    may_pass_now c.args.catalog.now c.requires.accepted one.0 c.args.entry.now one.1 c.args.batches c.args.streams.now one.2

pub emit_batches-requires-clause-there : goal.emit_batches-requires-clause-there
emit_batches-requires-clause-there c =
    let one = c.requires.advances in
    let many = c.pass_batch.ensures.many ∙ many_streams c.args.catalog.now c.requires.accepted one.0 c.args.entry.now one.1 c.args.batches c.args.streams.now one.2 in
    subst (λ n. AreOfStreams n c.args.batches) (sym many) (have_streams c.args.catalog.now c.requires.accepted one.0 c.args.entry.now one.1 c.args.batches c.args.streams.now one.2)

pub emit_batches-requires-clause-rising : goal.emit_batches-requires-clause-rising
emit_batches-requires-clause-rising c =
    let one = c.requires.advances in
    rise c.args.catalog.now c.requires.accepted one.0 c.args.entry.now one.1 c.args.batches c.args.streams.now one.2

pub emit_batches-requires-clause-room : goal.emit_batches-requires-clause-room
emit_batches-requires-clause-room c = more_room c.args.streams.now c.pass_batch.new.streams c.pass_batch.ensures.room c.args.batches c.requires.room

pub emit_batches-requires-clause-few : goal.emit_batches-requires-clause-few
emit_batches-requires-clause-few c =
    let one = c.requires.advances in
    few_passed c.args.catalog.now c.requires.accepted one.0 c.args.entry.now one.1 c.args.batches c.args.streams.now one.2 c.pass_batch.new.streams c.pass_batch.ensures.passed

pub returns : goal.returns
returns c = λ db a adv.
    let many = c.emit_batches.ensures.many ∙ c.pass_batch.ensures.many ∙ many_streams c.args.catalog.now c.requires.accepted db c.args.entry.now a c.args.batches c.args.streams.now adv in
    streams_after c.args.catalog.now c.requires.accepted db c.args.entry.now a c.args.batches c.args.streams.now adv c.pass_batch.new.streams c.pass_batch.ensures.passed c.emit_batches.new.streams many c.emit_batches.ensures.joined
