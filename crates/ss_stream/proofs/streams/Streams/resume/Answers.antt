use Rattle.std.proofs.Common.{◌∙◌}
use Rattle.ss_stream.proofs.Resumed.{lists_can, lists_make}
use Rattle.ss_stream.proofs.streams.Streams.resume.Goals as goal

pub resumed_streams-requires-clause-each : goal.resumed_streams-requires-clause-each
resumed_streams-requires-clause-each c = lists_can c.args.cursors.now c.args.consumers.now c.args.kept c.in-Ok.lists c.requires c.in-Ok.ensures

pub returns-clause-ok : goal.returns-clause-ok
returns-clause-ok c = c.resumed_streams.ensures ∙ lists_make c.args.cursors.now c.args.consumers.now c.args.kept c.in-Ok.lists c.in-Ok.ensures
