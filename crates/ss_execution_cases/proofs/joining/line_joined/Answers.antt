use Rattle.std.proofs.Common.{◌∙◌}
use Rattle.ss_execution_cases.proofs.joining.line_joined.Goals as goal

pub joined_again-requires-clause-whole : goal.joined_again-requires-clause-whole
joined_again-requires-clause-whole c = record {
  number = c.run_line.ensures.number ∙ c.requires.whole.number;
  parts = record { running = c.requires.whole.parts.running; committed = c.run_line.ensures.committed; dealt = c.run_line.ensures.dealt ∙ c.requires.whole.parts.dealt };
}
