use Rattle.std.proofs.Common.{length}
use Rattle.ss_words.specs.Words.{words_of}
use Rattle.ss_words.proofs.Taken.{IsReading}
use Rattle.ss_words.proofs.command.read_options.Given as goal

abbrev pub invariant-loop-left : goal.invariant-loop-left
invariant-loop-left l = IsReading (words_of l.words) l.found (words_of l.left)

abbrev pub decreases-loop-left : goal.decreases-loop-left
decreases-loop-left l = length l.left
