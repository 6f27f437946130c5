use Rattle.std.proofs.Common.{◌≡◌, ◌++◌, map}
use Rattle.std.specs.List.{range_with_len}
use Rattle.ss_voter.specs.Generator.{state}
use Rattle.ss_voter.specs.Script.{show_requests, vote}
use Rattle.ss_voter.proofs.script.votes.Given as goal

abbrev pub invariant-loop-number : goal.invariant-loop-number
invariant-loop-number l = record {
  made : l.requests ≡ show_requests ++ map (vote l.seed l.count l.clients) (range_with_len 0 l.number);
  state_is : l.state ≡ state l.seed l.number;
}
