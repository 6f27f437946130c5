use Rattle.std.proofs.Common.{◌≡◌, ◌-◌, ◌++◌, map}
use Rattle.std.specs.List.{range_with_len}
use Rattle.ss_voter.specs.Script.{add_contestant, show_requests}
use Rattle.ss_voter.proofs.script.show_requests.Given as goal

abbrev pub invariant-loop-contestant : goal.invariant-loop-contestant
invariant-loop-contestant l = l.requests ++ map add_contestant (range_with_len l.contestant (7 - l.contestant)) ≡ show_requests
