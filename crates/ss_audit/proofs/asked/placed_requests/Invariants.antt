use Rattle.std.proofs.Common.{◌≡◌, ◌<◌, ◌==◌, ◌++◌, ℕ, [], take, drop}
use Rattle.std.specs.List.{count_by}
use Rattle.ss_audit.specs.Clients.{number_of}
use Rattle.ss_audit.specs.Positions.{placed_requests}
use Rattle.ss_audit.proofs.asked.placed_requests.Given as goal

abbrev pub invariant-loop-position : goal.invariant-loop-position
invariant-loop-position l = record {
  placed : l.placed.items ++ placed_requests (take l.position l.requests) (drop l.position l.requests) ≡ placed_requests [] l.requests;
  counts : (client : ℕ) → client < 256 → number_of l.counts client ≡ count_by (λ x. x.client == client) (take l.position l.requests);
}
