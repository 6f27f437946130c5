use Rattle.ss_engine.proofs.Requesting.{IsUnderway}
use Rattle.ss_engine.proofs.client.requests.make_requests.Given as goal

-- of the requests so far those are made that the client is to make here, and there is room for the answers to the others
abbrev pub invariant-loop-request : goal.invariant-loop-request
invariant-loop-request g l = IsUnderway g.I.Life.first g.I.Life.limit l.starts l.requests l.number l.request-index l.earlier l.lane
