use Rattle.std.proofs.Common.{◌≡◌, ◌≤◌, length, take}
use Rattle.ss_report_laws.specs.Replies.{requests_of}
use Rattle.ss_lanes.proofs.client.count_requests.Given as goal

abbrev pub invariant-loop-request : goal.invariant-loop-request
invariant-loop-request l = record {
  count : l.count ≡ length (requests_of l.client (take l.request-index l.requests));
  within : l.count ≤ l.request-index;
}
