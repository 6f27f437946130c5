-- What crates above may rely on: the lemmas of this crate that they cite.

-- A lane whose mark came back with a reply of its own: it is answered, and the request submitted.
pub use Rattle.ss_lanes.proofs.Coming.{came_back, submitted}
-- All but a few of a client's entries stand below a count.
pub use Rattle.ss_lanes.proofs.Dues.{few_open_on, none_open}
-- The entries of a client in lists that go on.
pub use Rattle.ss_lanes.proofs.Mines.{mine_in-append, mine_own, mine_shorter}
-- A lane that asks for a receipt, once its mark has met the disk's note and its own, and what a request needs then.
pub use Rattle.ss_lanes.proofs.Meeting.{covers_all, fits_on, keeps_itself, keeps_met, lane_met, lane_receipted, receipt_seen, requested_at_once, same_number}
-- The requests of a client, one after another.
pub use Rattle.ss_lanes.proofs.Making.{made_kept, made_none, made_number, made_requested, made_same, many_from, other_from, other_left, other_more, own_from, own_left, own_more, own_passed, request_fits, room_requested, still_unlisted}
-- No answer is listed behind one that the list is full, or that the disk has failed.
pub use Rattle.ss_lanes.proofs.Stopping.{none_behind_stop}
-- The number of a lane's next request.
pub use Rattle.ss_lanes.proofs.Telling.{next_number}
-- Clients in a list, each with its lane.
pub use Rattle.ss_lanes.proofs.ByClient.{all_there, many_lanes, of_lanes, of_slice}
-- What a list that goes on from the marks of lanes has of each.
pub use Rattle.ss_lanes.proofs.LanesApart.{lane_marks, of_lane}
-- How few entries of a client stand from a count on.
pub use Rattle.ss_lanes.proofs.FewBehind.{few_from}
