-- A lane that has an answer to each of some requests.
use Rattle.std.specs.Prelude.{◌≡◌, ℕ, List, [], ◌∷◌, ◌++◌, length}
use Rattle.ss_model.specs.declared.entry.Request.{Request}
use Rattle.ss_report_laws.specs.Replies.{expected_entries}
use Rattle.ss_lanes.specs.Mines.{mine_in}
use Rattle.ss_lanes.specs.Lanes.{LaneView, IsFresh, IsSubmitted}

-- the list that the lane knows has of its client just the entries that the answers to these requests, the first of which has the number of
-- the lane's first request, report
pub record IsServed (first : ℕ) (requests : List Request) (lane : LaneView) : Type 0 where
  pub many : length lane.answers ≡ length requests
  pub entries : mine_in lane.client first lane.list ≡ expected_entries lane.client lane.start requests lane.answers

-- law: so it is before the client's first request, and with each request that is submitted
pub record LanesServe : Type 0 where
  pub starts : (first client start : ℕ) (lane : LaneView) → IsFresh first client start lane → IsServed first [] lane
  pub goes_on : (first limit : ℕ) (requests : List Request) (r : Request) (old new : LaneView)
      → IsServed first requests old → IsSubmitted first limit old r.what new → IsServed first (requests ++ r ∷ []) new
