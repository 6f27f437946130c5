-- Lanes that are taken apart, and what a list that goes on from theirs has of each.
use Rattle.std.specs.Prelude.{◌≡◌, ◌+◌, ◌≤◌, ℕ, List, [], ◌∷◌, ◌++◌, length, slice_get, Some}
use Rattle.ss_model.specs.declared.entry.Answer.{Answer}
use Rattle.ss_model.specs.declared.entry.Listed.{Listed}
use Rattle.ss_report_laws.specs.Replies.{mine}
use Rattle.ss_commitlog.specs.declared.role.Role.TheVariants.{Client}
use Rattle.ss_commitlog.specs.Meaning.{listed_of}
use Rattle.ss_commitlog.specs.Tokens.{Known}
use Rattle.ss_lanes.specs.Dues.{AreHaltedAt, FewOpen, IsDue}
use Rattle.ss_lanes.specs.Lanes.{LaneView, HasSeen}
use Rattle.ss_lanes.specs.Mines.{mine_in}

-- the mark of a lane, which knows the lane's list and has seen no less than the lane, with what waits for a receipt
pub record IsMarkOf (first : ℕ) (lane : LaneView) (k : Known) : Type 0 where
  pub role : k.role ≡ Client lane.client
  pub list_is : k.list ≡ lane.list
  pub seen : HasSeen lane.count lane.due k
  pub due_is : IsDue (mine_in lane.client first lane.list) (first + length lane.list) lane.count lane.due lane.answers

-- those of these lanes
abbrev pub AreMarksOf : ℕ → List LaneView → List Known → Type 0
AreMarksOf first [] [] = Unit {0}
AreMarksOf first (lane ∷ lanes) (k ∷ ks) = IsMarkOf first lane k × AreMarksOf first lanes ks
AreMarksOf first _ _ = ⊥

-- as many lanes as clients, each that of the client of its number
pub record AreOfClients (clients : ℕ) (lanes : List LaneView) : Type 0 where
  pub many : length lanes ≡ clients
  pub each : (k : ℕ) (lane : LaneView) → slice_get lanes k ≡ Some lane → lane.client ≡ k

-- a list begins with what a lane knew, so it is no shorter, and has no other entry of the lane's client than that; and these are its
-- answers. The disk's token has these numbers, so all of the client's entries but 16 at most stand below its count, and each answer that
-- the disk has failed carries its faults
pub record IsOfLane (first k : ℕ) (disk : Known) (lane : LaneView) (list : List Listed) (answers : List (List Answer)) : Type 0 where
  pub rest : List Listed
  pub begins : list ≡ listed_of lane.list ++ rest
  pub longer : length lane.list ≤ length list
  pub own : mine k first list ≡ mine_in k first lane.list
  pub answers_are : slice_get answers k ≡ Some lane.answers
  pub seen : HasSeen lane.count lane.due disk
  pub few_open : FewOpen (mine k first list) disk.count 16
  pub halted : AreHaltedAt disk.faults lane.answers
