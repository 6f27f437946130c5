-- A lane between two requests.
use Rattle.std.specs.Prelude.{◌≡◌, ◌⊎◌, ◌≤◌, ℕ, List, ◌++◌}
use Rattle.ss_model.specs.declared.entry.Asked.{Asked}
use Rattle.ss_commitlog.specs.declared.rule.Item.{Item}
use Rattle.ss_lanes.specs.Lanes.{LaneView, IsSubmitted}
use Rattle.ss_lanes.specs.Mines.{mine_in}

-- the lane has the answers that it had, and knows a list that begins with its old one, with no further entry of its client; faults that
-- it was told of are still those
pub record KeepsAnswers (first : ℕ) (old new : LaneView) : Type 0 where
  pub client_is : new.client ≡ old.client
  pub start_is : new.start ≡ old.start
  pub rest : List Item
  pub begins : new.list ≡ old.list ++ rest
  pub own : mine_in old.client first new.list ≡ mine_in old.client first old.list
  pub seen : old.count ≤ new.count
  pub faults_are : (old.due.faults ≡ 0) ⊎ (old.due.faults ≡ new.due.faults)
  pub answers_are : new.answers ≡ old.answers
  pub spare_is : new.spare ≡ old.spare

-- a request, before which a receipt may have been asked for
pub record HasRequested (first limit : ℕ) (old : LaneView) (what : Asked) (new : LaneView) : Type 0 where
  pub between : LaneView
  pub keeps : KeepsAnswers first old between
  pub submitted : IsSubmitted first limit between what new
