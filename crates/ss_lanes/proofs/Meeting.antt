-- A lane between two requests, whose mark has met the disk's note and then its own.
--
-- So both know one list, which has no other entry of the client, and what is said of the disk's numbers is said of what the lane then
-- sees.
use Rattle.std.proofs.Common.{◌≡◌, ◌≢◌, ◌⊎◌, inl, inr, ℕ, ◌+◌, ◌≤◌, List, [], length, refl, sym, ap, ◌∙◌, subst, arith, append-nil, true}
use Rattle.ss_value.specs.Reserved.{ReservedList}
use Rattle.ss_model.specs.declared.catalog.Catalog.{Catalog}
use Rattle.ss_model.specs.declared.entry.Answer.{Answer}
use Rattle.ss_model.specs.declared.entry.Asked.{Asked}
use Rattle.ss_model.specs.Database.{fits_entry}
use Rattle.ss_model.specs.Report.{asked_entry}
use Rattle.ss_commitlog.specs.Tokens.{Known, Follows, KnowOne}
use Rattle.ss_lanes.specs.declared.due.Due.{Due}
use Rattle.ss_lanes.specs.declared.ticket.Ticket.{Ticket}
use Rattle.ss_lanes.specs.Between.{HasRequested, KeepsAnswers}
use Rattle.ss_lanes.specs.Dues.{AllBelow, IsDue, failed_at, receipted}
use Rattle.ss_commitlog.specs.Growing.{GoesOn}
use Rattle.ss_lanes.specs.Lanes.{LaneView, lane_view, HasSeen, IsLane, IsSubmitted}
use Rattle.ss_lanes.specs.Mines.{Mine, mine_in}
use Rattle.ss_lanes.specs.Told.{told, outcomes}
use Rattle.ss_lanes.proofs.Dues.{all_below_on, due_failed, due_on, due_receipted}
use Rattle.ss_commitlog.proofs.CallerLemmas.{follows_on, on_and_on, on_longer}
use Rattle.ss_lanes.proofs.Mines.{mine_own}

-- ---- the lane keeps its answers

pub keeps_itself : (first : ℕ) (lane : LaneView) → KeepsAnswers first lane lane
keeps_itself first lane = record {
  client_is = refl;
  start_is = refl;
  rest = [];
  begins = sym (append-nil lane.list);
  own = refl;
  seen = omega arith;
  faults_are = inr refl;
  answers_are = refl;
  spare_is = refl;
}

-- a request before which no receipt was asked for
pub requested_at_once : (first limit : ℕ) (old : LaneView) (what : Asked) (new : LaneView) → IsSubmitted first limit old what new → HasRequested first limit old what new
requested_at_once first limit old what new is = record { between = old; keeps = keeps_itself first old; submitted = is }

-- ---- mark and note have met

-- the lane's tokens as they were, the mark as it came back from the disk's lock, and both once they have met
module _ (catalog : Catalog) (parts clients first limit : ℕ) (t : Ticket) (due : Due) (mark note shown m n : Known) (as' : ReservedList Answer) (lane : IsLane clients first t due mark note as'.items)
    (going : due.faults ≡ 0) (f : Follows catalog parts limit mark shown) (g : Follows catalog parts limit shown m) (h : Follows catalog parts limit note n) (one : KnowOne m n) where
  mark_on : GoesOn catalog parts mark m
  mark_on = on_and_on catalog parts mark shown m (follows_on catalog parts limit mark shown f) (follows_on catalog parts limit shown m g)

  note_on : GoesOn catalog parts note n
  note_on = follows_on catalog parts limit note n h

  own : mine_in t.client first n.list ≡ mine_in t.client first note.list
  own =
      ap (mine_in t.client first) (sym one.0) ∙ (mine_own catalog parts t.client first m.list mark mark_on.on lane.mark_is ∙ ap (mine_in t.client first) lane.one_list)

  longer : length note.list ≤ length n.list
  longer = on_longer catalog parts n.list note note_on.on

  -- what waited goes on waiting
  still_due : IsDue (mine_in t.client first n.list) (first + length n.list) n.count due as'.items
  still_due =
      let long = longer in
      let up = note_on.sees.count in
      subst (λ (ps : List Mine). IsDue ps (first + length n.list) n.count due as'.items) (sym own)
      (due_on (mine_in t.client first note.list) (first + length note.list) (first + length n.list) note.count n.count due as'.items (omega arith) (omega arith) lane.due_is)

  lane_with : (later : Due) → HasSeen n.count later m → IsDue (mine_in t.client first n.list) (first + length n.list) n.count later as'.items → IsLane clients first t later m n as'.items
  lane_with later seen is = record {
    client_is = lane.client_is;
    mark_is = mark_on.role ∙ lane.mark_is;
    note_is = note_on.role ∙ lane.note_is;
    one_list = one.0;
    seen = seen;
    all_told = ap outcomes own ∙ lane.all_told;
    counted = lane.counted ∙ sym (ap (λ (ps : List Mine). length ps) own);
    index_is = lane.index_is;
    due_is = is;
  }

  sees : (later : Due) → later.faults ≡ 0 → HasSeen n.count later m
  sees later none = record { count_is = (let same = one.1.0 in omega arith); faults_are = inl none }

  -- the lane as it is where nothing was changed
  pub lane_met : IsLane clients first t due m n as'.items
  lane_met = lane_with due (sees due going) still_due

  -- and where there is a receipt
  module _ (receipt : ℕ) (covers : due.above ≤ receipt) (is : receipt ≡ shown.count) where
    seen_now : receipt ≤ n.count
    seen_now = let up = g.sees.count in let same = one.1.0 in omega arith

    pub lane_receipted : IsLane clients first t (receipted due) m n as'.items
    lane_receipted = lane_with (receipted due) (sees (receipted due) going)
        (due_receipted (mine_in t.client first n.list) (first + length n.list) n.count due as'.items receipt (ap outcomes own ∙ lane.all_told) covers seen_now still_due)

    pub covers_all : AllBelow receipt (told as'.items)
    covers_all = all_below_on due.above receipt covers (told as'.items) lane.due_is.below

    pub receipt_seen : receipt ≤ n.count
    receipt_seen = seen_now

  -- the lane as its caller sees it
  pub keeps_met : (later : Due) (old : LaneView) → lane_view t due note as' ≡ old → KeepsAnswers first old (lane_view t later n as')
  keeps_met later old was = subst (λ (o : LaneView). KeepsAnswers first o (lane_view t later n as')) was (record {
    client_is = refl;
    start_is = refl;
    rest = note_on.on.rest;
    begins = note_on.on.is;
    own = own;
    seen = note_on.sees.count;
    faults_are = inl going;
    answers_are = refl;
    spare_is = refl;
  })

-- the next request has the same number, once the lane has asked for a receipt
pub same_number : (first : ℕ) (old new : LaneView) → KeepsAnswers first old new → new.start + length new.answers ≡ old.start + length old.answers
same_number first old new keeps = let start = keeps.start_is in let many = ap (λ (l : List Answer). length l) keeps.answers_are in omega (arith, start, many)

-- what a request needs, once the lane has asked for a receipt
pub fits_on : (catalog : Catalog) (first : ℕ) (old new : LaneView) (what : Asked) → KeepsAnswers first old new → fits_entry catalog (asked_entry old.client (old.start + length old.answers) what) ≡ true
    → fits_entry catalog (asked_entry new.client (new.start + length new.answers) what) ≡ true
fits_on catalog first old new what keeps fits =
    ap (λ c. fits_entry catalog (asked_entry c (new.start + length new.answers) what)) keeps.client_is
    ∙ (ap (λ n. fits_entry catalog (asked_entry old.client n what)) (same_number first old new keeps) ∙ fits)

-- the lane that is told at which faults the disk has failed
pub lane_failed : (clients first : ℕ) (t : Ticket) (due : Due) (mark note saw : Known) (as' : List Answer) (count faults : ℕ) → IsLane clients first t due mark note as' → due.faults ≡ 0 → mark.faults ≢ 0
    → saw.role ≡ mark.role → saw.list ≡ mark.list → saw.count ≡ count → saw.faults ≡ faults → mark.count ≤ count → (mark.faults ≡ 0) ⊎ (mark.faults ≡ faults) → IsLane clients first t (failed_at faults due) saw note as'
lane_failed clients first t due mark note saw as' count faults lane going failed role list count_is faults_are more or = record {
  client_is = lane.client_is;
  mark_is = role ∙ lane.mark_is;
  note_is = lane.note_is;
  one_list = list ∙ lane.one_list;
  seen = record { count_is = (let a = lane.seen.count_is in omega arith); faults_are = inr (sym faults_are) };
  all_told = lane.all_told;
  counted = lane.counted;
  index_is = lane.index_is;
  due_is = due_failed (mine_in t.client first note.list) (first + length note.list) note.count due as' faults going lane.due_is;
}

-- faults that were posted, some of which were seen
pub some_faults : (mark : Known) (faults : ℕ) → mark.faults ≢ 0 → (mark.faults ≡ 0) ⊎ (mark.faults ≡ faults) → faults ≢ 0
some_faults mark faults failed (inl none) = absurd (failed none)
some_faults mark faults failed (inr same) = λ none. failed (same ∙ none)
