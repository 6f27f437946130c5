-- Lanes that are taken apart, and what a list has of each that goes on from what their marks know.
use Rattle.std.proofs.Common.{◌≡◌, ◌≤◌, ◌⊎◌, inl, inr, ⊎_elim, ℕ, zero, suc, List, [], ◌∷◌, ◌++◌, map, length, slice_get, Some, refl, sym, ap, ◌∙◌, subst, arith, append_assoc, append-nil, length-append}
use Rattle.std.proofs.lemmas.List.{map-append}
use Rattle.std.proofs.lemmas.Option.{slice_get-map}
use Rattle.std.specs.Option.{option_map}
use Rattle.ss_value.specs.Reserved.{ReservedList}
use Rattle.ss_model.specs.declared.catalog.Catalog.{Catalog}
use Rattle.ss_model.specs.declared.entry.Answer.{Answer}
use Rattle.ss_report_laws.specs.Replies.{mine}
use Rattle.ss_commitlog.specs.declared.role.Role.TheVariants.{Client}
use Rattle.ss_commitlog.specs.declared.rule.Item.{Item}
use Rattle.ss_commitlog.specs.Meaning.{listed_of}
use Rattle.ss_commitlog.specs.Roles.{In}
use Rattle.ss_commitlog.specs.Tokens.{Known, AllContinue, AllSaw}
use Rattle.ss_commitlog.proofs.CallerLemmas.{in_left, length-listed_of, listed_of-append}
use Rattle.ss_lanes.specs.declared.due.Due.{Due}
use Rattle.ss_lanes.specs.declared.ticket.Ticket.{Ticket}
use Rattle.ss_lanes.specs.Apart.{AreMarksOf, IsMarkOf, IsOfLane}
use Rattle.ss_lanes.specs.Dues.{FewOpen}
use Rattle.ss_lanes.specs.Lanes.{LaneView, lane_view, HasSeen, IsLane}
use Rattle.ss_lanes.specs.Mines.{Mine, mine_in}
use Rattle.ss_lanes.proofs.Dues.{all_still_halted, few_open_on}
use Rattle.ss_lanes.proofs.Mines.{mine_own}

one_mark : (first : ℕ) (lanes : List LaneView) (ms : List Known) (lane : LaneView) (m : Known) → AreMarksOf first lanes ms → IsMarkOf first lane m → AreMarksOf first (lanes ++ lane ∷ []) (ms ++ m ∷ [])
one_mark first [] [] lane m are is = (is, tt)
one_mark first [] (k ∷ ks) lane m are is = absurd are
one_mark first (l ∷ ls) [] lane m are is = absurd are
one_mark first (l ∷ ls) (k ∷ ks) lane m are is = (are.0, one_mark first ls ks lane m are.1 is)

-- the lanes so far, with the marks and the answers that were taken of them
pub record AreApart (first : ℕ) (lanes left : List LaneView) (marks : List Known) (answers : List (List Answer)) : Type 0 where
  pub front : List LaneView
  pub is : lanes ≡ front ++ left
  pub marks_are : AreMarksOf first front marks
  pub answers_are : answers ≡ map (λ (lane : LaneView). lane.answers) front

pub none_apart : (first : ℕ) (lanes : List LaneView) → AreApart first lanes lanes [] []
none_apart first lanes = record { front = []; is = refl; marks_are = tt; answers_are = refl }

-- one lane more
pub one_apart : (first : ℕ) (lanes olds left : List LaneView) (lane : LaneView) (marks new_marks : List Known) (answers new_answers : List (List Answer)) (m : Known) (replies : List Answer) → AreApart first lanes olds marks answers → olds ≡ lane ∷ left
    → new_marks ≡ marks ++ m ∷ [] → new_answers ≡ answers ++ replies ∷ [] → IsMarkOf first lane m → replies ≡ lane.answers → AreApart first lanes left new_marks new_answers
one_apart first lanes olds left lane marks new_marks answers new_answers m replies so is a b of same = record {
  front = so.front ++ lane ∷ [];
  is = so.is ∙ (ap (λ (l : List LaneView). so.front ++ l) is ∙ sym (append_assoc so.front (lane ∷ []) left));
  marks_are = subst (λ (ks : List Known). AreMarksOf first (so.front ++ lane ∷ []) ks) (sym a) (one_mark first so.front marks lane m so.marks_are of);
  answers_are = b ∙ (ap (λ (xs : List (List Answer)). xs ++ replies ∷ []) so.answers_are ∙ (ap (λ (x : List Answer). map (λ (lane : LaneView). lane.answers) so.front ++ x ∷ []) same
      ∙ sym (map-append (λ (lane : LaneView). lane.answers) so.front (lane ∷ []))));
}

-- all are apart
pub all_apart : (first : ℕ) (lanes : List LaneView) (marks : List Known) (answers : List (List Answer)) → AreApart first lanes [] marks answers → AreMarksOf first lanes marks × (answers ≡ map (λ (lane : LaneView). lane.answers) lanes)
all_apart first lanes marks answers so =
    let same : lanes ≡ so.front = so.is ∙ append-nil so.front in
    (subst (λ (l : List LaneView). AreMarksOf first l marks) (sym same) so.marks_are, so.answers_are ∙ ap (map (λ (lane : LaneView). lane.answers)) (sym same))

-- what is taken of one lane
pub of_one_lane : (clients first : ℕ) (ticket : Ticket) (due : Due) (mark note : Known) (answers : ReservedList Answer) (lane : LaneView) → IsLane clients first ticket due mark note answers.items
    → lane_view ticket due note answers ≡ lane → IsMarkOf first lane mark × (answers.items ≡ lane.answers)
of_one_lane clients first ticket due mark note answers lane is view = (
  subst (λ (l : LaneView). IsMarkOf first l mark) view (record { role = is.mark_is; list_is = is.one_list; seen = is.seen; due_is = is.due_is }),
  ap (λ (l : LaneView). l.answers) view,
)

-- ---- a list that goes on from what the marks know

-- the mark of a lane among those of all
mark_at : (first : ℕ) (lanes : List LaneView) (ms : List Known) → AreMarksOf first lanes ms → (k : ℕ) (lane : LaneView) → slice_get lanes k ≡ Some lane → (m : Known) × In m ms × IsMarkOf first lane m
mark_at first [] ms are k lane is = absurd (cc)
mark_at first (x ∷ xs) [] are k lane is = absurd are
mark_at first (x ∷ xs) (m ∷ ms) are zero lane is =
    let same : x ≡ lane = cc in
    (m, inl refl, subst (λ (l : LaneView). IsMarkOf first l m) same are.0)
mark_at first (x ∷ xs) (m ∷ ms) are (suc k) lane is = let (y, there, of) = mark_at first xs ms are.1 k lane is in (y, inr there, of)

-- what a lane has seen, the disk's token holds
seen_by_disk : (count : ℕ) (due : Due) (m disk : Known) → HasSeen count due m → (m.count ≤ disk.count) × ((m.faults ≡ 0) ⊎ (m.faults ≡ disk.faults)) → HasSeen count due disk
seen_by_disk count due m disk seen saw = record {
  count_is = (let a = seen.count_is in let b = saw.0 in omega arith);
  faults_are = ⊎_elim (λ (none : due.faults ≡ 0). inl none)
      (λ (same : due.faults ≡ m.faults). ⊎_elim (λ (none : m.faults ≡ 0). inl (same ∙ none)) (λ (posted : m.faults ≡ disk.faults). inr (same ∙ posted)) saw.1) seen.faults_are;
}

-- what a list has of a lane, where all marks of lanes know a beginning of it
pub of_lane : (catalog : Catalog) (n first : ℕ) (disk : Known) (lanes : List LaneView) (ms rest : List Known) (list : List Item) (answers : List (List Answer)) → AreMarksOf first lanes ms → AllContinue catalog n list (ms ++ rest) → AllSaw disk (ms ++ rest)
    → answers ≡ map (λ (l : LaneView). l.answers) lanes → (k : ℕ) (lane : LaneView) → slice_get lanes k ≡ Some lane → lane.client ≡ k → IsOfLane first k disk lane (listed_of list) answers
of_lane catalog n first disk lanes ms rest list answers are on saw is k lane there client =
    let (m, in_ms, of) = mark_at first lanes ms are k lane there in
    let among = in_left m ms rest in_ms in
    let b = on m among in
    let whole : list ≡ lane.list ++ b.rest = b.is ∙ ap (λ (l : List Item). l ++ b.rest) of.list_is in
    let seen = seen_by_disk lane.count lane.due m disk of.seen (saw m among) in
    let own : mine k first (listed_of list) ≡ mine_in k first lane.list = mine_own catalog n k first list m b (of.role ∙ ap Client client) ∙ ap (mine_in k first) of.list_is in
    let entries : mine_in lane.client first lane.list ≡ mine k first (listed_of list) = ap (λ c. mine_in c first lane.list) client ∙ sym own in
    record {
      rest = listed_of b.rest;
      begins = ap listed_of whole ∙ listed_of-append lane.list b.rest;
      longer = (let a = ap (λ (l : List Item). length l) whole in let d = length-append lane.list b.rest in let e = length-listed_of list in omega arith);
      own = own;
      answers_are = ap (λ (xs : List (List Answer)). slice_get xs k) is ∙ (slice_get-map (λ (l : LaneView). l.answers) lanes k ∙ ap (option_map (λ (l : LaneView). l.answers)) there);
      seen = seen;
      few_open = few_open_on (mine k first (listed_of list)) lane.count disk.count lane.due.pending 16 seen.count_is of.due_is.few
          (subst (λ (ps : List Mine). FewOpen ps lane.count lane.due.pending) entries of.due_is.few_open);
      halted = all_still_halted lane.due.faults disk.faults seen.faults_are lane.answers of.due_is.halted;
    }

-- as many marks as lanes
pub lane_marks : (first : ℕ) (lanes : List LaneView) (ms : List Known) → AreMarksOf first lanes ms → length ms ≡ length lanes
lane_marks first [] [] are = refl
lane_marks first [] (m ∷ ms) are = absurd are
lane_marks first (x ∷ xs) [] are = absurd are
lane_marks first (x ∷ xs) (m ∷ ms) are = ap suc (lane_marks first xs ms are.1)
