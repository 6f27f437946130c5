-- A lane with one answer more.
use Rattle.std.proofs.Common.{◌≡◌, ◌≢◌, ◌⊎◌, ℕ, suc, ◌+◌, ◌<◌, ◌≤◌, ◌^◌, List, [], ◌∷◌, ◌++◌, length, refl, sym, ap, subst, ◌∙◌, arith, IfSome, Result, Ok, Err}
use Rattle.std.proofs.lemmas.List.{map-append, length_push}
use Rattle.ss_value.specs.Reserved.{ReservedList}
use Rattle.ss_model.specs.declared.entry.Answer.{Answer}
use Rattle.ss_model.specs.declared.entry.Answer.TheVariants as variants
use Rattle.ss_model.specs.declared.entry.Outcome.{Outcome}
use Rattle.ss_commitlog.specs.declared.placed.Placed.{Placed}
use Rattle.ss_commitlog.specs.declared.placed.Unlisted.{Unlisted}
use Rattle.ss_commitlog.specs.declared.placed.Unlisted.TheVariants.{NoMemory, ListFull}
use Rattle.ss_commitlog.specs.Meaning.{listed_of}
use Rattle.ss_commitlog.specs.Roles.{In}
use Rattle.ss_commitlog.specs.Tokens.{Known}
use Rattle.ss_commitlog.proofs.CallerLemmas.{length-listed_of}
use Rattle.ss_lanes.specs.declared.due.Due.{Due}
use Rattle.ss_lanes.specs.declared.ticket.Ticket.{Ticket}
use Rattle.ss_lanes.specs.Mines.{Mine, mine_in}
use Rattle.ss_lanes.specs.Told.{told, outcomes, outcome_at}
use Rattle.ss_lanes.specs.Answered.{answer_of, IsAfter, IsAnswered}
use Rattle.ss_lanes.specs.Dues.{IsDue, due_after, place_of}
use Rattle.ss_lanes.specs.Lanes.{LaneView, IsLane, lane_view, next_ticket}
use Rattle.ss_lanes.specs.Replies.{more_entries}
use Rattle.ss_lanes.proofs.Dues.{due_halted, due_more, told_same, told_with}
use Rattle.ss_lanes.proofs.Mines.{mine_below}

told_shorter : (xs : List Answer) → length (told xs) ≤ length xs
told_shorter [] = omega arith
told_shorter (variants.Listed place outcome ∷ xs) = let a = told_shorter xs in omega arith
told_shorter (variants.NoMemory ∷ xs) = let a = told_shorter xs in omega arith
told_shorter (variants.ListFull count ∷ xs) = let a = told_shorter xs in omega arith
told_shorter (variants.Halted faults ∷ xs) = let a = told_shorter xs in omega arith

length-outcomes : (xs : List Mine) → length (outcomes xs) ≡ length xs
length-outcomes [] = refl
length-outcomes (x ∷ xs) = ap suc (length-outcomes xs)

pub few_more : (said : Result Placed Unlisted) → more_entries said ≤ 1
few_more (Ok p) = omega arith
few_more (Err why) = omega arith

-- no answer tells the client of other faults
pub same_faults : (due : Due) (a : Answer) → (due_after due a).faults ≡ due.faults
same_faults due (variants.Listed place outcome) = refl
same_faults due variants.NoMemory = refl
same_faults due (variants.ListFull count) = refl
same_faults due (variants.Halted faults) = refl

-- at most as many were listed as there are answers
pub listed_few : (count : ℕ) (entries : List Mine) (as' : List Answer) → count ≡ length entries → outcomes entries ≡ told as' → count ≤ length as'
listed_few count entries as' counted all =
    let few = told_shorter as' in
    let same = ap (λ (l : List (ℕ × Outcome)). length l) all in
    let many = length-outcomes entries in
    omega arith

-- the number of a lane's next request, as its caller sees it
pub next_number : (t : Ticket) (due : Due) (note : Known) (as' : ReservedList Answer) (lane : LaneView) → lane_view t due note as' ≡ lane → length as'.items ≤ t.index → t.index ≡ lane.start + length lane.answers
next_number t due note as' lane view within =
    let start = ap (λ (l : LaneView). l.start) view in
    let many = ap (λ (l : LaneView). length l.answers) view in
    omega (arith, start, many, within)

-- the client's entries, and the answers that tell of them
pub record Tells (olds news : List Mine) (as' : List Answer) (said : Result Placed Unlisted) : Type 0 where
  pub told_is : outcomes news ≡ told (as' ++ answer_of said ∷ [])
  pub many : length news ≡ length olds + more_entries said

pub tells : (olds news : List Mine) (as' : List Answer) (said : Result Placed Unlisted) → outcomes olds ≡ told as' → IsAfter olds news said → Tells olds news as' said
tells olds news as' (Ok p) all after = record {
  told_is = ap outcomes after.0 ∙ (map-append outcome_at olds ((p.place, p.listed) ∷ []) ∙ (ap (λ (x : List (ℕ × Outcome)). x ++ (p.place, p.listed.outcome) ∷ []) all ∙ sym (told_with as' (variants.Listed p.place p.listed.outcome))));
  many = ap (λ (x : List Mine). length x) after.0 ∙ length_push olds (p.place, p.listed);
}
tells olds news as' (Err NoMemory) all after = record {
  told_is = ap outcomes after ∙ (all ∙ sym (told_same as' variants.NoMemory refl));
  many = (let e = ap (λ (x : List Mine). length x) after in omega arith);
}
tells olds news as' (Err (ListFull count)) all after = record {
  told_is = ap outcomes after ∙ (all ∙ sym (told_same as' (variants.ListFull count) refl));
  many = (let e = ap (λ (x : List Mine). length x) after in omega arith);
}

longer_by_one : (t : Ticket) (as' news : List Answer) (a : Answer) → news ≡ as' ++ a ∷ [] → length as' ≤ t.index → length news ≤ t.index + 1
longer_by_one t as' news a is within = let long = ap (λ (l : List Answer). length l) is in let push = length_push as' a in omega (arith, long, push, within)

-- the lane with one answer more, whose ticket has the numbers of the next request
pub lane_more : (clients first : ℕ) (t : Ticket) (due : Due) (mark note : Known) (as' : List Answer) (said : Result Placed Unlisted) (more : ℕ) (news : List Answer) → IsAnswered clients first t due mark note as' said
    → more ≡ more_entries said → news ≡ as' ++ answer_of said ∷ []
    → IsLane clients first (next_ticket t more) (due_after due (answer_of said)) mark note news
lane_more clients first t due mark note as' said more news a more_is news_is =
    let mine = mine_in t.client first note.list in
    let u = tells a.olds mine as' said a.all_told a.after in
    let end : ℕ = first + length note.list in
    let within : (p : Mine) → In p mine → p.0 < end = λ p i. (let b = mine_below t.client first (listed_of note.list) p i in let l = length-listed_of note.list in omega arith) in
    record {
      client_is = a.client_is;
      mark_is = a.mark_is;
      note_is = a.note_is;
      one_list = a.one_list;
      seen = record { count_is = a.seen.count_is; faults_are = subst (λ (f : ℕ). (f ≡ 0) ⊎ (f ≡ mark.faults)) (sym (same_faults due (answer_of said))) a.seen.faults_are };
      all_told = u.told_is ∙ ap told (sym news_is);
      counted = (let m = u.many in let n = a.counted in omega arith);
      index_is = longer_by_one t as' news (answer_of said) news_is a.index_is;
      due_is = subst (λ (l : List Answer). IsDue mine end note.count (due_after due (answer_of said)) l) (sym news_is) (due_more a.olds mine end note.count due as' said a.due_is a.after a.room within);
    }

-- where what was said tells of a place, it is small
pub small_place : (clients first : ℕ) (t : Ticket) (due : Due) (mark note : Known) (as' : List Answer) (said : Result Placed Unlisted) → IsAnswered clients first t due mark note as' said → IfSome (place_of (answer_of said)) (λ place. place < 2 ^ 60)
small_place clients first t due mark note as' (Ok p) a = a.after.1
small_place clients first t due mark note as' (Err NoMemory) a = tt
small_place clients first t due mark note as' (Err (ListFull count)) a = tt

-- the lane that is told again that the disk has failed
pub lane_halted : (clients first : ℕ) (t : Ticket) (due : Due) (mark note : Known) (as' news : List Answer) → IsLane clients first t due mark note as' → due.faults ≢ 0 → news ≡ as' ++ variants.Halted due.faults ∷ []
    → IsLane clients first (next_ticket t 0) due mark note news
lane_halted clients first t due mark note as' news lane some news_is = record {
  client_is = lane.client_is;
  mark_is = lane.mark_is;
  note_is = lane.note_is;
  one_list = lane.one_list;
  seen = lane.seen;
  all_told = lane.all_told ∙ (sym (told_same as' (variants.Halted due.faults) refl) ∙ ap told (sym news_is));
  counted = (let n = lane.counted in omega arith);
  index_is = longer_by_one t as' news (variants.Halted due.faults) news_is lane.index_is;
  due_is = due_halted (mine_in t.client first note.list) (first + length note.list) note.count due as' news some news_is lane.due_is;
}
