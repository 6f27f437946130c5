-- A lane whose mark came back with a reply of its own, and met the lane's note.
use Rattle.std.proofs.Common.{◌≡◌, ◌≢◌, inl, ℕ, ◌+◌, ◌-◌, ◌<◌, ◌≤◌, List, [], ◌∷◌, ◌++◌, length, refl, sym, ap, ◌∙◌, subst, arith, append-nil, Result, Ok, Err}
use Rattle.std.proofs.lemmas.List.{length_push}
use Rattle.ss_value.specs.Reserved.{ReservedList}
use Rattle.ss_model.specs.declared.catalog.Catalog.{Catalog}
use Rattle.ss_model.specs.declared.entry.Answer.{Answer}
use Rattle.ss_model.specs.declared.entry.Answer.TheVariants as variants
use Rattle.ss_model.specs.declared.entry.Asked.{Asked}
use Rattle.ss_model.specs.declared.entry.Entry.{Entry}
use Rattle.ss_model.specs.Report.{asked_entry}
use Rattle.ss_report_laws.specs.Replies.{listed_at}
use Rattle.ss_commitlog.specs.declared.placed.Placed.{Placed}
use Rattle.ss_commitlog.specs.declared.placed.Unlisted.{Unlisted}
use Rattle.ss_commitlog.specs.declared.placed.Unlisted.TheVariants.{NoMemory, ListFull}
use Rattle.ss_commitlog.specs.declared.role.Role.TheVariants.{Client}
use Rattle.ss_commitlog.specs.declared.rule.Item.{Item}
use Rattle.ss_commitlog.specs.Growing.{GoesOn}
use Rattle.ss_commitlog.specs.Tokens.{Known, Follows, KnowOne}
use Rattle.ss_commitlog.proofs.CallerLemmas.{follows_on, on_and_on, on_longer}
use Rattle.ss_lanes.specs.declared.due.Due.{Due}
use Rattle.ss_lanes.specs.declared.ticket.Ticket.{Ticket}
use Rattle.ss_lanes.specs.Mines.{Mine, mine_in}
use Rattle.ss_lanes.specs.Answered.{answer_of, IsAfter, IsAnswered}
use Rattle.ss_lanes.specs.Dues.{due_after}
use Rattle.ss_lanes.specs.Lanes.{LaneView, lane_view, next_ticket, IsLane, IsRightAnswer, IsSubmitted}
use Rattle.ss_lanes.specs.Owning.{IsOwnSaid, IsOwn}
use Rattle.ss_lanes.specs.Replies.{ReplyView, IsSaid, IsReply}
use Rattle.ss_lanes.proofs.Dues.{due_on}
use Rattle.ss_lanes.proofs.Mines.{mine_own, no_more, just_one}
use Rattle.ss_lanes.proofs.Telling.{few_more}

-- the client's entries in a list that went on, by what was said of what the mark had known
said_after : (first limit : ℕ) (t : Ticket) (due : Due) (what : Asked) (note : Known) (as' : ReservedList Answer) (own new rest : List Item) (count : ℕ) (said : Result Placed Unlisted) → length as'.items ≤ t.index
    → new ≡ note.list ++ rest → length own ≤ length new → length new ≤ limit → mine_in t.client first new ≡ mine_in t.client first own
    → t.count ≡ length (mine_in t.client first note.list) → count ≡ length (mine_in t.client first own) → IsSaid first limit t.client own said → IsOwnSaid t what count said
    → IsAfter (mine_in t.client first note.list) (mine_in t.client first new) said × IsRightAnswer first limit (lane_view t due note as') what new (answer_of said)
said_after first limit t due what note as' own new rest count (Ok p) index is longer short same counted count_is said own_said =
    let many : length (mine_in t.client first new) ≡ length (mine_in t.client first note.list) + 1 = (let a = ap (λ (x : List Mine). length x) same in let b = own_said.0 in omega arith) in
    let o = just_one t.client first new note.list rest is said.0 (p.place, p.listed) many (same ∙ said.1) in
    let number : t.index ≡ t.index - length as'.items + length as'.items = omega (arith, index) in
    ((o.0, said.2), (o.0 ∙ ap (λ (e : Entry). mine_in t.client first note.list ++ listed_at p.place p.listed.outcome e ∷ []) (own_said.1 ∙ ap (λ n. asked_entry t.client n what) number), o.1))
said_after first limit t due what note as' own new rest count (Err NoMemory) index is longer short same counted count_is said own_said =
    let many : length (mine_in t.client first new) ≡ length (mine_in t.client first note.list) = (let a = ap (λ (x : List Mine). length x) same in omega arith) in
    let o = no_more t.client first new note.list rest is many in
    (o, o)
said_after first limit t due what note as' own new rest count (Err (ListFull limit')) index is longer short same counted count_is said own_said =
    let many : length (mine_in t.client first new) ≡ length (mine_in t.client first note.list) = (let a = ap (λ (x : List Mine). length x) same in omega arith) in
    let o = no_more t.client first new note.list rest is many in
    (o, (o, (let b = said.0 in omega arith), said.1))

-- the lane as it is to be answered, and what the answer is worth
pub record Came (catalog : Catalog) (parts clients first limit : ℕ) (t : Ticket) (due : Due) (what : Asked) (note x y : Known) (as' : ReservedList Answer) (said : Result Placed Unlisted) : Type 0 where
  pub answered : IsAnswered clients first t due x y as'.items said
  pub on : GoesOn catalog parts note y
  pub right : IsRightAnswer first limit (lane_view t due note as') what y.list (answer_of said)

-- mark and note of a lane, the note as it was when the reply was taken, the mark that came back, and both after they met
pub came_back : (catalog : Catalog) (parts clients first limit : ℕ) (t : Ticket) (due : Due) (what : Asked) (as' : ReservedList Answer) (mark note awaited x y : Known) (reply : ReplyView)
    → IsLane clients first t due mark note as'.items → (due.faults ≡ 0) × (due.pending < 16) → IsReply first limit reply.ticket reply.mark reply.said → IsOwn t what reply → GoesOn catalog parts note awaited
    → Follows catalog parts limit reply.mark x → Follows catalog parts limit awaited y → KnowOne x y → Came catalog parts clients first limit t due what note x y as' reply.said
came_back catalog parts clients first limit t due what as' mark note awaited x y reply lane going is own on f g one =
    let mark_is : reply.mark.role ≡ Client t.client = is.mark_is ∙ ap Client own.client_is in
    let counted : reply.ticket.count ≡ length (mine_in t.client first reply.mark.list) = is.counted ∙ ap (λ c. length (mine_in c first reply.mark.list)) own.client_is in
    let said_is : IsSaid first limit t.client reply.mark.list reply.said = subst (λ c. IsSaid first limit c reply.mark.list reply.said) own.client_is is.said_is in
    let kept : mine_in t.client first y.list ≡ mine_in t.client first reply.mark.list
    = ap (mine_in t.client first) (sym one.0) ∙ mine_own catalog parts t.client first x.list reply.mark f.goes_on mark_is in
    let further : GoesOn catalog parts note y = on_and_on catalog parts note awaited y on (follows_on catalog parts limit awaited y g) in
    let longer : length reply.mark.list ≤ length y.list = subst (λ (l : List Item). length reply.mark.list ≤ length l) one.0 (on_longer catalog parts x.list reply.mark f.goes_on) in
    let s = said_after first limit t due what note as' reply.mark.list y.list further.on.rest reply.ticket.count reply.said lane.index_is further.on.is longer g.within kept lane.counted counted said_is own.said_is in
    record {
      answered = record {
        client_is = lane.client_is;
        mark_is = f.role ∙ mark_is;
        note_is = further.role ∙ lane.note_is;
        one_list = one.0;
        seen = record { count_is = (let same = one.1.0 in omega arith); faults_are = inl going.0 };
        olds = mine_in t.client first note.list;
        all_told = lane.all_told;
        counted = lane.counted;
        after = s.0;
        index_is = lane.index_is;
        due_is = (let grown = on_longer catalog parts y.list note further.on in let up = further.sees.count in
            due_on (mine_in t.client first note.list) (first + length note.list) (first + length y.list) note.count y.count due as'.items (omega arith) (omega arith) lane.due_is);
        room = (let one_more = few_more reply.said in let few = going.1 in omega arith);
      };
      on = further;
      right = s.1;
    }

-- the lane as it is to be answered where nothing was sent, or came back unsent
pub as_before : (clients first : ℕ) (t : Ticket) (due : Due) (mark note : Known) (as' : List Answer) → IsLane clients first t due mark note as' → IsAnswered clients first t due mark note as' (Err NoMemory)
as_before clients first t due mark note as' lane = record {
  client_is = lane.client_is;
  mark_is = lane.mark_is;
  note_is = lane.note_is;
  one_list = lane.one_list;
  seen = lane.seen;
  olds = mine_in t.client first note.list;
  all_told = lane.all_told;
  counted = lane.counted;
  after = refl;
  index_is = lane.index_is;
  due_is = lane.due_is;
  room = (let few = lane.due_is.few in omega arith);
}

-- the lane with one answer more, as its caller sees it
pub submitted : (catalog : Catalog) (parts first limit : ℕ) (t : Ticket) (due : Due) (what : Asked) (as' : ReservedList Answer) (note y : Known) (old new : LaneView) (said : Result Placed Unlisted)
    → lane_view t due note as' ≡ old → due.faults ≡ 0 → new.client ≡ t.client → new.start ≡ t.index - length as'.items → (new.list ≡ y.list) × (new.count ≡ y.count) → new.due ≡ due_after due (answer_of said)
    → new.answers ≡ as'.items ++ answer_of said ∷ [] → new.spare + 1 ≡ as'.spare → GoesOn catalog parts note y → IsRightAnswer first limit (lane_view t due note as') what y.list (answer_of said)
    → IsSubmitted first limit old what new
submitted catalog parts first limit t due what as' note y old new said was going client start now later answers spare on right =
    subst (λ (o : LaneView). IsSubmitted first limit o what new) was (record {
      client_is = client;
      start_is = start;
      rest = on.on.rest;
      begins = now.0 ∙ on.on.is;
      seen = (let a = now.1 in let b = on.sees.count in omega arith);
      answer = answer_of said;
      answers = answers;
      right = subst (λ (l : List Item). IsRightAnswer first limit (lane_view t due note as') what l (answer_of said)) (sym now.0) right;
      halts = λ some. absurd (some going);
      due_is = later;
      spare_is = spare;
    })

-- the lane that is told again that the disk has failed
pub halted_again : (first limit : ℕ) (t next : Ticket) (due : Due) (what : Asked) (as' more : ReservedList Answer) (note : Known) (old new : LaneView)
    → lane_view t due note as' ≡ old → old.due.faults ≢ 0 → more.items ≡ as'.items ++ variants.Halted due.faults ∷ [] → more.spare + 1 ≡ as'.spare → next ≡ next_ticket t 0 → new ≡ lane_view next due note more
    → IsSubmitted first limit old what new
halted_again first limit t next due what as' more note old new was some answers spare numbers is =
    let failed : due.faults ≢ 0 = subst (λ (o : LaneView). o.due.faults ≢ 0) (sym was) some in
    let index = ap (λ (n : Ticket). n.index) numbers in
    let long = ap (λ (l : List Answer). length l) answers in
    let push = length_push as'.items (variants.Halted due.faults) in
    let submitted : IsSubmitted first limit (lane_view t due note as') what (lane_view next due note more) = record {
      client_is = ap (λ (n : Ticket). n.client) numbers;
      start_is = omega (arith, index, long, push);
      rest = [];
      begins = sym (append-nil note.list);
      seen = omega arith;
      answer = variants.Halted due.faults;
      answers = answers;
      right = (refl, refl, failed);
      halts = λ more. refl;
      due_is = refl;
      spare_is = spare;
    } in
    subst (λ (n : LaneView). IsSubmitted first limit old what n) (sym is) (subst (λ (o : LaneView). IsSubmitted first limit o what (lane_view next due note more)) was submitted)
