-- Checkpoints of what all partitions have in hand, and a lane that asks for one.
use Rattle.std.proofs.Common.{◌≡◌, ◌≢◌, ⊎_elim, inl, inr, ◌≤◌, ◌<◌, ◌+◌, ◌-◌, nat_lt, true, ℕ, List, [], ◌∷◌, ◌++◌, append_assoc, length, Option, Some, Result, Ok, Err, refl, sym, ap, ◌∙◌, subst, arith}
use Rattle.std.specs.List.{AllByRecursion}
use Rattle.std.proofs.lemmas.Bool.{ltb-true}
use Rattle.ss_value.specs.Reserved.{ReservedList}
use Rattle.ss_model.specs.declared.catalog.Catalog.{Catalog}
use Rattle.ss_model.specs.declared.entry.Answer.{Answer}
use Rattle.ss_model.specs.declared.entry.Asked.{Asked}
use Rattle.ss_model.specs.Accepted.{Accepted}
use Rattle.ss_model.specs.Database.{Database}
use Rattle.ss_model.specs.Replays.{after}
use Rattle.ss_stream.specs.OfDatabase.{AreStreamsOf}
use Rattle.ss_stream.specs.Pending.{Pending}
use Rattle.ss_shard.specs.Parts.{all_partitions}
use Rattle.ss_commitlog.specs.declared.rule.Item.{Item}
use Rattle.ss_commitlog.specs.Growing.{GoesOn}
use Rattle.ss_commitlog.specs.Meaning.{listed_of}
use Rattle.ss_commitlog.specs.Reading.{AreKnownStreams}
use Rattle.ss_commitlog.specs.Roles.{In}
use Rattle.ss_commitlog.specs.Tokens.{Known, AllKnow, Follows, KnowOne, Knows, MeetAll, Met}
use Rattle.ss_commitlog.proofs.CallerLemmas.{follows_on, on_and_on, on_itself, on_longer}
use Rattle.ss_receipts.specs.declared.durable.DurableError.{DurableError}
use Rattle.ss_receipts.specs.declared.durable.DurableError.TheVariants.{NoMemory, DiskFault, Halted}
use Rattle.ss_receipts.specs.Checkpointing.{AllAt, IsCheckpointed, StandAt}
use Rattle.ss_hand.specs.declared.hand.Hand.{Hand}
use Rattle.ss_hand.specs.Hands.{IsInHand}
use Rattle.ss_lanes.specs.declared.due.Due.{Due}
use Rattle.ss_lanes.specs.declared.ticket.Ticket.{Ticket}
use Rattle.ss_lanes.specs.Dues.{failed_at}
use Rattle.ss_lanes.specs.Between.{HasRequested, KeepsAnswers}
use Rattle.ss_lanes.specs.Lanes.{IsLane, LaneView, lane_view}
use Rattle.ss_lanes.specs.Mines.{mine_in}
use Rattle.ss_lanes.proofs.CallerLemmas.{keeps_itself, keeps_met, lane_met}
use Rattle.ss_turns.proofs.CallerLemmas.{all_met, looked_in_hand}
use Rattle.ss_engine.specs.Assured.{AsksForReceipt, with_faults}
use Rattle.ss_engine.specs.Checkpoints.{AsksForCheckpoint, IsCheckpointedBehind, IsCheckpointedInHand}
use Rattle.ss_engine.proofs.HandedOver.{whole_holds}
use Rattle.ss_engine.proofs.LanesAssured.{asks_failed}
use Rattle.ss_engine.proofs.Touching.{of_mark, some_mark}

-- ---- marks that came to know a list

known_by : (list : List Item) (ks ls : List Known) → AllKnow list ks ls → AllAt list ls
known_by list [] [] know l i = absurd i
known_by list [] (x ∷ ls) know l i = absurd know
known_by list (k ∷ ks) [] know l i = absurd know
known_by list (k ∷ ks) (x ∷ ls) know l i = ⊎_elim (λ (e : l ≡ x). ap (λ (y : Known). y.list) e ∙ know.0.list_is) (λ j. known_by list ks ls know.1 l j) i

-- what a mark became
became : (list : List Item) (ks ls : List Known) → AllKnow list ks ls → (k : Known) → In k ks → (l : Known) × In l ls × Knows list k l
became list [] [] know k i = absurd i
became list [] (x ∷ ls) know k i = absurd know
became list (x ∷ ks) [] know k i = absurd know
became list (x ∷ ks) (y ∷ ls) know k i =
    ⊎_elim (λ (e : k ≡ x). (y, inl refl, subst (λ (z : Known). Knows list z y) (sym e) know.0)) (λ j. let (l, there, is) = became list ks ls know.1 k j in (l, inr there, is)) i

-- ---- all partitions in hand

module _ {I : Type 0} (catalog : Catalog) (accepted : Accepted catalog) (n : ℕ) (some : 1 ≤ n) (limit : ℕ) (db : Database) where
  -- they are still, once their marks have met
  pub all_still : (hand : Hand I) (ls : List Known) → MeetAll catalog n limit hand.marks ls → IsInHand catalog n db (all_partitions n) hand → IsInHand catalog n db (all_partitions n) (record hand { marks = ls })
  all_still hand ls (list, within, know, on) in_hand = looked_in_hand catalog accepted n some db (all_partitions n) hand ls (all_met catalog n list hand.marks ls know on) in_hand

  -- and once a note has met them
  pub all_shown : (hand : Hand I) (ls : List Known) (note new : Known) → Met catalog n limit hand.marks note ls new → IsInHand catalog n db (all_partitions n) hand → IsInHand catalog n db (all_partitions n) (record hand { marks = ls })
  all_shown hand ls note new met in_hand = looked_in_hand catalog accepted n some db (all_partitions n) hand ls (all_met catalog n new.list hand.marks ls met.know met.go_on) in_hand

  module _ (hand : Hand I) (ls : List Known) (met : MeetAll catalog n limit hand.marks ls) (in_hand : IsInHand catalog n db (all_partitions n) hand) where
    list : List Item
    list = met.0

    -- their shard, with the streams behind that list
    pub all_stand : (streams : List Pending) → AreKnownStreams catalog db ls streams → (l : List Item) × StandAt catalog db ls l hand.shard streams
    all_stand streams are =
        let (k, there) = some_mark catalog n db (all_partitions n) (record hand { marks = ls }) (all_still hand ls met in_hand) in
        let same : k.list ≡ met.0 = known_by met.0 hand.marks ls met.2 k there in (
          met.0,
          record {
            known = known_by met.0 hand.marks ls met.2;
            of = record {
              committed = in_hand.parts.committed;
              holds = whole_holds catalog accepted n some db hand met.0 in_hand met.3;
              streams_are = subst (λ (l : List Item). AreStreamsOf catalog (after catalog db (listed_of l)) streams) same (are k there);
            };
          },
        )

    -- the image is of a list that goes on from what they knew
    pub all_checkpointed : (first : ℕ) (ms : List Known) (answer : Result ℕ DurableError)
        → ((l : List Item) → AllAt l ls → (k : Known) → In k ms → IsCheckpointed (first + length l) k.faults answer) → IsCheckpointedInHand first hand.marks ms answer
    all_checkpointed first ms answer right = record {
      end = first + length met.0;
      behind = λ k i. (let long = on_longer catalog n met.0 k (met.3 k i) in omega (arith, long));
      answer_is = right met.0 (known_by met.0 hand.marks ls met.2);
    }

-- ---- a note that met them

module _ {I : Type 0} (catalog : Catalog) (n : ℕ) (limit : ℕ) (db : Database) (first : ℕ) (old note : Known) (on : GoesOn catalog n old note) (hand kept : Hand I) (ms : List Known) (new : Known)
    (in_hand : IsInHand catalog n db (all_partitions n) hand) (know_one : AllByRecursion (λ (k : Known). k.list ≡ note.list) hand.marks)
    (then_in_hand : IsInHand catalog n db (all_partitions n) kept) (met : Met catalog n limit kept.marks note ms new) where
  pub note_on : GoesOn catalog n old new
  note_on = on_and_on catalog n old note new on (follows_on catalog n limit note new met.follows)

  pub note_checkpointed : (answer : Result ℕ DurableError) → IsCheckpointedInHand first hand.marks kept.marks answer → IsCheckpointedBehind first old new answer
  note_checkpointed answer is =
      let (k, there) = some_mark catalog n db (all_partitions n) hand in_hand in
      let (m, m_there) = some_mark catalog n db (all_partitions n) kept then_in_hand in
      let (l, l_there, knows) = became new.list kept.marks ms met.know m m_there in
      let same : k.list ≡ note.list = of_mark (λ (x : Known). x.list ≡ note.list) hand.marks k know_one there in
      let long = on_longer catalog n note.list old on.on in
      let lengths : length k.list ≡ length note.list = ap (λ (x : List Item). length x) same in
      let behind = is.behind k there in
      let up = knows.sees.faults in
      let one = (met.see l l_there).1 in
      record {
        end = is.end;
        fault = m.faults;
        behind = omega (arith, long, lengths, behind);
        answer_is = is.answer_is m m_there;
        seen = omega (arith, up, one);
      }

-- there was no memory to take them
pub none_made : (first : ℕ) (old new : Known) → IsCheckpointedBehind first old new (Err NoMemory)
none_made first old new = record { end = first + length old.list; fault = 0; behind = omega arith; answer_is = tt; seen = omega arith }

-- ---- a lane

-- what a lane keeps it keeps on
keeps_twice : (first : ℕ) (a b c : LaneView) → KeepsAnswers first a b → KeepsAnswers first b c → KeepsAnswers first a c
keeps_twice first a b c f g = record {
  client_is = g.client_is ∙ f.client_is;
  start_is = g.start_is ∙ f.start_is;
  rest = f.rest ++ g.rest;
  begins = g.begins ∙ (ap (λ (l : List Item). l ++ g.rest) f.begins ∙ append_assoc a.list f.rest g.rest);
  own = subst (λ (k : ℕ). mine_in k first c.list ≡ mine_in k first b.list) f.client_is g.own ∙ f.own;
  seen = (let m = f.seen in let n = g.seen in omega arith);
  faults_are = ⊎_elim (λ (none : a.due.faults ≡ 0). inl none) (λ (same : a.due.faults ≡ b.due.faults). ⊎_elim (λ (none : b.due.faults ≡ 0). inl (same ∙ none)) (λ (on : b.due.faults ≡ c.due.faults). inr (same ∙ on)) g.faults_are) f.faults_are;
  answers_are = g.answers_are ∙ f.answers_are;
  spare_is = g.spare_is ∙ f.spare_is;
}

-- a request, once a checkpoint was asked for
pub requested_later : (first limit : ℕ) (old mid new : LaneView) (what : Asked) → KeepsAnswers first old mid → HasRequested first limit mid what new → HasRequested first limit old what new
requested_later first limit old mid new what keeps is = record { between = is.between; keeps = keeps_twice first old mid is.between keeps is.keeps; submitted = is.submitted }

-- no checkpoint is due
pub asks_near : (first : ℕ) (every : Option ℕ) (lane : LaneView) (begun : ℕ) → ((k : ℕ) → every ≡ Some k → lane.due.above < begun + k) → AsksForCheckpoint first every lane lane (Ok begun)
asks_near first every lane begun near = record { keeps = keeps_itself first lane; answer_is = (refl, near) }

-- by how far the lane has come
pub stands_near : (every : Option ℕ) (k begun above : ℕ) → every ≡ Some k → 1 ≤ k → nat_lt (above - begun) k ≡ true → (j : ℕ) → every ≡ Some j → above < begun + j
stands_near every k begun above is some near j also =
    let low : above - begun < k = ltb-true (above - begun) k near in
    let same : k ≡ j = same_some (sym is ∙ also) in
    omega (arith, low, same, some)
  where
    same_some : Some k ≡ Some j → k ≡ j
    same_some e = cc

-- where a receipt would be refused so, a checkpoint is
pub asks_refused : (first : ℕ) (every : Option ℕ) (old new : LaneView) (e : DurableError) → AsksForReceipt first old new (Err e) → AsksForCheckpoint first every old new (Err e)
asks_refused first every old new e asked = record { keeps = asked.keeps; answer_is = asked.answer_is }

-- what a refusal that isn't want of memory tells
pub refused_so : (first : ℕ) (old new : Known) (e : DurableError) → (e ≡ NoMemory → ⊥) → IsCheckpointedBehind first old new (Err e) → new.faults ≢ 0
refused_so first old new e other is none = some e other is.answer_is
  where
    some : (x : DurableError) → (x ≡ NoMemory → ⊥) → IsCheckpointed is.end is.fault (Err x) → ⊥
    some NoMemory apart right = apart refl
    some DiskFault apart right = (let up = is.seen in right (omega (arith, up, none)))
    some (Halted faults) apart right = (let up = is.seen in right.0 (omega (arith, up, none)))

-- the lane's tokens as they were, its note as it came back from the disk's lock, and both once they have met
module _ (catalog : Catalog) (parts clients first limit : ℕ) (every : Option ℕ) (t : Ticket) (due : Due) (mark note shown m n : Known) (as' : ReservedList Answer) (lane : IsLane clients first t due mark note as'.items)
    (going : due.faults ≡ 0) (seen : GoesOn catalog parts note shown) (f : Follows catalog parts limit mark m) (h : Follows catalog parts limit shown n) (one : KnowOne m n) where
  on : GoesOn catalog parts note n
  on = on_and_on catalog parts note shown n seen (follows_on catalog parts limit shown n h)

  pub note_follows : Follows catalog parts limit note n
  note_follows = record { role = on.role; sees = on.sees; goes_on = on.on; within = h.within }

  pub mark_stays : Follows catalog parts limit m m
  mark_stays = let same = on_itself catalog parts m in record { role = same.role; sees = same.sees; goes_on = same.on; within = f.within }

  pub still_lane : IsLane clients first t due m n as'.items
  still_lane = lane_met catalog parts clients first limit t due mark note m m n as' lane going f mark_stays note_follows one

  pub saw_refused : (e : DurableError) → (e ≡ NoMemory → ⊥) → IsCheckpointedBehind first note shown (Err e) → m.faults ≢ 0
  saw_refused e other is none = let up = h.sees.faults in let same = one.1.1 in refused_so first note shown e other is (omega (arith, up, same, none))

  -- a checkpoint was made
  pub asks_made : (old : LaneView) (place : ℕ) → lane_view t due note as' ≡ old → ((k : ℕ) → every ≡ Some k → 1 ≤ k) → IsCheckpointedBehind first note shown (Ok place) → AsksForCheckpoint first every old (lane_view t due n as') (Ok place)
  asks_made old place was some is = record {
    keeps = keeps_met catalog parts clients first limit t due mark note m m n as' lane going f mark_stays note_follows one due old was;
    answer_is = (
      ap (λ (l : LaneView). l.due) was,
      λ k asked. (let end = is.behind in let here = is.answer_is in let reached = lane.due_is.reached in let least = some k asked in omega (arith, end, here, reached, least)),
    );
  }

  -- there was no memory for one
  pub asks_none : (old : LaneView) → lane_view t due note as' ≡ old → AsksForCheckpoint first every old (lane_view t due n as') (Err NoMemory)
  asks_none old was = asks_refused first every old (lane_view t due n as') NoMemory (record {
    keeps = keeps_met catalog parts clients first limit t due mark note m m n as' lane going f mark_stays note_follows one due old was;
    answer_is = (ap (λ (l : LaneView). l.due.faults) (sym was) ∙ going, ap (λ (l : LaneView). l.due) was);
  })

  -- the disk has failed, and the lane is told so
  pub asks_told : (faults : ℕ) (old : LaneView) (e : DurableError) → lane_view t due note as' ≡ old → faults ≢ 0 → (e ≡ NoMemory → ⊥)
      → AsksForCheckpoint first every old (lane_view t (failed_at faults due) n as') (Err (with_faults faults e))
  asks_told faults old e was some other = asks_refused first every old (lane_view t (failed_at faults due) n as') (with_faults faults e)
      (asks_failed catalog parts clients first limit t due mark note m m n as' lane going f mark_stays note_follows one faults old e was some other)
