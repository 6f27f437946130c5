-- What a list leaves, once the marks of all partitions know it.
--
-- The log's list goes on from what the marks of all lanes and of all partitions knew. So it has no other entry of a lane's client than
-- the lane knew; and no entry behind what a partition's mark knew touches that partition, so the shard in hand, which had each part as
-- its mark's list leaves it, has it as the whole list leaves it.
use Rattle.std.proofs.Common.{◌≡◌, ◌≤◌, ⊎_elim, ℕ, zero, suc, true, List, [], ◌∷◌, ◌++◌, map, length, Some, IfSome, IfNone, Result, Err, refl, sym, ap, ◌∙◌, subst, arith, append-nil}
use Rattle.std.proofs.lemmas.List.{length-map}
use Rattle.std.proofs.lemmas.List.FromFn.{length-map-range_with_len}
use Rattle.std.specs.List.{range_with_len}
use Rattle.ss_model.specs.declared.catalog.Catalog.{Catalog}
use Rattle.ss_model.specs.declared.entry.Answer.{Answer}
use Rattle.ss_model.specs.declared.entry.Listed.{Listed}
use Rattle.ss_model.specs.Accepted.{Accepted}
use Rattle.ss_model.specs.Database.{Database}
use Rattle.ss_model.specs.Orders.{Orders}
use Rattle.ss_model.specs.Partitions.{touches}
use Rattle.ss_model.specs.Replays.{Replays, after, database_after}
use Rattle.ss_model.proofs.CallerLemmas.{applied_fits}
use Rattle.ss_report_laws.proofs.CallerLemmas.{applied_of}
use Rattle.ss_stream.specs.OfDatabase.{AreStreamsOf}
use Rattle.ss_stream.specs.Streams.{ReservedStreams}
use Rattle.ss_shard.specs.Parts.{all_partitions, is_among, IsWholeShard}
use Rattle.ss_shard.specs.Windows.{HoldsDatabase}
use Rattle.ss_shard.proofs.AllPartitions.{among_all}
use Rattle.ss_shard.proofs.Blanks.{nothing_blank}
use Rattle.ss_commitlog.specs.declared.role.Role.{Role}
use Rattle.ss_commitlog.specs.declared.role.Role.TheVariants.{Part}
use Rattle.ss_commitlog.specs.declared.rule.Item.{Item}
use Rattle.ss_commitlog.specs.declared.placed.Unlisted.{Unlisted}
use Rattle.ss_commitlog.specs.declared.placed.Unlisted.TheVariants.{NoMemory}
use Rattle.ss_commitlog.specs.Meaning.{listed_of, HaveClientsBelow}
use Rattle.ss_commitlog.specs.Tokens.{Known, AllContinue, AllSaw, Continues, role_of, roles_of}
use Rattle.ss_commitlog.proofs.CallerLemmas.{in_right, listed_of-append}
use Rattle.ss_hand.specs.Hands.{IsInHand}
use Rattle.ss_hand.specs.declared.hand.Hand.{Hand}
use Rattle.ss_engine.specs.declared.session.close.Closed.{Closed}
use Rattle.ss_engine.specs.Closings.{IsClosed, IsLeft, list_alone}
use Rattle.ss_lanes.specs.Apart.{AreMarksOf, AreOfClients, IsOfLane}
use Rattle.ss_lanes.specs.Lanes.{LaneView}
use Rattle.ss_lanes.proofs.CallerLemmas.{of_lane}
use Rattle.ss_turns.proofs.CallerLemmas.{holds_behind}
use Rattle.ss_settle.specs.Settlings.{EndedWith, SettledInOrder, SettledTo, SettlesFrom}
use Rattle.ss_settle.specs.Wholes.{EachTouches, MayBeWhole}
use Rattle.ss_settle.proofs.CallerLemmas.{ended, ended_in_order}
use Rattle.ss_engine.proofs.Touching.{some_touched}

-- as many marks as partitions
pub part_marks : (n : ℕ) (ks : List Known) → roles_of ks ≡ map Part (all_partitions n) → length ks ≡ n
part_marks n ks roles = sym (length-map ks role_of) ∙ ap (λ (rs : List Role). length rs) roles ∙ length-map-range_with_len Part 0 n

-- ---- the whole shard

zero_first : (n : ℕ) → 1 ≤ n → (x : ℕ) (xs : List ℕ) → x ∷ xs ≡ range_with_len 0 n → x ≡ 0
zero_first zero some x xs e = absurd (omega arith)
zero_first (suc n) some x xs e = cc

is_whole : {I : Type 0} (catalog : Catalog) (n : ℕ) (db : Database) → 1 ≤ n → (hand : Hand I) → IsInHand catalog n db (all_partitions n) hand → IsWholeShard catalog n hand.shard
is_whole catalog n db some hand is = record { number = zero_first n some hand.shard.number _ is.numbers; parts = is.parts }

module _ (catalog : Catalog) (accepted : Accepted catalog) (n : ℕ) (some : 1 ≤ n) where
  -- each entry of a list that replays fits, so it touches some partition
  pub each_touches : (db : Database) (list : List Item) → Replays catalog db (listed_of list) → EachTouches catalog n list
  each_touches db [] replays i there = absurd there
  each_touches db (x ∷ xs) replays i there =
      let (a, is) = applied_of _ x.listed.outcome replays.0 in
      ⊎_elim (λ (e : i ≡ x). subst (λ (y : Item). (p : ℕ) × (touches catalog n y.listed.entry p ≡ true)) (sym e) (some_touched catalog accepted n some x.listed.entry (applied_fits catalog db x.listed.entry a is)))
      (λ j. each_touches (database_after catalog db x.listed.entry) xs replays.1 i j) there

  -- the shard of all partitions stands for what the whole list leaves
  pub whole_holds : {I : Type 0} (db : Database) (hand : Hand I) (list : List Item) → IsInHand catalog n db (all_partitions n) hand → AllContinue catalog n list hand.marks → HoldsDatabase catalog hand.shard (after catalog db (listed_of list))
  whole_holds db hand list in_hand on =
      subst (HoldsDatabase catalog hand.shard) (nothing_blank catalog n (is_among (all_partitions n)) some (λ p low. among_all n p low) (after catalog db (listed_of list)))
      (holds_behind catalog accepted n some db (all_partitions n) hand in_hand list on)

  -- the log's list, which goes on from what the marks of all lanes know
  list_closes : (clients first limit : ℕ) (db : Database) (lanes : List LaneView) (ms rest : List Known) (disk : Known) (list : List Listed) (items : List Item) (closed : Closed)
      → AreOfClients clients lanes → AreMarksOf first lanes ms → closed.answers ≡ map (λ (l : LaneView). l.answers) lanes → closed.list ≡ list
      → list ≡ listed_of items → AllContinue catalog n items (ms ++ rest) → Continues catalog n items disk → AllSaw disk (ms ++ rest)
      → Replays catalog db list × Orders catalog db list → HaveClientsBelow clients list × (length list ≤ limit) → closed.catalog ≡ catalog
      → IfSome closed.database (IsLeft catalog n (after catalog db closed.list)) → IfNone closed.database (closed.settling ≡ Err NoMemory) → EndedWith catalog db limit closed.list closed.settling
      → SettledInOrder catalog db closed.list closed.settled closed.settling → IsClosed catalog n clients first limit db disk lanes closed
  list_closes clients first limit db lanes ms rest disk list items closed of are answers_are is eq on on_disk saw legal short same left lost end settled =
      let back : list ≡ closed.list = sym is in
      record {
        replays = subst (λ (l : List Listed). Replays catalog db l) back legal.0;
        orders = subst (λ (l : List Listed). Orders catalog db l) back legal.1;
        of_clients = subst (λ (l : List Listed). HaveClientsBelow clients l) back short.0;
        within = subst (λ (l : List Listed). length l ≤ limit) back short.1;
        rest = listed_of on_disk.rest;
        begins = is ∙ (eq ∙ (ap listed_of on_disk.is ∙ listed_of-append disk.list on_disk.rest));
        many = ap (λ (xs : List (List Answer)). length xs) answers_are ∙ (length-map lanes (λ (l : LaneView). l.answers) ∙ of.many);
        each = λ k lane there. subst (λ (l : List Listed). IsOfLane first k disk lane l closed.answers) (sym eq ∙ back) (of_lane catalog n first disk lanes ms rest items closed.answers are on saw answers_are k lane there (of.each k lane there));
        left = left;
        lost = lost;
        catalog_is = same;
        end = end;
        settled = settled;
      }

  -- what is handed over where all partitions are in hand: beside the list, what is in hand
  pub closes : {I : Type 0} (clients first limit : ℕ) (db : Database) (lanes : List LaneView) (ms old : List Known) (hand : Hand I) (disk : Known) (end : Result (Unit {0}) Unlisted) (ran : ℕ) (list : List Listed) (streams : ReservedStreams)
      (answers : List (List Answer)) (c : Catalog) → AreOfClients clients lanes → AreMarksOf first lanes ms → answers ≡ map (λ (l : LaneView). l.answers) lanes
      → IsInHand catalog n db (all_partitions n) hand → ((whole : List Item) → MayBeWhole catalog n db whole hand.marks → SettledTo catalog n db limit whole end) → SettlesFrom catalog n db old hand.marks ran
      → ((items : List Item) × (list ≡ listed_of items) × AllContinue catalog n items (ms ++ hand.marks) × Continues catalog n items disk) → AllSaw disk (ms ++ hand.marks)
      → Replays catalog db list × Orders catalog db list → HaveClientsBelow clients list × (length list ≤ limit) → AreStreamsOf catalog (after catalog db list) streams.streams → c ≡ catalog
      → IsClosed catalog n clients first limit db disk lanes (record { list = list; database = Some (record { whole = hand.shard; streams = streams }); catalog = c; answers = answers; settling = end; settled = ran })
  closes clients first limit db lanes ms old hand disk end ran list streams answers c of are answers_are in_hand settled in_order (items, eq, on, on_disk) saw legal short streams_are same =
      let replayed : Replays catalog db (listed_of items) = subst (λ (l : List Listed). Replays catalog db l) eq legal.0 in
      let in_all : AllContinue catalog n items hand.marks = λ k there. on k (in_right k ms hand.marks there) in
      let may : MayBeWhole catalog n db items hand.marks = record { touch = each_touches db items replayed; replays = replayed; on = in_all } in
      let ends = ended catalog accepted n some db limit items end (settled items may) in
      list_closes clients first limit db lanes ms hand.marks disk list items (record { list = list; database = Some (record { whole = hand.shard; streams = streams }); catalog = c; answers = answers; settling = end; settled = ran })
      of are answers_are refl eq on on_disk saw legal short same (
        is_whole catalog n db some hand in_hand,
        record {
          shard = subst (λ (l : List Listed). HoldsDatabase catalog hand.shard (after catalog db l)) (sym eq) (whole_holds db hand items in_hand in_all);
          streams = streams_are;
        },
      )
      tt
      (subst (λ (l : List Listed). EndedWith catalog db limit l end) (sym eq) ends)
      (subst (λ (l : List Listed). SettledInOrder catalog db l ran end) (sym eq) (ended_in_order catalog n db old ran items (in_order items may) limit end ends))

  -- and where there was no memory for that: the list alone
  pub closes_apart : (clients first limit : ℕ) (db : Database) (lanes : List LaneView) (ms : List Known) (disk : Known) (list : List Listed) (answers : List (List Answer)) (c : Catalog)
      → AreOfClients clients lanes → AreMarksOf first lanes ms → answers ≡ map (λ (l : LaneView). l.answers) lanes
      → ((items : List Item) × (list ≡ listed_of items) × AllContinue catalog n items ms × Continues catalog n items disk) → AllSaw disk ms
      → Replays catalog db list × Orders catalog db list → HaveClientsBelow clients list × (length list ≤ limit) → c ≡ catalog
      → IsClosed catalog n clients first limit db disk lanes (list_alone list c answers)
  closes_apart clients first limit db lanes ms disk list answers c of are answers_are (items, eq, on, on_disk) saw legal short same =
      let alone : ms ≡ ms ++ [] = sym (append-nil ms) in
      list_closes clients first limit db lanes ms [] disk list items (list_alone list c answers)
      of are answers_are refl eq (subst (λ (ks : List Known). AllContinue catalog n items ks) alone on) on_disk (subst (λ (ks : List Known). AllSaw disk ks) alone saw) legal short same tt refl tt
      (record { before = list; steps = []; splits = sym (append-nil list); many = refl; in_order = tt })
