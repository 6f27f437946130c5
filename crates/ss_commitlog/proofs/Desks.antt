-- What stands behind the lock, while an entry joins the list.
use Rattle.std.proofs.Common.{◌≡◌, ◌↔◌, ℕ, ◌+◌, ◌<◌, ◌≤◌, ◌^◌, ◌==◌, ◌||◌, nat_lt, Bool, true, false, cond, List, [], ◌∷◌, ◌++◌, length, set, get_or, slice_get, refl, sym, ap, ◌∙◌, subst, Some, None, arith}
use Rattle.std.proofs.lemmas.Bool.{and_from, ltb-true, ltb-false}
use Rattle.std.proofs.lemmas.List.FromFn.{get_or-map-range_with_len, length-map-range_with_len}
use Rattle.std.proofs.lemmas.Option.{slice_get_within}
use Rattle.std.specs.declared.option.Option.{Option}
use Rattle.std.specs.List.{AllByRecursion, list_all, list_any}
use Rattle.atomic_table.specs.Table.{Me}
use Rattle.atomic_table.specs.Seated.{TableId}
use Rattle.atomic_table.specs.declared.shared.Seat.{Seat}
use Rattle.ss_lemmas.proofs.Bools.{at_index, first_of_two, second_of_two}
use Rattle.ss_lemmas.proofs.Numbers.{eqb_is, eqb_self}
use Rattle.ss_value.specs.Rows.{Row, Rows}
use Rattle.ss_model.specs.declared.catalog.Catalog.{Catalog}
use Rattle.ss_model.specs.declared.catalog.ProcedureKind.{ProcedureKind}
use Rattle.ss_model.specs.declared.catalog.ProcedureKind.TheVariants.{Call as CallKind, Border, Interior}
use Rattle.ss_model.specs.declared.catalog.Procedure.{Procedure}
use Rattle.ss_model.specs.declared.entry.Entry.{Entry}
use Rattle.ss_model.specs.declared.entry.Entry.TheVariants.{Call, Push, Step as StepEntry, Install}
use Rattle.ss_model.specs.declared.entry.Outcome.TheVariants.{Done, Duplicate, Gap}
use Rattle.ss_model.specs.declared.entry.Listed.{Listed}
use Rattle.ss_model.specs.declared.entry.Emitted.{Emitted}
use Rattle.ss_model.specs.Accepted.{Accepted}
use Rattle.ss_model.specs.CatalogForm.{inputs_of_kind, is_of_kind}
use Rattle.ss_model.specs.Database.{Database, Applied, apply, apply_call, apply_step, accept_batch, batch_count, is_ready, is_streaming, next_number, stream_batches, takes_stream}
use Rattle.ss_model.specs.Partitions.{home_of}
use Rattle.ss_model.specs.Replays.{Replays, after}
use Rattle.ss_model.specs.Orders.{HasShape, Orders, procedure_takes}
use Rattle.ss_model.proofs.CallerLemmas.{few_procedures, procedure_there, taker_there}
use Rattle.ss_model_laws.proofs.CallerLemmas.{matching_stays, named, replays_orders, stream_grows}
use Rattle.ss_stream.specs.Pending.{Pending, pending_batch}
use Rattle.ss_stream.specs.Streams.{ReservedStreams, stream_at}
use Rattle.ss_stream.specs.OfDatabase.{kept_stream}
use Rattle.ss_flow.specs.Advances.{Advances, FollowAll}
use Rattle.ss_flow.specs.Follows.{AreOfStreams}
use Rattle.ss_flow.proofs.CallerLemmas.{batches_have_streams}
use Rattle.ss_sched.specs.Progress.{HasProgress}
use Rattle.ss_sched.proofs.CallerLemmas.{inputs_below, kept_at, kept_batch, kept_many, progress}
use Rattle.ss_commitlog.specs.declared.role.Role.{Role}
use Rattle.ss_commitlog.specs.declared.role.Role.TheVariants.{Log}
use Rattle.ss_commitlog.specs.declared.rule.Item.{Item}
use Rattle.ss_commitlog.specs.declared.rule.View.{View}
use Rattle.ss_commitlog.specs.Rule.{item}
use Rattle.ss_commitlog.specs.Meaning.{HasClientBelow, IsLegal, listed_of}
use Rattle.ss_commitlog.specs.Tokens.{Known, Covers, roles_of, added, log_view, AllContinue}
use Rattle.ss_commitlog.specs.Reading.{batch_at_hand, found_batch, IsReadyAt, IsReadyBelow, IsSound}
use Rattle.ss_commitlog.specs.Right.{IsRight, Gives}
use Rattle.ss_commitlog.specs.Committing.{IsDesk, IsFlow, CanCount, counts_after}
use Rattle.ss_commitlog.proofs.Values.{of_value, when_value}
use Rattle.ss_commitlog.proofs.Replaying.{length-listed_of, listed_of-append, right_after, legal_more, after_more}

-- ---- counts

pushed_counts : (d : Database) (s : ℕ) (source : List ℕ) (seq : ℕ) (rows : Rows) (next : ℕ) (b c : Bool)
    → (cond {A = Applied} b (record { db = accept_batch d s source seq rows; outcome = Done []; emitted = [] }) (cond {A = Applied} c (record { db = d; outcome = Duplicate next; emitted = [] }) (record { db = d; outcome = Gap next; emitted = [] }))).db.counts ≡ d.counts
pushed_counts d s source seq rows next true c = refl
pushed_counts d s source seq rows next false true = refl
pushed_counts d s source seq rows next false false = refl

called_counts : (catalog : Catalog) (d : Database) (client n : ℕ) (args : Row) (p : Option Procedure) (a : Applied) → apply_call catalog d client n args p ≡ Some a → a.db.counts ≡ d.counts
called_counts catalog d client n args None a e = cc
called_counts catalog d client n args (Some p) a e = ap (λ (x : Applied). x.db.counts) (sym (of_value _ _ a e))

stepped_counts : (catalog : Catalog) (d : Database) (n r : ℕ) (p : Option Procedure) (a : Applied) → apply_step catalog d n r p ≡ Some a → a.db.counts ≡ set d.counts n (r + 1)
stepped_counts catalog d n r None a e = cc
stepped_counts catalog d n r (Some p) a e = ap (λ (x : Applied). x.db.counts) (sym (of_value _ _ a e))

-- the counts after an entry
counts_follow : (catalog : Catalog) (d : Database) (e : Entry) (a : Applied) → apply catalog d e ≡ Some a → a.db.counts ≡ counts_after e d.counts
unfolding apply
counts_follow catalog d (Call client index n args) a is = called_counts catalog d client n args (slice_get catalog.procedures n) a is
counts_follow catalog d (Push client index s source seq rows) a is =
    ap (λ (x : Applied). x.db.counts) (sym (of_value _ _ a is)) ∙ pushed_counts d s source seq rows (next_number d s source) _ _
counts_follow catalog d (Install client index n text) a is = ap (λ (x : Applied). x.db.counts) (sym (of_value _ _ a is))
counts_follow catalog d (StepEntry n r) a is = stepped_counts catalog d n r (slice_get catalog.procedures n) a is

-- ---- a step's batch

some_input : (catalog : Catalog) (q : ℕ) (p : Procedure) → list_all is_of_kind catalog.procedures ≡ true → slice_get catalog.procedures q ≡ Some p → is_streaming p.kind ≡ true → 1 ≤ length p.inputs
some_input catalog q p kinds is streams = by p.kind p.inputs (first_of_two _ _ (first_of_two _ _ (at_index is_of_kind catalog.procedures kinds q p is))) streams
  where
    by : (k : ProcedureKind) (inputs : List ℕ) → inputs_of_kind k inputs ≡ true → is_streaming k ≡ true → 1 ≤ length inputs
    by CallKind inputs e s = cc
    by Border [] e s = cc
    by Border (x ∷ xs) e s = omega arith
    by Interior [] e s = cc
    by Interior (x ∷ xs) e s = omega arith

-- it is below the length of its first input
batch_below : (d : Database) (r n : ℕ) (inputs : List ℕ) → 1 ≤ length inputs → list_all (λ s. nat_lt r (length (stream_batches d s))) inputs ≡ true → ((s : ℕ) → length (stream_batches d s) ≤ n) → r < n
batch_below d r n [] some all few = absurd (omega arith)
batch_below d r n (s ∷ ss) some all few = let below = ltb-true r (length (stream_batches d s)) (first_of_two _ _ all) in let most = few s in omega arith

step_counts : (catalog : Catalog) (d : Database) (q r : ℕ) (p : Option Procedure) (a : Applied) → slice_get catalog.procedures q ≡ p → apply_step catalog d q r p ≡ Some a
    → Accepted catalog → length d.counts ≡ length catalog.procedures → ((s : ℕ) → length (stream_batches d s) ≤ 2 ^ 60) → CanCount d.counts (StepEntry q r)
step_counts catalog d q r None a is e accepted many few = cc
step_counts catalog d q r (Some p) a is e accepted many few =
    let ready = when_value (is_ready d q r p) _ a e in
    let streams = first_of_two _ _ (first_of_two _ _ ready) in
    let there = slice_get_within catalog.procedures q p is in
    let below : r < 2 ^ 60 = batch_below d r (2 ^ 60) p.inputs (some_input catalog q p (second_of_two _ _ accepted.form) is streams) (second_of_two _ _ ready) few in
    (omega arith, omega arith)

-- where an entry has a value it can be counted
can_count : (catalog : Catalog) (d : Database) (e : Entry) (a : Applied) → apply catalog d e ≡ Some a → Accepted catalog → length d.counts ≡ length catalog.procedures → ((s : ℕ) → length (stream_batches d s) ≤ 2 ^ 60) → CanCount d.counts e
unfolding apply
can_count catalog d (Call client index n args) a is accepted many few = tt
can_count catalog d (Push client index s source seq rows) a is accepted many few = tt
can_count catalog d (Install client index n text) a is accepted many few = tt
can_count catalog d (StepEntry q r) a is accepted many few = step_counts catalog d q r (slice_get catalog.procedures q) a refl is accepted many few

-- what holds of each input holds of one that is found among them
of_input : (P : ℕ → Type 0) (s : ℕ) (inputs : List ℕ) → AllByRecursion P inputs → list_any (λ i. i == s) inputs ≡ true → P s
of_input P s [] all e = cc
of_input P s (x ∷ xs) all e = by (x == s) refl (of_input P s xs all.1) e
  where
    by : (b : Bool) → (x == s) ≡ b → (list_any (λ i. i == s) xs ≡ true → P s) → (b || list_any (λ i. i == s) xs) ≡ true → P s
    by true is rest any = subst P (eqb_is x s is) all.0
    by false is rest any = rest any

-- a procedure that takes a stream is there, and so is the stream
takes_there : (catalog : Catalog) → Accepted catalog → (q s : ℕ) → procedure_takes catalog q s ≡ true → (s < length catalog.streams) × (q < length catalog.procedures)
takes_there catalog accepted q s takes =
    let (p, is, found) = named (takes_stream s) (slice_get catalog.procedures q) takes in
    (of_input (λ i. i < length catalog.streams) s p.inputs (inputs_below catalog accepted (length catalog.streams) q p (omega arith) is) found, taker_there catalog q s takes)

-- ---- the desk

module _ (table : TableId) (catalog : Catalog) (parts clients first limit : ℕ) (db : Database) (list : List Listed) (f l : ℕ) (streams : List Pending) (counts homes : List ℕ) (seat : Seat Listed View)
    (desk : IsDesk table catalog parts clients first limit db list f l streams counts homes seat) where
  -- the list that the log's seat knows, and the database after it
  abbrev known : List Item
  known = seat.me.0.now.known

  abbrev now : Database
  now = after catalog db (listed_of known)

  pub length_now : length list ≡ length known
  length_now = ap (λ (x : List Listed). length x) (sym desk.log_seat.same) ∙ length-listed_of known

  pub flow_now : IsFlow catalog parts now streams counts homes
  flow_now = subst (λ (x : List Listed). IsFlow catalog parts (after catalog db x) streams counts homes) (sym desk.log_seat.same) desk.flow

  pub shape : HasShape catalog now
  shape = ((matching_stays catalog desk.opening.accepted.structure.streams.wired).stays db (listed_of known) desk.opening.matches desk.legal.replays).shape

  few_now : (s : ℕ) → length (stream_batches now s) ≤ 2 ^ 60
  few_now s =
      let grown = (stream_grows catalog db (listed_of known) s).at_most in
      let before = desk.bounds.few s in
      let small = desk.bounds.small in
      let most = desk.bounds.limit_is in
      let within = desk.legal.within in
      let many = length-listed_of known in
      omega arith

  pub many : length streams ≡ length catalog.streams
  many = kept_many catalog now streams flow_now.streams_are

  -- the entry's batches are for streams that are there
  pub has_streams : (ks : List Known) (x : Listed) (em : List Emitted) → IsRight catalog parts db ks x em → AreOfStreams (length streams) em
  has_streams ks x em right =
      subst (λ n. AreOfStreams n em) (sym many)
      (subst (AreOfStreams (length catalog.streams)) (sym right.given.3) (batches_have_streams catalog desk.opening.accepted right.witness x.entry right.given.0 right.given.1))

  -- it is right behind the whole list
  pub right_now : (ks : List Known) (x : Listed) (em : List Emitted) → IsRight catalog parts db ks x em → AllContinue catalog parts known ks → Gives catalog now x em
  right_now ks x em right all = right_after catalog desk.opening.accepted parts desk.opening.some db known ks x em all right

  pub legal_now : (ks : List Known) (x : Listed) (em : List Emitted) → Gives catalog now x em → Covers catalog parts (roles_of ks) x.entry → HasClientBelow clients x.entry → length list < limit
      → IsLegal catalog parts clients limit db (added known (roles_of ks) x)
  legal_now ks x em gives covers client low =
      let same : length list ≡ length known = length_now in
      legal_more catalog parts clients limit db known ks x em desk.legal gives covers client (omega arith)

  module _ (x : Listed) (em : List Emitted) (gives : Gives catalog now x em) where
    -- streams and counts can be moved over it
    pub moves : (roomy : List Pending) → roomy ≡ streams → Advances catalog now x.entry gives.0 em roomy
    moves roomy same = record {
      shape = shape;
      applies = gives.1;
      batches_are = gives.3;
      streams_are = same ∙ flow_now.streams_are;
      few = λ s. (let few = few_now s in omega arith);
    }

    pub counts_move : CanCount counts x.entry
    counts_move = subst (λ (ns : List ℕ). CanCount ns x.entry) (sym flow_now.counts_are) (can_count catalog now x.entry gives.0 gives.1 desk.opening.accepted shape.counts few_now)

    -- and the desk stands again
    module _ (roles : List Role) (more : List Listed) (roomy moved : List Pending) (counted : List ℕ) (seat' : Seat Listed View) (listed : more ≡ list ++ x ∷ []) (table_is : seat'.table_id ≡ table)
        (log : seat'.me ≡ (log_view (added known roles x) seat'.me.0.now.count seat'.me.0.now.faults, [])) (legal : IsLegal catalog parts clients limit db (added known roles x))
        (same : roomy ≡ streams) (follow : FollowAll catalog x.entry em roomy moved) (counts_are : counted ≡ counts_after x.entry counts) where
      known_now : seat'.me.0.now.known ≡ added known roles x
      known_now = ap (λ (m : Me Listed View). m.0.now.known) log

      listed_now : listed_of (added known roles x) ≡ more
      listed_now = listed_of-append known (item x (roles ++ Log ∷ []) ∷ []) ∙ (ap (λ (y : List Listed). y ++ x ∷ []) desk.log_seat.same ∙ sym listed)

      after_is : after catalog db more ≡ gives.0.db
      after_is = ap (after catalog db) (sym listed_now) ∙ after_more catalog db known roles x gives.0 gives.1

      pub desk_after : IsDesk table catalog parts clients first limit db more f l moved counted homes seat'
      desk_after = record {
        opening = desk.opening;
        bounds = desk.bounds;
        log_seat = record {
          table_is = table_is;
          same = ap (λ (y : List Item). listed_of y) known_now ∙ listed_now;
          log = subst (λ (y : List Item). seat'.me ≡ (log_view y seat'.me.0.now.count seat'.me.0.now.faults, [])) (sym known_now) log;
        };
        legal = subst (IsLegal catalog parts clients limit db) (sym known_now) legal;
        flow = subst (λ (d : Database). IsFlow catalog parts d moved counted homes) (sym after_is) (record {
          streams_are = follow now gives.0 (moves roomy same);
          counts_are = counts_are ∙ ap (counts_after x.entry) flow_now.counts_are ∙ sym (counts_follow catalog now x.entry gives.0 gives.1);
          homes_are = flow_now.homes_are;
        });
      }

  -- ---- what is read

  -- a procedure that takes a stream is there, and so is the stream
  pub looks_there : (q s : ℕ) → procedure_takes catalog q s ≡ true → (s < length streams) × (q < length counts)
  looks_there q s takes =
      let there = takes_there catalog desk.opening.accepted q s takes in
      let same = ap (λ (ns : List ℕ). length ns) flow_now.counts_are ∙ shape.counts in
      let as_many = many in
      (omega arith, omega arith)

  -- and the batch is the one that is kept
  pub found_now : (kept : ReservedStreams) → kept.streams ≡ streams → (q s r : ℕ) → procedure_takes catalog q s ≡ true → batch_at_hand kept counts s q r ≡ found_batch now s q r
  found_now kept same q s r takes =
      let there = takes_there catalog desk.opening.accepted q s takes in
      let stream : stream_at kept s ≡ kept_stream catalog now s = kept_at catalog now kept.streams (same ∙ flow_now.streams_are) s there.0 in
      rw (ap (λ (ns : List ℕ). get_or ns q 0) flow_now.counts_are, stream) (by (nat_lt r (batch_count now q)) refl there.1)
    where
      by : (b : Bool) → nat_lt r (batch_count now q) ≡ b → q < length catalog.procedures → cond b None (pending_batch (kept_stream catalog now s) r) ≡ cond b None (slice_get (stream_batches now s) r)
      by true e within = refl
      by false e within = let passed : batch_count now q ≤ r = ltb-false r (batch_count now q) e in kept_batch catalog now q s r within takes passed

  pub replays_now : Replays catalog db list
  replays_now = subst (Replays catalog db) desk.log_seat.same desk.legal.replays

  pub orders_now : Orders catalog db list
  orders_now = replays_orders catalog desk.opening.accepted.structure.streams.wired db list desk.opening.matches replays_now

  -- who looks which procedures are ready finds what it needs
  pub counts_many : length counts ≡ length catalog.procedures
  counts_many = ap (λ (ns : List ℕ). length ns) flow_now.counts_are ∙ shape.counts

  pub homes_many : length homes ≡ length catalog.procedures
  homes_many = ap (λ (ns : List ℕ). length ns) flow_now.homes_are ∙ length-map-range_with_len (home_of catalog parts) 0 (length catalog.procedures)

  pub far : HasProgress now counts streams
  far = progress catalog now counts streams shape flow_now.counts_are flow_now.streams_are

  -- the home that is kept of a procedure
  pub home_is : (q : ℕ) → q < length catalog.procedures → get_or homes q 0 ≡ home_of catalog parts q
  home_is q lt = ap (λ (ns : List ℕ). get_or ns q 0) flow_now.homes_are ∙ get_or-map-range_with_len (home_of catalog parts) 0 (length catalog.procedures) q q 0 lt (omega arith)

  pub sound_now : IsSound catalog streams counts homes
  sound_now = record {
    accepted = desk.opening.accepted;
    few = (let most = few_procedures catalog desk.opening.accepted.form in let as_many = homes_many in omega arith);
    streams_many = many;
    counts_many = counts_many;
    homes_many = homes_many;
  }

  -- and what it finds is what is ready behind the list
  pub ready_now : (p q : ℕ) → IsReadyBelow (length homes) catalog now homes p q ↔ IsReadyAt catalog parts now p q
  ready_now p q = (
    (λ r. (sym (home_is q (let as_many = homes_many in let below = r.0 in omega arith)) ∙ eqb_is _ _ (first_of_two _ _ r.1), second_of_two (get_or homes q 0 == p) _ r.1)),
    (λ r. (let there = procedure_there (is_ready now q (batch_count now q)) catalog.procedures q r.1 in
        let as_many = homes_many in
        (omega arith, and_from _ _ (ap (λ (h : ℕ). h == p) (home_is q there ∙ r.0) ∙ eqb_self p) r.1))),
  )
