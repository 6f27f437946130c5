-- What is left of an engine whose clients made all their requests.
use Rattle.std.proofs.Common.{◌≡◌, ℕ, zero, suc, ◌+◌, ◌<◌, ◌≤◌, ◌==◌, ⊎_elim, false, cond, List, [], ◌∷◌, length, replicate, get_or, slice_get, Option, Some, None, IfSome, refl, sym, ap, subst, ◌∙◌, arith}
use Rattle.std.proofs.lemmas.List.{get_or_past, nil_from_length}
use Rattle.std.proofs.lemmas.Option.{get_or_from_slice_get, slice_get_cases}
use Rattle.ss_lemmas.proofs.Numbers.{eqb_apart}
use Rattle.ss_value.specs.Rows.{Rows}
use Rattle.ss_model.specs.declared.catalog.Catalog.{Catalog}
use Rattle.ss_model.specs.declared.entry.Answer.{Answer}
use Rattle.ss_model.specs.declared.entry.Entry.{Entry}
use Rattle.ss_model.specs.declared.entry.Entry.TheVariants.{Call, Push, Step as StepEntry, Install}
use Rattle.ss_model.specs.declared.entry.Listed.{Listed}
use Rattle.ss_model.specs.declared.entry.Request.{Request}
use Rattle.ss_model.specs.Database.{Database, empty_database, stream_batches}
use Rattle.ss_model.specs.Replays.{after}
use Rattle.ss_report_laws.specs.Replies.{answers_of, expected_entries, is_of, mine, requests_of}
use Rattle.ss_report_laws.specs.Resuming.{AreToldTo, NoneBehindStop}
use Rattle.ss_commitlog.specs.Meaning.{HasClientBelow, HaveClientsBelow}
use Rattle.ss_commitlog.specs.Tokens.{Known}
use Rattle.ss_shard.specs.declared.database.Database as shard
use Rattle.ss_engine.specs.declared.session.close.Closed.{Closed}
use Rattle.ss_lanes.specs.Clients.{AreListedOr, EachAt, HasMade, requests_from}
use Rattle.ss_engine.specs.Closings.{IsClosed, IsLeft}
use Rattle.ss_lanes.specs.Apart as lanes_of_clients
use Rattle.ss_lanes.specs.Dues.{FewOpen}
use Rattle.ss_lanes.specs.Lanes.{LaneView, start_of}
use Rattle.ss_lanes.specs.Mines.{Mine, mine_in}
use Rattle.ss_engine.specs.Sessions.{AreOfClients, IsLeftOver, IsRun}
use Rattle.ss_lanes.proofs.CallerLemmas.{few_open_on, many_from, none_behind_stop, none_open, still_unlisted}

-- ---- clients that are not there

others_request : (clients k client : ℕ) → clients ≤ k → client < clients → (client == k) ≡ false
others_request clients k client past below = eqb_apart client k (λ same. absurd (omega (arith, past, below, same)))

no_request : (clients k : ℕ) → clients ≤ k → (rs : List Request) → AreOfClients clients rs → requests_of k rs ≡ []
no_request clients k past [] all = refl
no_request clients k past (r ∷ rs) all =
    ap (λ b. cond b (r ∷ requests_of k rs) (requests_of k rs)) (others_request clients k r.client past all.0) ∙ no_request clients k past rs all.1

none_further : (starts : List ℕ) (k : ℕ) (rs : List Request) → requests_of k rs ≡ [] → requests_from starts k rs ≡ []
none_further starts k rs none =
    let left = many_from starts k rs in
    let short = ap (λ (l : List Request). length l) none in
    nil_from_length (requests_from starts k rs) (omega (arith, left, short))

others_entry : (clients k : ℕ) → clients ≤ k → (e : Entry) → HasClientBelow clients e → is_of k e ≡ false
others_entry clients k past (Call client index q args) below = others_request clients k client past below
others_entry clients k past (Push client index s source seq rows) below = others_request clients k client past below
others_entry clients k past (Install client index q text) below = others_request clients k client past below
others_entry clients k past (StepEntry q r) below = refl

no_entry : (clients k first : ℕ) → clients ≤ k → (list : List Listed) → HaveClientsBelow clients list → mine k first list ≡ []
no_entry clients k first past [] all = refl
no_entry clients k first past (l ∷ ls) all =
    ap (λ b. cond b ((first, l) ∷ mine k (first + 1) ls) (mine k (first + 1) ls)) (others_entry clients k past l.entry all.0) ∙ no_entry clients k (first + 1) past ls all.1

-- ---- client by client

-- what is told of one client
record IsTold (first limit : ℕ) (requests : List Request) (starts : List ℕ) (disk : Known) (closed : Closed) (k : ℕ) : Type 0 where
  told : AreToldTo k (start_of starts k) first closed.list (requests_from starts k requests) (answers_of closed.answers k)
  stops : NoneBehindStop (answers_of closed.answers k)
  others : AreListedOr limit (length closed.list) disk.faults (answers_of closed.answers k)
  few_behind : FewOpen (mine k first closed.list) disk.count 16

module _ (catalog : Catalog) (n : ℕ) (db : Database) (first limit clients : ℕ) (requests : List Request) (starts : List ℕ) (disk : Known) (lanes : List LaneView) (closed : Closed)
    (below : AreOfClients clients requests) (count : length lanes ≡ clients) (made : EachAt (HasMade first limit starts requests) lanes)
    (end : IsClosed catalog n clients first limit db disk lanes closed) where
  told_one : (k : ℕ) (lane : LaneView) → slice_get lanes k ≡ Some lane → IsTold first limit requests starts disk closed k
  told_one k lane here =
      let m = made k lane here in
      let e = end.each k lane here in
      let answers : answers_of closed.answers k ≡ lane.answers = get_or_from_slice_get closed.answers k lane.answers [] e.answers_are in
      let asked = requests_from starts k requests in
      let each : mine k first closed.list ≡ expected_entries k (start_of starts k) asked lane.answers =
      e.own ∙ (ap (λ c. mine_in c first lane.list) (sym m.client_is) ∙ (m.served.entries
      ∙ (ap (λ c. expected_entries c lane.start asked lane.answers) m.client_is ∙ ap (λ s. expected_entries k s asked lane.answers) m.start_is))) in
      record {
        told = subst (AreToldTo k (start_of starts k) first closed.list asked) (sym answers) (record { many = m.served.many; each = each });
        stops = subst NoneBehindStop (sym answers) (none_behind_stop k (start_of starts k) first limit closed.list asked lane.answers m.served.many each end.within m.beyond);
        others = subst (AreListedOr limit (length closed.list) disk.faults) (sym answers)
            (still_unlisted limit (length lane.list) (length closed.list) lane.due.faults disk.faults e.longer e.seen.faults_are lane.answers m.others);
        few_behind = e.few_open;
      }

  told_none : (k : ℕ) → length lanes ≤ k → IsTold first limit requests starts disk closed k
  told_none k past =
      let outside : clients ≤ k = (let c = count in omega arith) in
      let none : requests_from starts k requests ≡ [] = none_further starts k requests (no_request clients k outside requests below) in
      let answers : answers_of closed.answers k ≡ [] = get_or_past closed.answers k [] (let m = end.many in omega arith) in
      record {
        told = record {
          many = ap (λ (l : List Answer). length l) answers ∙ sym (ap (λ (l : List Request). length l) none);
          each = no_entry clients k first outside closed.list end.of_clients ∙ sym (ap (λ (l : List Request). expected_entries k (start_of starts k) l (answers_of closed.answers k)) none);
        };
        stops = subst NoneBehindStop (sym answers) tt;
        others = subst (AreListedOr limit (length closed.list) disk.faults) (sym answers) tt;
        few_behind = few_open_on (mine k first closed.list) disk.count disk.count 0 16 (omega arith) (omega arith)
            (subst (λ (ps : List Mine). FewOpen ps disk.count 0) (sym (no_entry clients k first outside closed.list end.of_clients)) (none_open [] disk.count tt));
      }

  told : (k : ℕ) → IsTold first limit requests starts disk closed k
  told k = ⊎_elim (λ h. told_one k h.0 h.2) (λ h. told_none k h.0) (slice_get_cases lanes k).1

  pub is_run : IsRun catalog db first limit clients requests starts disk.count disk.faults closed
  is_run = record {
    replays = end.replays;
    orders = end.orders;
    of_clients = end.of_clients;
    within = end.within;
    told = λ k. (told k).told;
    stops = λ k. (told k).stops;
    others = λ k. (told k).others;
    few_behind = λ k. (told k).few_behind;
    left = left_over (after catalog db closed.list) closed.database end.left;
    lost = end.lost;
    catalog_is = end.catalog_is;
    end = end.end;
    settled = end.settled;
  }
    where
      left_over : (d : Database) (o : Option shard.Database) → IfSome o (IsLeft catalog n d) → IfSome o (IsLeftOver catalog d)
      left_over d None left = tt
      left_over d (Some database) left = (left.1, left.0.parts.committed)

-- the lanes of clients that made their requests are those of the clients
pub made_lanes : (first limit clients : ℕ) (requests : List Request) (starts : List ℕ) (lanes : List LaneView) → length lanes ≡ clients → EachAt (HasMade first limit starts requests) lanes → lanes_of_clients.AreOfClients clients lanes
made_lanes first limit clients requests starts lanes count made = record { many = count; each = λ k lane is. (made k lane is).client_is }

-- ---- the empty database

empty_at : {A : Type 0} (n s : ℕ) → get_or {A = List A} (replicate n []) s [] ≡ []
empty_at zero s = refl
empty_at (suc n) zero = refl
empty_at (suc n) (suc s) = empty_at n s

-- has no batch
pub no_batch : (catalog : Catalog) (s : ℕ) → length (stream_batches (empty_database catalog) s) ≤ 0
no_batch catalog s = subst (λ (bs : List Rows). length bs ≤ 0) (sym (empty_at {A = Rows} (length catalog.streams) s)) (omega arith)
