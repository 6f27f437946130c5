-- A client that makes one request after another.
use Rattle.std.proofs.Common.{◌≡◌, ◌≢◌, ◌⊎◌, inr, ⊎_elim, refl, ℕ, zero, suc, ◌+◌, ◌-◌, ◌<◌, ◌≤◌, ◌==◌, true, false, cond, List, [], ◌∷◌, ◌++◌, length, take, drop, get_or, slice_get, Some, sym, ap, subst, ◌∙◌, arith, append-nil, length-append}
use Rattle.std.specs.List.{list_all}
use Rattle.std.proofs.lemmas.List.{length-drop, nil_from_length}
use Rattle.std.proofs.lemmas.List.Elements.{filter_more}
use Rattle.std.proofs.lemmas.Option.{slice_get-get_or}
use Rattle.ss_lemmas.proofs.Bools.{first_of_two, second_of_two}
use Rattle.ss_lemmas.proofs.EachOf.{all_with}
use Rattle.ss_lemmas.proofs.LoopItem.{next}
use Rattle.ss_model.specs.declared.catalog.Catalog.{Catalog}
use Rattle.ss_model.specs.declared.entry.Answer.{Answer}
use Rattle.ss_model.specs.declared.entry.Answer.TheVariants.{Listed as ListedAnswer, NoMemory, ListFull, Halted}
use Rattle.ss_model.specs.declared.entry.Asked.{Asked}
use Rattle.ss_model.specs.declared.entry.Asked.TheVariants.{Call as CallAsked, Push as PushAsked, Install as InstallAsked}
use Rattle.ss_model.specs.declared.entry.Request.{Request}
use Rattle.ss_model.specs.Database.{fits_entry}
use Rattle.ss_model.specs.Report.{asked_entry, entries_behind}
use Rattle.ss_report_laws.specs.Replies.{expected_entries, requests_of, IsListedOr}
use Rattle.ss_commitlog.specs.declared.rule.Item.{Item}
use Rattle.ss_lanes.specs.declared.due.Due.{Due}
use Rattle.ss_lanes.specs.Between.{HasRequested, KeepsAnswers}
use Rattle.ss_lanes.specs.Clients.{AllFit, AreListedOr, HasMade, IsUnlisted, MayBegin, StopsBeyond, requests_from}
use Rattle.ss_lanes.specs.Lanes.{LaneView, IsRightAnswer, IsSubmitted, start_of}
use Rattle.ss_lanes.specs.Mines.{mine_in}
use Rattle.ss_lanes.specs.Served.{IsServed}
use Rattle.ss_lanes.proofs.Dues.{last_too}
use Rattle.ss_lanes.proofs.ServedLanes.{lanes_serve}
use Rattle.ss_lanes.proofs.Stopping.{MayFollow, stops_more}
use Rattle.ss_lanes.proofs.Telling.{same_faults}

-- ---- requests that fit

-- what fits does so at any index
any_index : (catalog : Catalog) (client i j : ℕ) (what : Asked) → fits_entry catalog (asked_entry client i what) ≡ true → fits_entry catalog (asked_entry client j what) ≡ true
any_index catalog client i j (CallAsked q args) fits = fits
any_index catalog client i j (PushAsked s source seq rows) fits = fits
any_index catalog client i j (InstallAsked q text) fits = fits

fits_behind : (catalog : Catalog) (earlier rs : List Request) → list_all (fits_entry catalog) (entries_behind earlier rs) ≡ true
    → (n : ℕ) (r : Request) → slice_get rs n ≡ Some r → (i : ℕ) → fits_entry catalog (asked_entry r.client i r.what) ≡ true
fits_behind catalog earlier [] all n r is i = absurd (cc)
fits_behind catalog earlier (x ∷ rs) all zero r is i =
    let same : x ≡ r = cc in
    subst (λ (y : Request). fits_entry catalog (asked_entry y.client i y.what) ≡ true) same (any_index catalog x.client _ i x.what (first_of_two _ _ all))
fits_behind catalog earlier (x ∷ rs) all (suc n) r is i = fits_behind catalog (earlier ++ x ∷ []) rs (second_of_two _ _ all) n r is i

-- each request fits, whatever its number is among its client's
pub request_fits : (catalog : Catalog) (rs : List Request) (n : ℕ) (r : Request) → AllFit catalog rs → n < length rs → r ≡ get_or rs n r → (client i : ℕ) → r.client ≡ client
    → fits_entry catalog (asked_entry client i r.what) ≡ true
request_fits catalog rs n r fit below here client i own =
    subst (λ c. fits_entry catalog (asked_entry c i r.what) ≡ true) own (fits_behind catalog [] rs fit n r (slice_get-get_or rs n r below ∙ ap Some (sym here)) i)

-- ---- whose a request is

module _ (client : ℕ) (rs : List Request) (n : ℕ) (r : Request) (below : n < length rs) (here : r ≡ get_or rs n r) where
  more : requests_of client (take (n + 1) rs) ≡ requests_of client (take n rs) ++ cond (r.client == client) (r ∷ []) []
  more =
      filter_more (λ (x : Request). x.client == client) rs n r below
      ∙ ap (λ (x : Request). requests_of client (take n rs) ++ cond (x.client == client) (x ∷ []) []) (sym here)

  left : requests_of client (drop n rs) ≡ cond (r.client == client) (r ∷ requests_of client (drop (n + 1) rs)) (requests_of client (drop (n + 1) rs))
  left = ap (requests_of client) (next rs n r below here)

  pub own_more : (r.client == client) ≡ true → requests_of client (take (n + 1) rs) ≡ requests_of client (take n rs) ++ r ∷ []
  own_more own = more ∙ ap (λ b. requests_of client (take n rs) ++ cond b (r ∷ []) []) own

  pub own_left : (r.client == client) ≡ true → length (requests_of client (drop n rs)) ≡ suc (length (requests_of client (drop (n + 1) rs)))
  own_left own = ap (λ (l : List Request). length l) (left ∙ ap (λ b. cond b (r ∷ requests_of client (drop (n + 1) rs)) (requests_of client (drop (n + 1) rs))) own)

  pub other_more : (r.client == client) ≡ false → requests_of client (take (n + 1) rs) ≡ requests_of client (take n rs)
  other_more other = more ∙ (ap (λ b. requests_of client (take n rs) ++ cond b (r ∷ []) []) other ∙ append-nil (requests_of client (take n rs)))

  pub other_left : (r.client == client) ≡ false → requests_of client (drop n rs) ≡ requests_of client (drop (n + 1) rs)
  other_left other = left ∙ ap (λ b. cond b (r ∷ requests_of client (drop (n + 1) rs)) (requests_of client (drop (n + 1) rs))) other

-- ---- which of its requests a client makes here

push_from : (n : ℕ) (rs : List Request) (r : Request) → n ≤ length rs → drop n (rs ++ r ∷ []) ≡ drop n rs ++ r ∷ []
push_from zero rs r there = refl
push_from (suc n) [] r there = absurd (omega (arith, there))
push_from (suc n) (x ∷ rs) r there = push_from n rs r (omega (arith, there))

none_from : (n : ℕ) (rs : List Request) → length rs ≤ n → drop n rs ≡ []
none_from n rs short = let left = length-drop n rs in nil_from_length (drop n rs) (omega (arith, left, short))

module _ (starts : List ℕ) (client : ℕ) (before after : List Request) (r : Request) (one : requests_of client after ≡ requests_of client before ++ r ∷ []) where
  -- one more, behind those that it passes over
  pub own_from : start_of starts client ≤ length (requests_of client before) → requests_from starts client after ≡ requests_from starts client before ++ r ∷ []
  own_from there = ap (drop (start_of starts client)) one ∙ push_from (start_of starts client) (requests_of client before) r there

  -- one that it passes over
  pub own_passed : length (requests_of client before) < start_of starts client → requests_from starts client after ≡ requests_from starts client before
  own_passed few =
      let more = ap (λ (l : List Request). length l) one in
      let push = length-append (requests_of client before) (r ∷ []) in
      none_from (start_of starts client) (requests_of client after) (omega (arith, few, more, push)) ∙ sym (none_from (start_of starts client) (requests_of client before) (omega (arith, few)))

-- another client's
pub other_from : (starts : List ℕ) (client : ℕ) (before after : List Request) → requests_of client after ≡ requests_of client before → requests_from starts client after ≡ requests_from starts client before
other_from starts client before after same = ap (drop (start_of starts client)) same

-- how many a client makes here
pub many_from : (starts : List ℕ) (client : ℕ) (requests : List Request) → length (requests_from starts client requests) ≡ length (requests_of client requests) - start_of starts client
many_from starts client requests = length-drop (start_of starts client) (requests_of client requests)

-- ---- answers to requests that are not listed

longer : (limit m n e f : ℕ) → m ≤ n → (e ≡ 0) ⊎ (e ≡ f) → (a : Answer) → IsListedOr (IsUnlisted limit m e) a → IsListedOr (IsUnlisted limit n f) a
longer limit m n e f more or (ListedAnswer place outcome) h = tt
longer limit m n e f more or NoMemory h = tt
longer limit m n e f more or (ListFull count) h = (h.0, let full = h.1 in omega arith)
longer limit m n e f more or (Halted faults) h = ⊎_elim (λ (none : e ≡ 0). absurd (h.1 (h.0 ∙ none))) (λ (same : e ≡ f). (h.0 ∙ same, h.1)) or

-- a list that is longer is as full; and faults that were told go on being those that were
pub still_unlisted : (limit m n e f : ℕ) → m ≤ n → (e ≡ 0) ⊎ (e ≡ f) → (answers : List Answer) → AreListedOr limit m e answers → AreListedOr limit n f answers
still_unlisted limit m n e f more or answers all = all_with (IsListedOr (IsUnlisted limit m e)) (IsListedOr (IsUnlisted limit n f)) (longer limit m n e f more or) answers all

right_unlisted : (first limit : ℕ) (old : LaneView) (what : Asked) (new : List Item) (a : Answer) → IsRightAnswer first limit old what new a → IsListedOr (IsUnlisted limit (length new) old.due.faults) a
right_unlisted first limit old what new (ListedAnswer place outcome) right = tt
right_unlisted first limit old what new NoMemory right = tt
right_unlisted first limit old what new (ListFull count) right = (right.2, let full = right.1 in omega arith)
right_unlisted first limit old what new (Halted faults) right = (right.1, right.2)

-- ---- the requests of a client

right_follows : (first limit : ℕ) (old : LaneView) (what : Asked) (new : List Item) (a : Answer) → IsRightAnswer first limit old what new a → (old.due.faults ≢ 0 → a ≡ Halted old.due.faults) → MayFollow (first + length old.list) old.due.faults a
right_follows first limit old what new (ListedAnswer place outcome) right halts = (right.1, not_told old.due.faults halts)
  where
    not_told : (faults : ℕ) → (faults ≢ 0 → ListedAnswer place outcome ≡ Halted faults) → faults ≡ 0
    not_told zero told = refl
    not_told (suc n) told = absurd (let other = told (λ none. omega (arith, none)) in cc)
right_follows first limit old what new NoMemory right halts = tt
right_follows first limit old what new (ListFull count) right halts = tt
right_follows first limit old what new (Halted faults) right halts = tt

-- none yet
pub made_none : (first limit : ℕ) (starts : List ℕ) (requests : List Request) (client : ℕ) (lane : LaneView) → MayBegin first starts requests client lane → HasMade first limit starts [] client lane
made_none first limit starts requests client lane begins = record {
  client_is = begins.fresh.client_is;
  start_is = begins.fresh.start_is;
  served = subst (λ (rs : List Request). IsServed first rs lane) (sym (none_from (start_of starts client) [] (omega arith))) (lanes_serve.starts first client (start_of starts client) lane begins.fresh);
  beyond = subst (StopsBeyond first limit) (sym begins.fresh.none) tt;
  others = subst (AreListedOr limit (length lane.list) lane.due.faults) (sym begins.fresh.none) tt;
}

-- one more
pub made_more : (first limit : ℕ) (starts : List ℕ) (client : ℕ) (before after : List Request) (r : Request) (old new : LaneView) → requests_from starts client after ≡ requests_from starts client before ++ r ∷ []
    → HasMade first limit starts before client old → IsSubmitted first limit old r.what new → HasMade first limit starts after client new
made_more first limit starts client before after r old new one made more = record {
  client_is = more.client_is ∙ made.client_is;
  start_is = more.start_is ∙ made.start_is;
  served = subst (λ rs. IsServed first rs new) (sym one) (lanes_serve.goes_on first limit (requests_from starts client before) r old new made.served more);
  beyond = subst (StopsBeyond first limit) (sym more.answers)
      (stops_more first limit (length old.list) old.due.faults old.answers more.answer made.others (right_follows first limit old r.what new.list more.answer more.right more.halts) made.beyond);
  others =
      (let grown : length old.list ≤ length new.list = (let e = ap (λ (l : List Item). length l) more.begins in let s = length-append old.list more.rest in omega arith) in
      let same : new.due.faults ≡ old.due.faults = ap (λ (d : Due). d.faults) more.due_is ∙ same_faults old.due more.answer in
      subst (λ (f : ℕ). AreListedOr limit (length new.list) f new.answers) (sym same)
      (subst (AreListedOr limit (length new.list) old.due.faults) (sym more.answers)
      (last_too (IsListedOr (IsUnlisted limit (length new.list) old.due.faults)) old.answers more.answer (still_unlisted limit (length old.list) (length new.list) old.due.faults old.due.faults grown (inr refl) old.answers made.others)
      (right_unlisted first limit old r.what new.list more.answer more.right))));
}

-- behind a receipt, or where there is none
pub made_kept : (first limit : ℕ) (starts : List ℕ) (client : ℕ) (requests : List Request) (old new : LaneView) → HasMade first limit starts requests client old → KeepsAnswers first old new → HasMade first limit starts requests client new
made_kept first limit starts client requests old new made keeps = record {
  client_is = keeps.client_is ∙ made.client_is;
  start_is = keeps.start_is ∙ made.start_is;
  served = record {
    many = ap (λ (l : List Answer). length l) keeps.answers_are ∙ made.served.many;
    entries = ap (λ c. mine_in c first new.list) keeps.client_is
        ∙ (keeps.own ∙ (made.served.entries ∙ (ap (λ (l : List Answer). expected_entries old.client old.start (requests_from starts client requests) l) (sym keeps.answers_are)
        ∙ (ap (λ c. expected_entries c old.start (requests_from starts client requests) new.answers) (sym keeps.client_is)
        ∙ ap (λ s. expected_entries new.client s (requests_from starts client requests) new.answers) (sym keeps.start_is)))));
  };
  beyond = subst (StopsBeyond first limit) (sym keeps.answers_are) made.beyond;
  others =
      (let grown : length old.list ≤ length new.list = (let e = ap (λ (l : List Item). length l) keeps.begins in let s = length-append old.list keeps.rest in omega arith) in
      subst (AreListedOr limit (length new.list) new.due.faults) (sym keeps.answers_are)
      (still_unlisted limit (length old.list) (length new.list) old.due.faults new.due.faults grown keeps.faults_are old.answers made.others));
}

-- one more, before which a receipt may have been asked for
pub made_requested : (first limit : ℕ) (starts : List ℕ) (client : ℕ) (before after : List Request) (r : Request) (old new : LaneView) → requests_from starts client after ≡ requests_from starts client before ++ r ∷ []
    → HasMade first limit starts before client old → HasRequested first limit old r.what new → HasMade first limit starts after client new
made_requested first limit starts client before after r old new one made more =
    made_more first limit starts client before after r more.between new one (made_kept first limit starts client before old more.between made more.keeps) more.submitted

-- it takes the room of one answer
pub room_requested : (first limit : ℕ) (old new : LaneView) (what : Asked) → HasRequested first limit old what new → new.spare + 1 ≡ old.spare
room_requested first limit old new what more = let a = more.submitted.spare_is in let b = more.keeps.spare_is in omega arith

-- another client's, or one that is passed over
pub made_same : (first limit : ℕ) (starts : List ℕ) (client : ℕ) (before after : List Request) (lane : LaneView) → requests_from starts client after ≡ requests_from starts client before
    → HasMade first limit starts before client lane → HasMade first limit starts after client lane
made_same first limit starts client before after lane same made = record {
  client_is = made.client_is;
  start_is = made.start_is;
  served = subst (λ rs. IsServed first rs lane) (sym same) made.served;
  beyond = made.beyond;
  others = made.others;
}

-- the number of the next request, once those that are passed over are behind
pub made_number : (first limit : ℕ) (starts : List ℕ) (client : ℕ) (requests : List Request) (lane : LaneView) → HasMade first limit starts requests client lane → start_of starts client ≤ length (requests_of client requests)
    → lane.start + length lane.answers ≡ length (requests_of client requests)
made_number first limit starts client requests lane made there =
    let start = made.start_is in
    let many = made.served.many in
    let left = many_from starts client requests in
    omega (arith, start, many, left, there)
