-- Lists that go on while all partitions are in hand.
--
-- Each entry touches some partition, and the list has none behind what the mark of that partition knew. So where the marks of all
-- partitions know one list, nothing stands behind it: that is the whole list, until a step under these marks joins it.
use Rattle.std.proofs.Common.{◌≡◌, ◌≢◌, ◌==◌, ◌≤◌, ◌<◌, ◌+◌, ◌⊎◌, inl, inr, ⊎_elim, ℕ, zero, suc, nat_lt, Bool, true, false, List, [], ◌∷◌, ◌++◌, map, drop, length, slice_get, slice_set, refl, sym, ap, ◌∙◌, subst, arith, length-append, append_assoc, append-nil, true≢false, IfNone, IfSome, None, Some, Err}
use Rattle.std.proofs.lemmas.Bool.{ltb-true, ltb-false}
use Rattle.std.proofs.lemmas.Bool.Decides.{eqb_tells}
use Rattle.std.proofs.lemmas.List.{append_cancel_left}
use Rattle.std.specs.List.{range_with_len}
use Rattle.std.specs.declared.option.Option.{Option}
use Rattle.ss_model.specs.declared.catalog.Catalog.{Catalog}
use Rattle.ss_model.specs.declared.entry.Entry.TheVariants.{Step as StepEntry}
use Rattle.ss_model.specs.Database.{Database}
use Rattle.ss_model.specs.Partitions.{home_of}
use Rattle.ss_model.specs.Replays.{Replays, after, entry_outcome}
use Rattle.ss_model.specs.Settling.{is_ready_now, next_settled}
use Rattle.ss_model.proofs.CallerLemmas.{goes_on, home_below}
use Rattle.ss_model_laws.proofs.CallerLemmas.{next_is_ready, touched_run}
use Rattle.ss_shard.specs.Parts.{all_partitions}
use Rattle.ss_shard.proofs.AllPartitions.{among_all}
use Rattle.ss_commitlog.specs.declared.placed.Unlisted.{Unlisted}
use Rattle.ss_commitlog.specs.declared.placed.Unlisted.TheVariants.{NoMemory, ListFull}
use Rattle.ss_commitlog.specs.declared.role.Role.{Role}
use Rattle.ss_commitlog.specs.declared.role.Role.TheVariants.{Part}
use Rattle.ss_commitlog.specs.declared.rule.Item.{Item}
use Rattle.ss_commitlog.specs.Growing.{GoesOn}
use Rattle.ss_commitlog.specs.Meaning.{concerns, listed_of}
use Rattle.ss_commitlog.specs.Roles.{In}
use Rattle.ss_commitlog.specs.Tokens.{Known, Continues, AllContinue, AllKnow, MeetAll, roles_of}
use Rattle.ss_commitlog.proofs.CallerLemmas.{in_left, in_right, listed_of-append, on_and_on, token_of}
use Rattle.ss_sched.specs.Ranks.{AreRanks}
use Rattle.ss_hand.specs.Hands.{IsInHand}
use Rattle.ss_hand.specs.declared.hand.Hand.{Hand}
use Rattle.ss_settle.specs.Ready.{FoundNext, NoneReady, NoneReadyBehind, StepsWhenFound, WasFirst, WasIdle}
use Rattle.ss_settle.specs.Settlings.{SettledTo}
use Rattle.ss_settle.specs.Wholes.{AllAt, EachTouches, MayBeWhole}
use Rattle.ss_turns.specs.Executed.{HoldsFor, IsStepped}
use Rattle.ss_turns.specs.Stepping.{EachGoesOn}
use Rattle.ss_settle.proofs.FirstIsNext.{first_is_next}
use Rattle.ss_turns.proofs.CallerLemmas.{all_met, all_on_and_on, continue_through, first_goes_on, first_in, reaching, roles_go_on}

-- ---- marks that know one list

pub known_at : (list : List Item) (ks : List Known) → AllAt list ks → (k : Known) → In k ks → k.list ≡ list
known_at list [] all k i = absurd i
known_at list (x ∷ xs) all k i = ⊎_elim (λ (e : k ≡ x). ap (λ (y : Known). y.list) e ∙ all.0) (λ j. known_at list xs all.1 k j) i

known_first : (list : List Item) (ks : List Known) → AllAt list ks → (k : Known) → slice_get ks 0 ≡ Some k → k.list ≡ list
known_first list [] all k is = absurd (cc)
known_first list (x ∷ xs) all k is = let same : k ≡ x = cc in ap (λ (y : Known). y.list) same ∙ all.0

pub all_know : (list : List Item) (ks ls : List Known) → AllKnow list ks ls → AllAt list ls
all_know list [] [] all = tt
all_know list [] (l ∷ ls) all = absurd all
all_know list (k ∷ ks) [] all = absurd all
all_know list (k ∷ ks) (l ∷ ls) all = (all.0.list_is, all_know list ks ls all.1)

-- where there was one, there still is
pub first_met : (catalog : Catalog) (n limit : ℕ) (ks ms : List Known) → MeetAll catalog n limit ks ms → (ks ≡ [] → ⊥) → 0 < length ms
first_met catalog n limit [] ms met some = absurd (some refl)
first_met catalog n limit (k ∷ ks) [] (list, short, know, on) some = absurd know
first_met catalog n limit (k ∷ ks) (m ∷ ms) met some = omega arith

-- a list that may be the whole one for later marks may be so for earlier ones
pub whole_before : (catalog : Catalog) (n : ℕ) (db : Database) (list : List Item) (ks ls : List Known) → EachGoesOn catalog n ks ls → MayBeWhole catalog n db list ls → MayBeWhole catalog n db list ks
whole_before catalog n db list ks ls all whole = record { touch = whole.touch; replays = whole.replays; on = continue_through catalog n list ks ls all whole.on }

-- ---- lists of entries that touch something

touches_before : (catalog : Catalog) (n : ℕ) (list front rest : List Item) → list ≡ front ++ rest → EachTouches catalog n list → EachTouches catalog n front
touches_before catalog n list front rest is each = λ i j. each i (subst (In i) (sym is) (in_left i front rest j))

part_there : (a m p : ℕ) → a ≤ p → p < a + m → In (Part p) (map Part (range_with_len a m))
part_there a zero p from low = absurd (omega arith)
part_there a (suc m) p from low = by (eqb_tells p a) (λ on. part_there (a + 1) m p on (omega arith))
  where
    by : ((p == a ≡ true) × (p ≡ a)) ⊎ ((p == a ≡ false) × (p ≢ a)) → (a + 1 ≤ p → In (Part p) (map Part (range_with_len (a + 1) m))) → In (Part p) (map Part (range_with_len a (suc m)))
    by (inl same) later = inl (ap Part same.1)
    by (inr other) later = let apart : p ≢ a = other.1 in inr (later (omega arith))

module _ (catalog : Catalog) (n : ℕ) (some : 1 ≤ n) where
  -- the mark of each partition
  pub mark_of : (p : ℕ) → p < n → (ks : List Known) → roles_of ks ≡ map Part (all_partitions n) → (k : Known) × In k ks × (k.role ≡ Part p)
  mark_of p low ks roles = token_of (Part p) ks (subst (In (Part p)) (sym roles) (part_there 0 n p (omega arith) (omega arith)))

  -- nothing stands behind what the marks of all partitions know: an entry there would touch some partition, whose mark is among them
  pub no_more : (db : Database) (list old : List Item) (ks : List Known) → roles_of ks ≡ map Part (all_partitions n) → AllAt old ks → MayBeWhole catalog n db list ks → list ≡ old
  no_more db list old ks roles know may =
      let (k, there, is) = mark_of 0 some ks roles in
      let b = may.on k there in
      let whole : list ≡ old ++ b.rest = b.is ∙ ap (λ (l : List Item). l ++ b.rest) (known_at old ks know k there) in
      whole ∙ (ap (λ (l : List Item). old ++ l) (none b.rest whole) ∙ append-nil old)
    where
      none : (rest : List Item) → list ≡ old ++ rest → rest ≡ []
      none [] whole = refl
      none (i ∷ is) whole =
          let (p, touched) = may.touch i (subst (In i) (sym whole) (in_right i old (i ∷ is) (inl refl))) in
          let (k, there, role) = mark_of p (touched_run catalog n some i.listed.entry p touched) ks roles in
          let b = may.on k there in
          let mine : list ≡ old ++ b.rest = b.is ∙ ap (λ (l : List Item). l ++ b.rest) (known_at old ks know k there) in
          let same : b.rest ≡ i ∷ is = append_cancel_left old b.rest (i ∷ is) (sym mine ∙ whole) in
          let quiet : concerns catalog n i.listed.entry (Part p) ≡ false = subst (λ (r : Role). concerns catalog n i.listed.entry r ≡ false) role (b.quiet i (subst (In i) (sym same) (inl refl))) in
          absurd (true≢false (sym touched ∙ quiet))

  -- ---- there is one at most

  -- one of these marks knows a list that is no shorter than that of any other
  longest : (k : Known) (ks : List Known) → (m : Known) × In m (k ∷ ks) × ((l : Known) → In l (k ∷ ks) → length l.list ≤ length m.list)
  longest k [] = (k, inl refl, λ l i. ⊎_elim (λ (e : l ≡ k). subst (λ (x : Known). length x.list ≤ length k.list) (sym e) (omega arith)) (λ (none : ⊥). absurd none) i)
  longest k (x ∷ xs) = by (longest x xs)
    where
      by : (m : Known) × In m (x ∷ xs) × ((l : Known) → In l (x ∷ xs) → length l.list ≤ length m.list) → (m : Known) × In m (k ∷ (x ∷ xs)) × ((l : Known) → In l (k ∷ (x ∷ xs)) → length l.list ≤ length m.list)
      by (m, there, most) = of_two (nat_lt (length m.list) (length k.list)) refl
        where
          of_two : (b : Bool) → nat_lt (length m.list) (length k.list) ≡ b → (y : Known) × In y (k ∷ (x ∷ xs)) × ((l : Known) → In l (k ∷ (x ∷ xs)) → length l.list ≤ length y.list)
          of_two true is = (
            k,
            inl refl,
            λ l i. ⊎_elim (λ (e : l ≡ k). subst (λ (y : Known). length y.list ≤ length k.list) (sym e) (omega arith))
                (λ (j : In l (x ∷ xs)). let low = most l j in let more = ltb-true (length m.list) (length k.list) is in omega (arith, low, more)) i,
          )
          of_two false is = (m, inr there, λ l i. ⊎_elim (λ (e : l ≡ k). subst (λ (y : Known). length y.list ≤ length m.list) (sym e) (ltb-false (length m.list) (length k.list) is)) (λ (j : In l (x ∷ xs)). most l j) i)

  -- what stands at a place stands behind whatever is no longer
  in_behind : (xs rest ys : List Item) (i : Item) (is : List Item) → xs ++ rest ≡ ys ++ i ∷ is → length xs ≤ length ys → In i rest
  in_behind [] rest ys i is e short = subst (In i) (sym e) (in_right i ys (i ∷ is) (inl refl))
  in_behind (x ∷ xs) rest [] i is e short = absurd (omega (arith, short))
  in_behind (x ∷ xs) rest (y ∷ ys) i is e short = in_behind xs rest ys i is (ap (drop 1) e) (omega (arith, short))

  -- a list that may be whole is the longest that a mark knows
  is_longest : (db : Database) (list : List Item) (ks : List Known) → roles_of ks ≡ map Part (all_partitions n) → MayBeWhole catalog n db list ks → (m : Known) → In m ks → ((l : Known) → In l ks → length l.list ≤ length m.list) → list ≡ m.list
  is_longest db list ks roles may m there most = let b = may.on m there in b.is ∙ (ap (λ (l : List Item). m.list ++ l) (none b.rest b.is) ∙ append-nil m.list)
    where
      none : (rest : List Item) → list ≡ m.list ++ rest → rest ≡ []
      none [] whole = refl
      none (i ∷ is) whole =
          let (p, touched) = may.touch i (subst (In i) (sym whole) (in_right i m.list (i ∷ is) (inl refl))) in
          let (k, in_ks, role) = mark_of p (touched_run catalog n some i.listed.entry p touched) ks roles in
          let b = may.on k in_ks in
          let quiet : concerns catalog n i.listed.entry (Part p) ≡ false = subst (λ (r : Role). concerns catalog n i.listed.entry r ≡ false) role (b.quiet i (in_behind k.list b.rest m.list i is (sym b.is ∙ whole) (most k in_ks))) in
          absurd (true≢false (sym touched ∙ quiet))

  -- so one list at most may be whole for the marks of all partitions
  pub one_whole : (db : Database) (a b : List Item) (ks : List Known) → roles_of ks ≡ map Part (all_partitions n) → MayBeWhole catalog n db a ks → MayBeWhole catalog n db b ks → a ≡ b
  one_whole db a b ks roles may may_too = by ks refl
    where
      by : (xs : List Known) → xs ≡ ks → a ≡ b
      by [] is = let (k, there, role) = mark_of 0 some ks roles in absurd (subst (In k) (sym is) there)
      by (x ∷ xs) is =
          let (m, there, most) = longest x xs in
          let in_ks : In m ks = subst (In m) is there in
          let most_of : (l : Known) → In l ks → length l.list ≤ length m.list = λ l i. most l (subst (In l) (sym is) i) in
          is_longest db a ks roles may m in_ks most_of ∙ sym (is_longest db b ks roles may_too m in_ks most_of)

  -- ---- one entry more

  -- a list is another, which was whole for these marks, with an entry behind it that has its outcome there
  pub record HasOneMore (db : Database) (list mid : List Item) (i : Item) (ks : List Known) : Type 0 where
    pub is : list ≡ mid ++ i ∷ []
    pub whole : MayBeWhole catalog n db mid ks
    pub outcome : entry_outcome catalog (after catalog db (listed_of mid)) i.listed.entry ≡ Some i.listed.outcome

  -- so is what is whole once an entry has joined the list under the marks of all partitions
  pub whole_with : (db : Database) (list mid : List Item) (i : Item) (ks ls : List Known) → roles_of ls ≡ map Part (all_partitions n) → AllKnow (mid ++ i ∷ []) ks ls → AllContinue catalog n mid ks → MayBeWhole catalog n db list ls
      → HasOneMore db list mid i ks
  whole_with db list mid i ks ls roles know on may =
      let is = no_more db list (mid ++ i ∷ []) ls roles (all_know (mid ++ i ∷ []) ks ls know) may in
      let both = (goes_on catalog db (listed_of mid) (listed_of (i ∷ []))).splits (subst (Replays catalog db) (ap listed_of is ∙ listed_of-append mid (i ∷ [])) may.replays) in
      record {
        is = is;
        whole = record { touch = touches_before catalog n list mid (i ∷ []) is may.touch; replays = both.0; on = on };
        outcome = both.1.0;
      }

  -- all partitions are in hand, so all that a step touches are
  pub holds_all : {I : Type 0} (db : Database) (hand : Hand I) (q : ℕ) → IsInHand catalog n db (all_partitions n) hand → HoldsFor catalog n db hand (StepEntry q 0)
  holds_all db hand q in_hand = record {
    held = all_partitions n;
    in_hand = in_hand;
    touched = λ p touched. among_all n p (touched_run catalog n some (StepEntry q 0) p touched);
  }

-- ---- looks that found nothing

nothing_between : (xs ys zs : List Item) → xs ++ (ys ++ zs) ≡ xs → ys ≡ []
nothing_between xs [] zs e = refl
nothing_between xs (y ∷ ys) zs e = let l = ap (λ (x : List Item). length x) e in let m = length-append xs (y ∷ (ys ++ zs)) in absurd (omega arith)

-- a list behind which a mark looked is the whole one, where that is what it knew at first
whole_between : (catalog : Catalog) (n : ℕ) (list : List Item) (old between new : Known) → GoesOn catalog n old between → GoesOn catalog n between new → old.list ≡ list → Continues catalog n list new → between.list ≡ list
whole_between catalog n list old between new since on at reach =
    let till = on_and_on catalog n between new _ on (reaching catalog n list new reach) in
    let whole : old.list ++ (since.on.rest ++ till.on.rest) ≡ old.list
    = sym (append_assoc old.list since.on.rest till.on.rest) ∙ (ap (λ (x : List Item). x ++ till.on.rest) (sym since.on.is) ∙ (sym till.on.is ∙ sym at)) in
    let none = nothing_between old.list since.on.rest till.on.rest whole in
    since.on.is ∙ (ap (λ (x : List Item). old.list ++ x) none ∙ (append-nil old.list ∙ at))

idle_behind : (catalog : Catalog) (n : ℕ) (db : Database) (list : List Item) (old new : Known) → ((p : ℕ) → p < n → WasIdle catalog n db p old new) → old.list ≡ list → Continues catalog n list new → NoneReadyBehind catalog n db list
idle_behind catalog n db list old new was at on = λ p low.
    let w = was p low in subst (λ (x : List Item). NoneReady catalog n (after catalog db (listed_of x)) p) (whole_between catalog n list old w.between new w.since w.till at on) w.idle

ready_behind : (catalog : Catalog) (n : ℕ) (db : Database) (list : List Item) (old new : Known) (q : ℕ) → StepsWhenFound catalog n db old new q → old.list ≡ list → Continues catalog n list new → is_ready_now catalog (after catalog db (listed_of list)) q ≡ true
ready_behind catalog n db list old new q w at on =
    subst (λ (x : List Item). is_ready_now catalog (after catalog db (listed_of x)) q ≡ true) (whole_between catalog n list old w.between new w.since w.till at on) w.ready

-- what was first of all that were ready at each partition is the next one of settling
next_behind : (catalog : Catalog) (n : ℕ) → 1 ≤ n → (ranks : List ℕ) → AreRanks catalog ranks → (db : Database) (list : List Item) (old new : Known) (q : ℕ) → StepsWhenFound catalog n db old new q
    → ((p : ℕ) → p < n → WasFirst catalog n db ranks p old new q) → old.list ≡ list → Continues catalog n list new → next_settled catalog (after catalog db (listed_of list)) ≡ Some q
next_behind catalog n some ranks are db list old new q w first at on =
    first_is_next catalog ranks are (after catalog db (listed_of list)) q (ready_behind catalog n db list old new q w at on) (λ r ready. let f = first (home_of catalog n r) (home_below n (slice_get catalog.procedures r) some) in f.first r (refl, subst (λ (x : List Item). is_ready_now catalog (after catalog db (listed_of x)) r ≡ true) (sym (whole_between catalog n list old f.between new f.since f.till at on)) ready))

-- marks that met, the first of which then looked
module _ (catalog : Catalog) (n limit : ℕ) (ks ms : List Known) (k l : Known) (met : MeetAll catalog n limit ks ms) (looks : slice_get ms 0 ≡ Some k) (goes : GoesOn catalog n k l) where
  -- they went on
  pub looked_on : EachGoesOn catalog n ks (slice_set ms 0 l)
  looked_on = let (list, short, know, on) = met in all_on_and_on catalog n ks ms (slice_set ms 0 l) (all_met catalog n list ks ms know on) (first_goes_on catalog n ms k l looks goes)

  module _ (some : 1 ≤ n) (roles : roles_of ks ≡ map Part (all_partitions n)) where
    -- they all knew the whole list
    knew_whole : (db : Database) (whole : List Item) → MayBeWhole catalog n db whole (slice_set ms 0 l) → (k.list ≡ whole) × Continues catalog n whole l
    knew_whole db whole may =
        let (list, short, know, on) = met in
        let same_roles : roles_of ms ≡ map Part (all_partitions n) = roles_go_on catalog n ks ms (all_met catalog n list ks ms know on) ∙ roles in
        let at : AllAt list ms = all_know list ks ms know in
        let same : whole ≡ list = no_more catalog n some db whole list ms same_roles at (whole_before catalog n db whole ms (slice_set ms 0 l) (first_goes_on catalog n ms k l looks goes) may) in
        (known_first list ms at k looks ∙ sym same, may.on l (first_in ms k l looks))

    -- where the look found nothing, no procedure is ready behind it
    pub none_found : (db : Database) (found : Option ℕ) → IfNone found ((p : ℕ) → p < n → WasIdle catalog n db p k l) → IfNone found ((list : List Item) → MayBeWhole catalog n db list (slice_set ms 0 l) → NoneReadyBehind catalog n db list)
    none_found db (Some q) was = tt
    none_found db None was = λ whole may. let (at, on) = knew_whole db whole may in idle_behind catalog n db whole k l was at on

    -- and what it found first is the next one of settling
    pub some_found : (ranks : List ℕ) → AreRanks catalog ranks → (db : Database) (found : Option ℕ) → IfSome found (StepsWhenFound catalog n db k l) → IfSome found (λ q. (p : ℕ) → p < n → WasFirst catalog n db ranks p k l q)
        → IfSome found (FoundNext catalog n db (slice_set ms 0 l))
    some_found ranks are db None was first = tt
    some_found ranks are db (Some q) was first = record {
      fits = was.fits;
      next = λ whole may. let (at, on) = knew_whole db whole may in next_behind catalog n some ranks are db whole k l q was first at on;
    }

-- ---- settling

module _ {I : Type 0} (catalog : Catalog) (n : ℕ) (some : 1 ≤ n) (db : Database) (hand kept : Hand I) (kept_in : IsInHand catalog n db (all_partitions n) kept) (first limit q : ℕ) (found : FoundNext catalog n db hand.marks q) where
  -- the list is full, and the procedure still ready
  full_on : (count : ℕ) → IsStepped catalog n first limit q hand.marks kept.marks (Err (ListFull count)) → (list : List Item) → MayBeWhole catalog n db list kept.marks → SettledTo catalog n db limit list (Err (ListFull count))
  full_on count stepped list may =
      let (mid, count_is, full, all, before) = stepped in
      let whole : list ≡ mid = no_more catalog n some db list mid kept.marks kept_in.roles (all_know mid hand.marks kept.marks all) may in (
        ap (λ (x : List Item). length x) whole ∙ full,
        count_is,
        (
          q,
          (next_is_ready catalog (after catalog db (listed_of list))).some q
              (found.next list (record { touch = may.touch; replays = may.replays; on = subst (λ (x : List Item). AllContinue catalog n x hand.marks) (sym whole) before })),
        ),
      )

  -- a step had no place in the list, and settling ended by it
  pub ended_with : (why : Unlisted) → IsStepped catalog n first limit q hand.marks kept.marks (Err why) → (list : List Item) → MayBeWhole catalog n db list kept.marks → SettledTo catalog n db limit list (Err why)
  ended_with NoMemory stepped list may = tt
  ended_with (ListFull count) stepped list may = full_on count stepped list may
