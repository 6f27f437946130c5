-- Clients in a list, each with its lane.
use Rattle.std.proofs.Common.{◌≡◌, ℕ, zero, suc, ◌-◌, ◌<◌, ◌≤◌, List, [], ◌∷◌, ◌++◌, length, map, get_or, take, drop, slice_get, Option, Some, IfSome, refl, sym, ap, subst, ◌∙◌, arith}
use Rattle.std.proofs.lemmas.List.{length-drop, length_push, take_at}
use Rattle.ss_model.specs.declared.entry.Request.{Request}
use Rattle.ss_report_laws.specs.Replies.{requests_of}
use Rattle.ss_lanes.specs.declared.client.Client.{Client}
use Rattle.ss_lanes.specs.Clients.{AllThere, EachAt, EachHasLane, HasLane, MayBegin, lane_of, some_lane}
use Rattle.ss_lanes.specs.Lanes.{LaneView, IsFresh, start_of}

-- what holds at each number holds at one number more
pub each_more : {A : Type 0} (P : ℕ → A → Type 0) (xs : List A) (x : A) → ((k : ℕ) (d : A) → k < length xs → P k (get_or xs k d)) → P (length xs) x
    → (k : ℕ) (d : A) → k < length (xs ++ x ∷ []) → P k (get_or (xs ++ x ∷ []) k d)
each_more P [] x each last zero d below = last
each_more P [] x each last (suc k) d below = absurd (omega (arith, below))
each_more P (y ∷ xs) x each last zero d below = each zero d (omega arith)
each_more P (y ∷ xs) x each last (suc k) d below = each_more (λ n. P (suc n)) xs x (λ n e l. each (suc n) e (omega (arith, l))) last k d (omega (arith, below))

-- what stands at the head of the rest of a list
at_rest : {A : Type 0} (n : ℕ) (xs : List A) (x : A) (ys : List A) → x ∷ ys ≡ drop n xs → (slice_get xs n ≡ Some x) × (ys ≡ drop (suc n) xs)
at_rest zero [] x ys e = absurd (cc)
at_rest zero (z ∷ zs) x ys e = (cc, cc)
at_rest (suc n) [] x ys e = absurd (cc)
at_rest (suc n) (z ∷ zs) x ys e = at_rest n zs x ys e

module _ {I : Type 0} where
  pub one_client : (P : ℕ → LaneView → Type 0) (cs : List (Client I)) (c : Client I) → EachHasLane (length cs) P cs → HasLane (P (length cs)) c → EachHasLane (length (cs ++ c ∷ [])) P (cs ++ c ∷ [])
  one_client P cs c before last = record { many_are = refl; each = each_more (λ k (x : Client I). HasLane (P k) x) cs c before.each last }

  -- what holds of each of a slice holds of the vector whose items it is
  pub of_slice : (len : ℕ) (P : ℕ → LaneView → Type 0) (cs news : List (Client I)) → length news ≡ length cs → len ≡ length cs
      → ((k : ℕ) (d : Client I) → k < length cs → HasLane (P k) (get_or news k d)) → EachHasLane (length cs) P (take len (news ++ drop (length news) cs))
  of_slice len P cs news long full each =
      subst (λ (l : List (Client I)). EachHasLane (length cs) P l) (sym (take_at news (drop (length news) cs) len (long ∙ sym full)))
      (record { many_are = long; each = λ k d below. each k d (let e = long in omega arith) })

  there : (P : ℕ → LaneView → Type 0) (cs : List (Client I)) → ((k : ℕ) (d : Client I) → k < length cs → HasLane (P k) (get_or cs k d)) → AllThere cs
  there P [] each = tt
  there P (c ∷ cs) each = ((each zero c (omega arith)).there, there (λ n. P (suc n)) cs (λ n d l. each (suc n) d (omega (arith, l))))

  -- no lane is away
  pub all_there : (many : ℕ) (P : ℕ → LaneView → Type 0) (cs : List (Client I)) → EachHasLane many P cs → AllThere cs
  all_there many P cs has = there P cs has.each

  at : (P : ℕ → LaneView → Type 0) (lanes : List LaneView) (cs : List (Client I)) → map some_lane lanes ≡ map lane_of cs
      → ((k : ℕ) (d : Client I) → k < length cs → HasLane (P k) (get_or cs k d)) → EachAt P lanes
  at P [] cs same each k lane is = absurd (cc)
  at P (l ∷ ls) [] same each k lane is = absurd (cc)
  at P (l ∷ ls) (c ∷ cs) same each zero lane is =
      let own : c.lane ≡ Some lane = cc in
      subst (λ (o : Option LaneView). IfSome o (P zero)) own (each zero c (omega arith)).lane_is
  at P (l ∷ ls) (c ∷ cs) same each (suc k) lane is =
      let rest : map some_lane ls ≡ map lane_of cs = cc in
      at (λ n. P (suc n)) ls cs rest (λ n d below. each (suc n) d (omega (arith, below))) k lane is

  -- what holds of the lanes of clients holds of these lanes
  pub of_lanes : (many : ℕ) (P : ℕ → LaneView → Type 0) (lanes : List LaneView) (cs : List (Client I)) → map some_lane lanes ≡ map lane_of cs → EachHasLane many P cs → EachAt P lanes
  of_lanes many P lanes cs same has = at P lanes cs same has.each

  as_many : (lanes : List LaneView) (cs : List (Client I)) → map some_lane lanes ≡ map lane_of cs → length lanes ≡ length cs
  as_many [] [] same = refl
  as_many [] (c ∷ cs) same = absurd (cc)
  as_many (l ∷ ls) [] same = absurd (cc)
  as_many (l ∷ ls) (c ∷ cs) same = let rest : map some_lane ls ≡ map lane_of cs = cc in ap suc (as_many ls cs rest)

  pub many_lanes : (many : ℕ) (P : ℕ → LaneView → Type 0) (lanes : List LaneView) (cs : List (Client I)) → map some_lane lanes ≡ map lane_of cs → EachHasLane many P cs → length lanes ≡ many
  many_lanes many P lanes cs same has = as_many lanes cs same ∙ has.many_are

  -- one lane more has become a client
  pub one_begins : (first : ℕ) (starts : List ℕ) (requests : List Request) (lanes rest : List LaneView) (cs news : List (Client I)) (lane new : LaneView) (room : ℕ)
      → EachAt (λ k. IsFresh first k (start_of starts k)) lanes → lane ∷ rest ≡ drop (length cs) lanes
      → new ≡ record { client = lane.client; start = lane.start; list = lane.list; count = lane.count; due = lane.due; answers = lane.answers; spare = new.spare }
      → room ≡ length (requests_of (length cs) requests) - start_of starts (length cs) → room ≤ new.spare → news ≡ cs ++ record { lane = Some new } ∷ [] → EachHasLane (length cs) (MayBegin first starts requests) cs
      → (rest ≡ drop (length news) lanes) × EachHasLane (length news) (MayBegin first starts requests) news
  one_begins first starts requests lanes rest cs news lane new room fresh left same counted enough more begin =
      let here = at_rest (length cs) lanes lane rest left in
      let f = fresh (length cs) lane here.0 in
      let begins : MayBegin first starts requests (length cs) new = record {
        fresh = subst (IsFresh first (length cs) (start_of starts (length cs))) (sym same)
            (record { client_is = f.client_is; start_is = f.start_is; list_is = f.list_is; seen = f.seen; nothing_due = f.nothing_due; none = f.none });
        room = subst (λ n. n ≤ new.spare) (counted ∙ sym (length-drop (start_of starts (length cs)) (requests_of (length cs) requests))) enough;
      } in
      let c : Client I = record { lane = Some new } in
      let long : length news ≡ suc (length cs) = ap (λ (l : List (Client I)). length l) more ∙ (length_push cs c ∙ (omega arith)) in (
        here.1 ∙ ap (λ n. drop n lanes) (sym long),
        subst (λ (l : List (Client I)). EachHasLane (length l) (MayBegin first starts requests) l) (sym more) (one_client (MayBegin first starts requests) cs c begin (record { there = refl; lane_is = begins })),
      )
