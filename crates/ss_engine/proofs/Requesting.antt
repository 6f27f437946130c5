-- A client that goes through all requests: it passes over its first ones, and makes its others.
use Rattle.std.proofs.Common.{◌≡◌, ℕ, suc, ◌+◌, ◌-◌, ◌<◌, ◌≤◌, ◌==◌, true, false, List, [], ◌∷◌, ◌++◌, length, take, drop, get_or, ap, subst, arith}
use Rattle.std.proofs.lemmas.List.{length_push, take_all}
use Rattle.ss_model.specs.declared.entry.Request.{Request}
use Rattle.ss_report_laws.specs.Replies.{requests_of}
use Rattle.ss_lanes.specs.Between.{HasRequested}
use Rattle.ss_lanes.specs.Clients.{HasMade, MayBegin}
use Rattle.ss_lanes.specs.Lanes.{LaneView, start_of}
use Rattle.ss_lanes.proofs.CallerLemmas.{made_none, made_number, made_requested, made_same, many_from, other_from, other_left, other_more, own_from, own_left, own_more, own_passed, room_requested}

-- so many requests are behind it, of which it made those that it is to make here; it has so many to pass over yet, and there is room for
-- the answers to the others
pub record IsUnderway (first limit : ℕ) (starts : List ℕ) (rs : List Request) (k i earlier : ℕ) (lane : LaneView) : Type 0 where
  pub made : HasMade first limit starts (take i rs) k lane
  pub passing : earlier ≡ start_of starts k - length (requests_of k (take i rs))
  pub within : length (requests_of k (take i rs)) ≤ i
  pub room : length (requests_of k (drop i rs)) ≤ lane.spare + earlier

-- before the first request
pub sets_out : (first limit : ℕ) (starts : List ℕ) (rs : List Request) (k earlier : ℕ) (lane : LaneView) → earlier ≡ start_of starts k → MayBegin first starts rs k lane → IsUnderway first limit starts rs k 0 earlier lane
sets_out first limit starts rs k earlier lane is begins = record {
  made = made_none first limit starts rs k lane begins;
  passing = omega (arith, is);
  within = omega arith;
  room = (let many = many_from starts k rs in let room = begins.room in omega (arith, is, many, room));
}

-- behind the last one
pub has_come : (first limit : ℕ) (starts : List ℕ) (rs : List Request) (k i earlier : ℕ) (lane : LaneView) → length rs ≤ i → IsUnderway first limit starts rs k i earlier lane → HasMade first limit starts rs k lane
has_come first limit starts rs k i earlier lane end u = subst (λ (l : List Request). HasMade first limit starts l k lane) (take_all i rs end) u.made

module _ (first limit : ℕ) (starts : List ℕ) (rs : List Request) (k i earlier : ℕ) (r : Request) (lane : LaneView) (below : i < length rs) (here : r ≡ get_or rs i r) (u : IsUnderway first limit starts rs k i earlier lane) where
  -- another client's request
  pub passes_others : (r.client == k) ≡ false → IsUnderway first limit starts rs k (i + 1) earlier lane
  passes_others other =
      let same = other_more k rs i r below here other in
      let long = ap (λ (l : List Request). length l) same in
      let left = ap (λ (l : List Request). length l) (other_left k rs i r below here other) in
      let passing = u.passing in
      let within = u.within in
      let room = u.room in
      record {
        made = made_same first limit starts k (take i rs) (take (i + 1) rs) lane (other_from starts k (take i rs) (take (i + 1) rs) same) u.made;
        passing = omega (arith, passing, long);
        within = omega (arith, within, long);
        room = omega (arith, room, left);
      }

  -- one of its own
  module _ (own : (r.client == k) ≡ true) where
    one : requests_of k (take (i + 1) rs) ≡ requests_of k (take i rs) ++ r ∷ []
    one = own_more k rs i r below here own

    long : length (requests_of k (take (i + 1) rs)) ≡ length (requests_of k (take i rs)) + 1
    long = let push = length_push (requests_of k (take i rs)) r in let more = ap (λ (l : List Request). length l) one in omega (arith, push, more)

    left : length (requests_of k (drop i rs)) ≡ suc (length (requests_of k (drop (i + 1) rs)))
    left = own_left k rs i r below here own

    -- it is passed over
    pub passes_over : (less : ℕ) → 0 < earlier → less ≡ earlier - 1 → IsUnderway first limit starts rs k (i + 1) less lane
    passes_over less some is =
        let passing = u.passing in
        let within = u.within in
        let room = u.room in
        let more = long in
        let rest = left in
        let few : length (requests_of k (take i rs)) < start_of starts k = omega (arith, passing, some) in
        record {
          made = made_same first limit starts k (take i rs) (take (i + 1) rs) lane (own_passed starts k (take i rs) (take (i + 1) rs) r one few) u.made;
          passing = omega (arith, passing, is, some, more);
          within = omega (arith, within, more);
          room = omega (arith, room, rest, is, some);
        }

    -- it is to be made
    module _ (none : earlier ≡ 0) where
      begun : start_of starts k ≤ length (requests_of k (take i rs))
      begun = let passing = u.passing in omega (arith, passing, none)

      pub room_for : 1 ≤ lane.spare
      room_for = let room = u.room in let rest = left in omega (arith, room, rest, none)

      -- its number is that of one of the requests
      pub number_within : lane.start + length lane.answers ≤ i
      number_within = let number = made_number first limit starts k (take i rs) lane u.made begun in let within = u.within in omega (arith, number, within)

      pub makes : (new : LaneView) → HasRequested first limit lane r.what new → IsUnderway first limit starts rs k (i + 1) earlier new
      makes new requested =
          let passing = u.passing in
          let within = u.within in
          let room = u.room in
          let more = long in
          let rest = left in
          let spare = room_requested first limit lane new r.what requested in
          record {
            made = made_requested first limit starts k (take i rs) (take (i + 1) rs) r lane new (own_from starts k (take i rs) (take (i + 1) rs) r one begun) u.made requested;
            passing = omega (arith, passing, none, more);
            within = omega (arith, within, more);
            room = omega (arith, room, rest, spare);
          }
