-- A value without one of its keys.
use Rattle.std.specs.Prelude.{ℕ, List}
use Rattle.std.specs.Ordering.{nat_cmp, match_ordering}
use Rattle.std.specs.Cmp.Lexicographic.{slice_cmp}
use Rattle.serde_json.specs.Data.{Data, object, Members, no_members, member}

-- the members but the one at this key
abbrev pub members_without : List ℕ → Members → Members
members_without k no_members = no_members
members_without k (member l d ms) = match_ordering (slice_cmp nat_cmp k l) (member l d (members_without k ms)) ms (member l d (members_without k ms))

-- the same of an object; another value stays as it is
abbrev pub without : List ℕ → Data → Data
without k (object ms) = object (members_without k ms)
without k d = d
