-- The value at a key has at most as many levels as the whole.
use Rattle.std.proofs.Common.{◌≤◌, ℕ, suc, List, Option, Some, None, arith, Ordering, Less, Equal, Greater}
use Rattle.std.specs.Prelude.{IfSome}
use Rattle.std.specs.Ordering.{nat_cmp, match_ordering}
use Rattle.std.specs.Cmp.Lexicographic.{slice_cmp}
use Rattle.serde_json.specs.Data.{Data, null, boolean, number, string, array, object, Members, no_members, member, depth, members_depth}
use Rattle.serde_json.specs.Find.{get, get_member}

member_levels : (k : List ℕ) (ms : Members) → IfSome (get_member k ms) (λ e. depth e ≤ members_depth ms)
member_levels k no_members = tt
member_levels k (member l d ms) = by (slice_cmp nat_cmp k l) (behind (get_member k ms) (member_levels k ms))
  where
    behind : (o : Option Data) → IfSome o (λ e. depth e ≤ members_depth ms) → IfSome o (λ e. depth e ≤ members_depth (member l d ms))
    behind None h = tt
    behind (Some e) h = omega arith

    by : (o : Ordering) → IfSome (get_member k ms) (λ e. depth e ≤ members_depth (member l d ms))
        → IfSome (match_ordering o (get_member k ms) (Some d) (get_member k ms)) (λ e. depth e ≤ members_depth (member l d ms))
    by Less rest = rest
    by Equal rest = omega arith
    by Greater rest = rest

pub levels_at : (k : List ℕ) (d : Data) → IfSome (get k d) (λ e. depth e ≤ depth d)
levels_at k null = tt
levels_at k (boolean b) = tt
levels_at k (number n) = tt
levels_at k (string s) = tt
levels_at k (array ds) = tt
levels_at k (object ms) = by (get_member k ms) (member_levels k ms)
  where
    by : (o : Option Data) → IfSome o (λ e. depth e ≤ members_depth ms) → IfSome o (λ e. depth e ≤ suc (members_depth ms))
    by None h = tt
    by (Some e) h = omega arith
