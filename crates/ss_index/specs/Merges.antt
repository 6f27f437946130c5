-- What is sought in a part, and how the parts of an index are read side by side.
use Rattle.std.specs.Prelude.{Option, Some, None, List, [], ◌∷◌, map, cond, drop}
use Rattle.std.specs.List.{AllByRecursion, flat_map, prefix_len}
use Rattle.std.specs.Option.{option_copied, option_map}
use Rattle.std.specs.Ordering.{is_lt, eq_by_cmp}
use Rattle.ss_chunks.specs.Chunks.{rest_items}
use Rattle.ss_value.specs.Rows.{Row}
use Rattle.ss_index.specs.Pairs.{Pair, pair_cmp, pair_of}
use Rattle.ss_index.specs.declared.index_entry.IndexEntry.{IndexEntry}
use Rattle.ss_index.specs.Entries.{Rises, is_before_end, ahead, pair_in}
use Rattle.ss_index.specs.Parts.{PartValue}
use Rattle.ss_index.specs.declared.merge.Head.{Head}
use Rattle.ss_index.specs.declared.search.PairAim.{PairAim}

-- the pair that is sought
abbrev pub aim_pair : PairAim → Pair
aim_pair aim = pair_of aim.columns.now aim.row.now aim.slot

-- the pairs that are ahead of a reader of a part
abbrev pub ahead_of : Head → List Pair
ahead_of h = ahead (option_copied h.here) (rest_items h.behind)

-- what is ahead of each reader
abbrev pub fronts : List Head → List (List Pair)
fronts hs = map ahead_of hs

-- all of it
abbrev pub in_front : List (List Pair) → List Pair
in_front ls = flat_map (λ l. l) ls

-- each list rises
abbrev pub AllRise : List (List Pair) → Type 0
AllRise ls = AllByRecursion Rises ls

-- the first of a list
abbrev pub first_in : List Pair → Option Pair
first_in [] = None
first_in (p ∷ ps) = Some p

-- the pair of an entry that may be missing
abbrev pub pair_at : Option IndexEntry → Option Pair
pair_at e = option_map pair_in e

-- the lesser of two pairs that may be missing
abbrev pub lesser : Option Pair → Option Pair → Option Pair
lesser None b = b
lesser (Some p) None = Some p
lesser (Some p) (Some q) = cond (is_lt (pair_cmp q p)) (Some q) (Some p)

-- the least pair at the front of a list
abbrev pub least_of : List (List Pair) → Option Pair
least_of [] = None
least_of (l ∷ ls) = lesser (first_in l) (least_of ls)

-- a list without the pairs at its front that are this one
abbrev pub skip_pair : Pair → List Pair → List Pair
skip_pair p [] = []
skip_pair p (q ∷ qs) = cond (eq_by_cmp pair_cmp p q) (skip_pair p qs) (q ∷ qs)

-- each list without them
abbrev pub skip_all : Pair → List (List Pair) → List (List Pair)
skip_all p ls = map (skip_pair p) ls

-- the pairs of a part that don't stand before a range
abbrev pub from_end : Row → PartValue → List Pair
from_end low x = drop (prefix_len (is_before_end low) x.listed) x.listed
